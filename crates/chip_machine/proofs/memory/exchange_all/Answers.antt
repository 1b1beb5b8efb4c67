use Rattle.std.proofs.Common.{◌≡◌, ◌≢◌, ℕ, ◌<◌, List, length, take, get_or, set, sym, ap, ◌∙◌, arith, get_or-take}
use Rattle.chip_machine.specs.inner.Exchanged.{chosen, chosen-new, chosen-same, exchanged_none, exchanged-next, exchanged_more, exchanged_all}
use Rattle.chip_machine.proofs.memory.exchange_all.Goals as goal
use Rattle.chip_machine.proofs.memory.exchange_all.Goals.{then-old-i, else-old-i}

pub loop-i-init : goal.loop-i-init
loop-i-init c = exchanged_none c.args.bytes.now 0 c.args.old.now c.args.new.now

taken_new : (old new : List ℕ) (there n i v : ℕ) → i < n → get_or (take n old) i 0 ≢ get_or (take n new) i 0 → v ≡ get_or (take n new) i 0 → v ≡ chosen there (get_or old i 0) (get_or new i 0)
taken_new old new there n i v l apart is =
    is ∙ get_or-take n new i 0 l
    ∙ sym (chosen-new there (get_or old i 0) (get_or new i 0) (λ same. apart (get_or-take n old i 0 l ∙ same ∙ sym (get_or-take n new i 0 l))))

taken_same : (old new : List ℕ) (there n i v : ℕ) → i < n → get_or (take n old) i 0 ≡ get_or (take n new) i 0 → v ≡ there → v ≡ chosen there (get_or old i 0) (get_or new i 0)
taken_same old new there n i v l same is =
    is ∙ sym (chosen-same there (get_or old i 0) (get_or new i 0) (sym (get_or-take n old i 0 l) ∙ same ∙ get_or-take n new i 0 l))

pub loop-i-preserved : goal.loop-i-preserved
loop-i-preserved c =
    let m = c.args.bytes.now in
    let old = c.args.old.now in
    let new = c.args.new.now in
    let i = c.loop-i.i in
    let v = c.if-old-i.bytes in
    let there : get_or c.loop-i.bytes i 0 ≡ get_or m i 0 = ap (λ xs. get_or xs i 0) c.loop-i.invariant ∙ exchanged-next m 0 old new i i c.loop-i-test.true (omega arith) in
    let stored : v ≡ chosen (get_or m i 0) (get_or old i 0) (get_or new i 0) = elim c.if-old-i.branch [
      | then-old-i w ↦ taken_new old new (get_or m i 0) (length m) i v c.loop-i-test.true w.if-old-i.true w.bytes-is
      | else-old-i w ↦ taken_same old new (get_or m i 0) (length m) i v c.loop-i-test.true w.if-old-i.false (w.bytes-is ∙ there)
    ] in
    ap (λ xs. set xs i v) c.loop-i.invariant ∙ exchanged_more m 0 old new i i v (omega arith) stored

pub returns : goal.returns
returns c =
    c.loop-i.invariant
    ∙ exchanged_all c.args.bytes.now 0 c.args.old.now c.args.new.now c.loop-i.i
    (omega (arith, c.requires.old_alike, c.loop-i-test.false)) (omega (arith, c.requires.new_alike, c.loop-i-test.false))
