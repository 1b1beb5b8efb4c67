use Rattle.std.proofs.Common.{◌≡◌, ℕ, ◌<◌, List, length, take, get_or, slice_index, arith, sym, ◌∙◌, inl, inr, get_or-take}
use Rattle.chip_replay.proofs.Places.{least_more}
use Rattle.chip_replay.proofs.kept.least_at_changes.Goals as goal
use Rattle.chip_replay.proofs.kept.least_at_changes.Goals.{then-old-i, else-old-i}

taken : (old new : List ℕ) (n i : ℕ) → i < n → slice_index old i ≡ slice_index new i → get_or (take n old) i 0 ≡ get_or (take n new) i 0
taken old new n i l same = get_or-take n old i 0 l ∙ same ∙ sym (get_or-take n new i 0 l)

untaken : (old new : List ℕ) (n i : ℕ) → i < n → get_or (take n old) i 0 ≡ get_or (take n new) i 0 → slice_index old i ≡ slice_index new i
untaken old new n i l same = sym (get_or-take n old i 0 l) ∙ same ∙ get_or-take n new i 0 l

pub loop-i-preserved : goal.loop-i-preserved
loop-i-preserved c =
    let old = c.args.old.now in
    let new = c.args.new.now in
    let steps = c.args.steps.now in
    let i = c.loop-i.i in
    least_more (slice_index steps) old new i (length steps) c.args.most c.loop-i.least c.min-least.result c.loop-i-test.true c.loop-i.invariant
    (elim c.if-old-i.branch [
      | then-old-i w ↦ inl (
        λ same. w.if-old-i.true (taken old new (length steps) i c.loop-i-test.true same),
        omega (arith, c.min-least.ensures, c.max.ensures, w.floor-is),
      )
      | else-old-i w ↦ inr (
        untaken old new (length steps) i c.loop-i-test.true w.if-old-i.false,
        omega (arith, c.min-least.ensures, c.max.ensures, w.floor-is, c.loop-i.invariant.within),
      )
    ])
