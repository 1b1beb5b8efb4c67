use Rattle.std.proofs.Common.{ℕ, ◌+◌, List, set, get_or, refl, sym, ap, ◌∙◌}
use Rattle.chip_machine.specs.inner.Exchanged.{exchanged_none, exchanged_skip, exchanged_more, chosen-new}
use Rattle.chip_calls.specs.Toy.{ToyState}
use Rattle.chip_calls.proofs.toy.ToyTraced.exchange.Goals as goal
use Rattle.chip_calls.proofs.toy.ToyTraced.exchange.Goals.{then-old-i, else-old-i}

pub loop-i-init : goal.loop-i-init
loop-i-init c =
    record {
      bytes = ap (λ (s : ToyState). s.bytes) c.self.view_is ∙ exchanged_none c.args.self.now.bytes c.args.at c.args.old.now c.args.new.now;
      counter = ap (λ (s : ToyState). s.counter) c.self.view_is;
      sum = ap (λ (s : ToyState). s.sum) c.self.view_is;
    }

pub loop-i-preserved : goal.loop-i-preserved
loop-i-preserved c =
    let m = c.args.self.now.bytes in
    let at = c.args.at in
    let old = c.args.old.now in
    let new = c.args.new.now in
    let i = c.loop-i.i in
    elim c.if-old-i.branch [
      | then-old-i w ↦ rw w.self-inside-is (
          record {
            bytes = ap (λ (xs : List ℕ). set xs (at + i) (get_or new i 0)) c.loop-i.invariant.bytes
                ∙ exchanged_more m at old new (at + i) i (get_or new i 0) refl (sym (chosen-new (get_or m (at + i) 0) (get_or old i 0) (get_or new i 0) w.if-old-i.true));
            counter = c.loop-i.invariant.counter;
            sum = c.loop-i.invariant.sum;
          })
      | else-old-i w ↦ rw w.self-inside-is (
          record {
            bytes = c.loop-i.invariant.bytes ∙ exchanged_skip m at old new i w.if-old-i.false;
            counter = c.loop-i.invariant.counter;
            sum = c.loop-i.invariant.sum;
          })
    ]
