use Rattle.std.proofs.Common.{◌≡◌, ◌∙◌, false, set, slice_index_or, length-set, refl, sym, ap, inl, inr, arith}
use Rattle.std.proofs.lemmas.Bool.{cases_lt}
use Rattle.std.proofs.lemmas.List.{get_or_default}
use Rattle.chip_replay.specs.declared.by_step.Event.{Event}
use Rattle.chip_replay.proofs.ByStep.{after_more}
use Rattle.chip_replay.proofs.keys.pass.Goals as goal

pub loop-passed-init : goal.loop-passed-init
loop-passed-init c =
    record {
      at_most = omega arith;
      size = c.told-down;
      as_mask = c.requires.mask;
      early = λ i d l. absurd (omega (arith, l));
      down = refl;
    }

pub loop-passed-preserved : goal.loop-passed-preserved
loop-passed-preserved c =
    let events = c.args.events.now in
    let before = c.loop-passed.invariant in
    let passed = c.loop-passed.passed in
    let none : Event = record { step = 0; key = 0; down = false } in
    let e = slice_index_or events passed none in
    let inside = c.loop-passed-test.true in
    record {
      at_most = omega (arith, inside);
      size = length-set c.loop-passed.down e.key e.down ∙ before.size;
      as_mask = c.with_key-mask.ensures;
      early = λ i d l. elim (cases_lt i passed) [
        | inl a ↦ before.early i d a
        | inr a ↦ (
            let same : passed ≡ i = omega (arith, a, l) in
            omega (arith, c.if-events-passed.true, ap (λ n. (slice_index_or events n d).step) same, ap (λ (x : Event). x.step) (get_or_default events passed d none inside)))
      ];
      down = ap (λ xs. set xs e.key e.down) before.down ∙ sym (after_more c.args.down.now events passed none inside);
    }
