use Rattle.std.proofs.Common.{◌≡◌, ◌∙◌, ◌+◌, ◌&&◌, ap, subst, sym}
use Rattle.std.specs.Prelude.{if◌then◌else◌}
use Rattle.chip_bench.specs.Testing.{JudgesFile}
use Rattle.chip_host.specs.declared.ending.Ending.TheVariants.{Done, Faulty}
use Rattle.chip_bench.proofs.TestLemmas.{JudgesSoFar, judges_all, judges_any}
use Rattle.chip_bench.proofs.testing.test_files.Goals as goal
use Rattle.chip_bench.proofs.testing.test_files.Goals.{then-has_passed, else-has_passed, then-has_passed-2, else-has_passed-2}

pub loop-name-preserved : goal.loop-name-preserved
loop-name-preserved g c =
    let one = c.in_ok-passes.passes in
    let names = c.deref-names.result.now in
    let value : c.if-has_passed.has_passed ≡ (c.loop-name.has_passed && one) = elim c.if-has_passed.branch [
      | then-has_passed w ↦ w.has_passed-is ∙ sym (ap (λ b. b && one) w.if-has_passed.true)
      | else-has_passed w ↦ w.has_passed-is ∙ w.if-has_passed.false ∙ sym (ap (λ b. b && one) w.if-has_passed.false)
    ] in
    subst (JudgesSoFar JudgesFile names (c.loop-name.name-index + 1)) (sym value)
    (judges_any JudgesFile names c.loop-name.name-index c.loop-name.has_passed one c.loop-name-test.true (λ name. c.in_ok-passes.ensures.ok) c.loop-name.invariant)

pub returns : goal.returns
returns g c =
    let passes = c.loop-name.has_passed in
    let judged = judges_all JudgesFile c.deref-names.result.now c.loop-name.name-index passes c.loop-name-test.false c.loop-name.invariant in
    let ending : c.if-has_passed-2.result ≡ (if passes then Done else Faulty) = elim c.if-has_passed-2.branch [
      | then-has_passed-2 w ↦ w.result-is ∙ sym (ap (λ b. if b then Done else Faulty) w.if-has_passed-2.true)
      | else-has_passed-2 w ↦ w.result-is ∙ sym (ap (λ b. if b then Done else Faulty) w.if-has_passed-2.false)
    ] in
    (passes, rw c.deref-names.ensures.value at judged, ending)
