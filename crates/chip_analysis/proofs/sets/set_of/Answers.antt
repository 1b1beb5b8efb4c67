use Rattle.std.proofs.Common.{◌∙◌, ap, ℕ, List, Some, None}
use Rattle.chip_analysis.specs.Exploring.{IsFirstPart, with_number}
use Rattle.chip_analysis.specs.inner.Sets.{number_by}
use Rattle.chip_analysis.proofs.SetLemmas.{ends, goes_on}
use Rattle.chip_analysis.proofs.sets.set_of.Goals as goal

pub loop-next-preserved : goal.loop-next-preserved
loop-next-preserved c =
    let part : List ℕ = c.first_part.result.0.now in
    let first : IsFirstPart c.loop-next.rest.now part (Some c.in-Some.next.now) = rw c.in-Some.is at c.first_part.ensures in
    goes_on (number_by c.args.item) c.args.text.now c.loop-next.rest.now part c.in-Some.next.now c.loop-next.set c.with_number-set.result
    c.loop-next.invariant first (c.with_number-set.ensures ∙ ap (with_number c.loop-next.set) c.number.ensures)

pub returns-in-None : goal.returns-in-None
returns-in-None c =
    let part : List ℕ = c.first_part.result.0.now in
    let first : IsFirstPart c.loop-next.rest.now part None = rw c.in-None.is at c.first_part.ensures in
    ends (number_by c.args.item) c.args.text.now c.loop-next.rest.now part c.loop-next.set c.with_number-set.result
    c.loop-next.invariant first (c.with_number-set.ensures ∙ ap (with_number c.loop-next.set) c.number.ensures)
