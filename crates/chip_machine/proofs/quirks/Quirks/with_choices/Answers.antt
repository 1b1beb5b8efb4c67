use Rattle.std.proofs.Common.{◌∙◌, ap, ℕ, List, Some, None}
use Rattle.chip_machine.specs.QuirkList.{with_choice}
use Rattle.chip_machine.specs.inner.FirstPart.{IsFirstPart}
use Rattle.chip_machine.proofs.QuirkLemmas.{ends, goes_on}
use Rattle.chip_machine.proofs.quirks.Quirks.with_choices.Goals as goal

pub loop-next-preserved : goal.loop-next-preserved
loop-next-preserved c =
    let part : List ℕ = c.first_part.result.0.now in
    let first : IsFirstPart c.loop-next.rest.now part (Some c.in-Some.next.now) = rw c.in-Some.is at c.first_part.ensures in
    goes_on (Some (record { quirks = c.args.self; taken = 0 })) c.args.list.now c.loop-next.rest.now part c.in-Some.next.now c.loop-next.chosen c.with_choice-chosen.result
    c.loop-next.invariant first (c.with_choice-chosen.ensures ∙ ap (with_choice c.loop-next.chosen) c.from_name.ensures)

pub returns-in-None : goal.returns-in-None
returns-in-None c =
    ends c.args.self c.args.list.now c.loop-next.rest.now c.first_part.result.0.now c.loop-next.chosen c.with_choice-chosen.result (Some c.in_ok-chosen-in-None.field-0)
    c.loop-next.invariant (rw c.in-None.is at c.first_part.ensures) (c.with_choice-chosen.ensures ∙ ap (with_choice c.loop-next.chosen) c.from_name.ensures) c.in_ok-chosen-in-None.was

pub returns-in_err-chosen-in-None : goal.returns-in_err-chosen-in-None
returns-in_err-chosen-in-None c =
    c.from_residual.ensures ∙ ends c.args.self c.args.list.now c.loop-next.rest.now c.first_part.result.0.now c.loop-next.chosen c.with_choice-chosen.result None
    c.loop-next.invariant (rw c.in-None.is at c.first_part.ensures) (c.with_choice-chosen.ensures ∙ ap (with_choice c.loop-next.chosen) c.from_name.ensures) c.in_err-chosen-in-None.was
