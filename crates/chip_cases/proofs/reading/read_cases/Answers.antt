use Rattle.std.proofs.Common.{◌≡◌, ◌∙◌, [], ap, arith, false, refl, sym}
use Rattle.std.proofs.lemmas.List.{nil_from_length}
use Rattle.std.specs.Str.Lines.{lines}
use Rattle.chip_cases.specs.Cases.{behind_setup}
use Rattle.chip_cases.proofs.CaseLemmas.{no_lines, one_case, some_cases}
use Rattle.chip_cases.proofs.reading.read_cases.Goals as goal

pub returns-then-not-is_empty : goal.returns-then-not-is_empty
returns-then-not-is_empty c =
    one_case c.args.text.now (lines c.in_ok-common.above.rest.now) _ _ _ c.in_ok-push_case.ensures c.new-cases.ensures.items
    (c.in_ok-common.ensures.behind ∙ ap (λ text. behind_setup false (lines text)) c.start.ensures)
    refl c.in_ok-steps.ensures.steps
    (sym c.in_ok-steps.ensures.behind ∙ no_lines c.in_ok-steps.place.rest.now (sym c.is_empty-then-not-is_empty.ensures ∙ c.if-not-is_empty-2.false))

pub returns : goal.returns
returns c =
    let none : c.in_ok-steps.steps.items ≡ [] = nil_from_length c.in_ok-steps.steps.items (grind (arith, c.is_empty.ensures, c.if-not-is_empty.false)) in
    some_cases c.args.text.now (lines c.in_ok-common.above.rest.now) c.in_ok-steps.steps.items c.loop-common.cases.items
    (c.in_ok-common.ensures.behind ∙ ap (λ text. behind_setup false (lines text)) c.start.ensures)
    c.in_ok-steps.ensures.steps none
    (c.loop-common.invariant [] (no_lines c.loop-common.place.rest.now (sym c.is_empty-in-loop-common.ensures ∙ c.loop-common-test.false)))
