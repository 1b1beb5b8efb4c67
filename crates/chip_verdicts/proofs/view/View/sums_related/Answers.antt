use Rattle.std.proofs.Common.{subst}
use Rattle.chip_explore.specs.Property.{is_related, sum_in}
use Rattle.chip_verdicts.specs.inner.Possible.{IsPossible}
use Rattle.chip_verdicts.proofs.Sums.{sum_of_one}
use Rattle.chip_verdicts.proofs.view.View.sums_related.Goals as goal

pub returns-in-Some : goal.returns-in-Some
returns-in-Some c = λ s seen.
    let right = sum_in s c.args.right.now in
    subst (λ left. IsPossible c.term_related.result (is_related c.args.relation left right))
    (sum_of_one s c.args.left.now c.in-Some.term.now c.in-Some.ensures)
    (c.term_related.ensures s seen right (c.bounds-other.ensures s seen))

pub returns-in-Some-only_term : goal.returns-in-Some-only_term
returns-in-Some-only_term c = λ s seen.
    let left = sum_in s c.args.left.now in
    let right = sum_in s c.args.right.now in
    let possible = c.term_related-in-Some-only_term.result in
    subst (λ test. IsPossible possible test) (c.mirrored.ensures left right)
    (subst (λ other. IsPossible possible (is_related c.mirrored.result other left))
    (sum_of_one s c.args.right.now c.in-Some-only_term.term.now c.in-Some-only_term.ensures)
    (c.term_related-in-Some-only_term.ensures s seen left (c.bounds-bounds.ensures s seen)))
