use Rattle.std.proofs.Common.{◌≡◌, ◌∙◌, ◌<◌, ◌++◌, ℕ, List, length, ap, arith, slice_get, sym}
use Rattle.std.proofs.lemmas.List.{take_all}
use Rattle.std.specs.List.{flat_map}
use Rattle.chip_asm.specs.LineViews.{LineFacts, line_facts}
use Rattle.chip_cover.specs.Marks.{marked_listing, marked_row}
use Rattle.chip_asm.proofs.ListingSteps.{past-rows, rows-more}
use Rattle.chip_asm.proofs.WholeImage.{line-at-place}
use Rattle.chip_cover.proofs.marks.marked_listing.Goals as goal
use Rattle.chip_cover.proofs.marks.marked_listing.Goals.{in-Some+in_ok-push_marked, in_default}

pub loop-place-preserved : goal.loop-place-preserved
loop-place-preserved c =
    let facts : List LineFacts = line_facts c.args.source.now.lines in
    let place : ℕ = c.loop-place.place in
    let inside : place < length facts = omega (arith, c.loop-place-test.true, c.lines-place-end.ensures.told) in
    let read : c.line.result ≡ slice_get facts place = c.line.ensures.value ∙ line-at-place c.args.source.now.lines place in
    elim c.match-line.branch [
      | in-Some+in_ok-push_marked w ↦
          ap (λ v. v.items) w.text-is ∙ w.in_ok-push_marked.ensures ∙ ap (λ l. l ++ marked_row c.args.executed.now w.in-Some.line) c.loop-place.invariant
          ∙ sym (rows-more (marked_row c.args.executed.now) facts place w.in-Some.line (sym read ∙ w.in-Some.is))
      | in_default w ↦ absurd (omega (arith, inside, past-rows facts place (sym read ∙ w.in_default.is)))
    ]

pub returns : goal.returns
unfolding marked_listing
returns c =
    c.loop-place.invariant
    ∙ ap (flat_map (marked_row c.args.executed.now)) (take_all c.loop-place.place (line_facts c.args.source.now.lines) (omega (arith, c.loop-place-test.false, c.lines-place-end.ensures.told)))
