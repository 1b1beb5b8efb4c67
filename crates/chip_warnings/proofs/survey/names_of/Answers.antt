use Rattle.std.proofs.Common.{◌≡◌, ◌∙◌, ◌<◌, ◌-◌, ◌+◌, ◌||◌, ℕ, List, Some, IfSome, length, ap, arith, slice_get, sym, subst}
use Rattle.std.specs.List.{flat_map, list_any}
use Rattle.std.specs.Str.{bytes_eq}
use Rattle.std.proofs.lemmas.List.{take_all}
use Rattle.chip_asm.specs.LineViews.{LineFacts, line_facts}
use Rattle.chip_warnings.specs.Seen.{is_used, names_of_line}
use Rattle.chip_asm.proofs.ListingSteps.{past-rows}
use Rattle.chip_asm.proofs.WholeImage.{line-at-place}
use Rattle.chip_warnings.proofs.Names.{has, names-next}
use Rattle.chip_warnings.proofs.survey.names_of.Goals as goal
use Rattle.chip_warnings.proofs.survey.names_of.Goals.{in-Some+in_ok-note_line, in_default}

pub loop-place-preserved : goal.loop-place-preserved
loop-place-preserved c =
    let texts : List (List ℕ) = c.args.source.now.lines in
    let facts : List LineFacts = line_facts texts in
    let place : ℕ = c.loop-place.place in
    let inside : place < length facts = omega (arith, c.loop-place-test.true, c.lines-place-end.ensures.told) in
    let read : c.line.result ≡ slice_get facts place = c.line.ensures.value ∙ line-at-place texts place in
    elim c.match-line.branch [
      | in-Some+in_ok-note_line w ↦ λ name.
          let same : place + 1 - 1 ≡ place = omega arith in
          let there : slice_get texts place ≡ Some w.in-Some.line.text
          = ap (slice_get texts) (sym same) ∙ subst (λ o. IfSome o (λ (f : LineFacts). slice_get texts (place + 1 - 1) ≡ Some f.text)) w.in-Some.is c.line.ensures.text in
          ap (λ u. has u.keys name) w.used-is ∙ w.in_ok-note_line.ensures name
          ∙ ap (λ b. b || list_any (bytes_eq name) (names_of_line w.in-Some.line.text)) (c.loop-place.invariant name)
          ∙ sym (names-next texts place w.in-Some.line.text name there)
      | in_default w ↦ absurd (omega (arith, inside, past-rows facts place (sym read ∙ w.in_default.is)))
    ]

pub returns : goal.returns
unfolding is_used
returns c name =
    c.loop-place.invariant name
    ∙ ap (λ ts. list_any (bytes_eq name) (flat_map names_of_line ts)) (take_all c.loop-place.place c.args.source.now.lines (omega (arith, c.loop-place-test.false, c.lines-place-end.ensures.value)))
