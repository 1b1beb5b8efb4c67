use Rattle.std.proofs.Common.{◌≡◌, ◌∙◌, ◌<◌, ◌++◌, ◌∷◌, [], ℕ, List, length, map, take, ap, arith, slice_get, sym}
use Rattle.std.proofs.lemmas.List.{map-append, take_all}
use Rattle.chip_asm.specs.LineViews.{LineFacts, line_facts}
use Rattle.chip_warnings.specs.declared.seen.Seen.{Seen}
use Rattle.chip_warnings.specs.Seen.{seen_lines, seen_of}
use Rattle.chip_asm.proofs.ListingSteps.{past-rows}
use Rattle.chip_asm.proofs.WholeImage.{line-at-place}
use Rattle.chip_warnings.proofs.Lines.{take-next}
use Rattle.chip_warnings.proofs.survey.lines_of.Goals as goal
use Rattle.chip_warnings.proofs.survey.lines_of.Goals.{in-Some+in_ok-push, in_default}

pub loop-place-preserved : goal.loop-place-preserved
loop-place-preserved c =
    let texts : List (List ℕ) = c.args.source.now.lines in
    let facts : List LineFacts = line_facts texts in
    let place : ℕ = c.loop-place.place in
    let inside : place < length facts = omega (arith, c.loop-place-test.true, c.lines-place-end.ensures.told) in
    let read : c.line.result ≡ slice_get facts place = c.line.ensures.value ∙ line-at-place texts place in
    elim c.match-line.branch [
      | in-Some+in_ok-push w ↦
          ap (λ v. v.items) w.lines-is ∙ w.in_ok-push.ensures.items
          ∙ ap (λ (l : List Seen). l ++ w.seen_of.result ∷ []) c.loop-place.invariant
          ∙ ap (λ (s : Seen). map (seen_of texts) (take place facts) ++ s ∷ []) (w.seen_of.ensures texts c.requires)
          ∙ sym (ap (map (seen_of texts)) (take-next facts place w.in-Some.line (sym read ∙ w.in-Some.is)) ∙ map-append (seen_of texts) (take place facts) (w.in-Some.line ∷ []))
      | in_default w ↦ absurd (omega (arith, inside, past-rows facts place (sym read ∙ w.in_default.is)))
    ]

pub returns : goal.returns
unfolding seen_lines
returns c =
    c.loop-place.invariant
    ∙ ap (map (seen_of c.args.source.now.lines)) (take_all c.loop-place.place (line_facts c.args.source.now.lines) (omega (arith, c.loop-place-test.false, c.lines-place-end.ensures.told)))
