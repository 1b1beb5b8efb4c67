use Rattle.std.proofs.Common.{◌≡◌, ◌∙◌, ◌<◌, ◌≤◌, ◌-◌, ◌+◌, ◌++◌, ◌∷◌, ℕ, List, Some, IfSome, length, ap, arith, map, slice_get, subst, sym, take, reverse}
use Rattle.std.specs.List.{flat_map, range_with_len}
use Rattle.chip_asm.specs.LineViews.{LineFacts, line_facts}
use Rattle.chip_warnings.specs.declared.seen.Seen.{Seen}
use Rattle.chip_warnings.specs.Marked.{Marked, marked_by}
use Rattle.chip_warnings.specs.Reach.{flow_after}
use Rattle.chip_warnings.specs.Seen.{seen_lines}
use Rattle.chip_warnings.specs.Warned.{kinds_on, kinds_told, warned, warned_at}
use Rattle.chip_warnings.specs.inner.Noted.{marked_in}
use Rattle.chip_asm.proofs.ListingSteps.{past-rows}
use Rattle.chip_asm.proofs.WholeImage.{line-at-place}
use Rattle.chip_warnings.proofs.Lines.{above-next, seen-length}
use Rattle.chip_warnings.proofs.Placed.{next_placed}
use Rattle.chip_warnings.proofs.Told.{warned-next}
use Rattle.chip_warnings.proofs.report.warnings.Goals as goal
use Rattle.chip_warnings.proofs.report.warnings.Goals.{in-Some+in_ok-push_warnings+in_ok-faults, in_default}

pub loop-place-preserved : goal.loop-place-preserved
loop-place-preserved c =
    let texts : List (List ℕ) = c.args.source.now.lines in
    let facts : List LineFacts = line_facts texts in
    let place : ℕ = c.loop-place.place in
    let inside : place < length facts = omega (arith, c.loop-place-test.true, c.lines-place-end.ensures.told) in
    let read : c.line.result ≡ slice_get facts place = c.line.ensures.value ∙ line-at-place texts place in
    elim c.match-line.branch [
      | in-Some+in_ok-push_warnings+in_ok-faults w ↦
          let lines : List Seen = seen_lines texts in
          let s : Seen = w.line-seen.result in
          let above : List Seen = reverse (take place lines) in
          let marked : Marked = marked_in c.in_ok-survey.survey.marks in
          let at : slice_get lines place ≡ Some s = ap (λ l. slice_get l place) (sym c.in_ok-survey.ensures.lines) ∙ w.line-seen.ensures in
          let same : marked ≡ marked_by lines = c.in_ok-survey.ensures.marks in
          let line : LineFacts = w.in-Some.line in
          let number : line.number ≡ place + 1 = subst (λ o. IfSome o (λ (f : LineFacts). f.number ≡ place + 1)) w.in-Some.is c.line.ensures.number in
          let text : slice_get texts (place + 1 - 1) ≡ Some line.text = subst (λ o. IfSome o (λ (f : LineFacts). slice_get texts (place + 1 - 1) ≡ Some f.text)) w.in-Some.is c.line.ensures.text in
          let there : slice_get texts (line.number - 1) ≡ Some line.text = ap (λ n. slice_get texts (n - 1)) number ∙ text in
          let low : 1 ≤ line.number = omega (arith, number) in
          record {
            placed = rw w.warnings-is (next_placed c.args.asked.allowed texts line.number line.text low there _ _
                (next_placed c.args.asked.allowed texts line.number line.text low there _ _ c.loop-place.invariant.placed w.in_ok-push_warnings.ensures.adds)
                w.in_ok-faults.ensures.adds);
            told = ap (λ v. kinds_told v.items) w.warnings-is
                ∙ warned-next c.args.asked lines place s marked c.loop-place.flow _ _ at same c.loop-place.invariant.flow c.loop-place.invariant.told
                (w.in_ok-faults.ensures.told ∙ w.in_ok-push_warnings.ensures.told
                ∙ ap (λ n. kinds_told c.loop-place.warnings.items ++ map (λ kind. (n, kind)) (kinds_on c.args.asked marked c.loop-place.flow s)) number);
            flow = w.flow-is
                ∙ w.after-flow.ensures above (c.loop-place.invariant.flow ∙ ap (λ (m : Marked). flow_after m.jumped above) (sym same))
                ∙ ap (λ (m : Marked). flow_after m.jumped (s ∷ above)) same
                ∙ ap (flow_after (marked_by lines).jumped) (sym (above-next lines place s at));
          }
      | in_default w ↦ absurd (omega (arith, inside, past-rows facts place (sym read ∙ w.in_default.is)))
    ]

pub line-seen-requires : goal.line-seen-requires
line-seen-requires c =
    omega (arith, c.in_ok-survey.survey.lines.ok.0, ap length c.in_ok-survey.ensures.lines, seen-length c.args.source.now.lines, c.loop-place-test.true, c.lines-place-end.ensures.told)

pub returns-clause-told : goal.returns-clause-told
unfolding warned
returns-clause-told c some =
    let all : c.loop-place.place ≡ length c.args.source.now.lines = omega (arith, c.loop-place.auto.place-end, c.loop-place-test.false, c.lines-place-end.ensures.value) in
    c.loop-place.invariant.told
    ∙ ap (λ n. flat_map (warned_at c.args.asked (seen_lines c.args.source.now.lines)) (range_with_len 0 n)) all
