use Rattle.std.proofs.Common.{◌≡◌, ◌∙◌, ◌+◌, sym, ℕ, List, [], append-nil, drop}
use Rattle.std.proofs.lemmas.List.{drop_all}
use Rattle.chip_trace.specs.Machine.{names_in}
use Rattle.chip_trace.proofs.MachineLemmas.{joined_first, joined_next, joined_none, names_with, names_without, values}
use Rattle.chip_trace.proofs.machine_line.push_choices.Goals as goal
use Rattle.chip_trace.proofs.machine_line.push_choices.Goals.{then-has+in_ok-extend_from_slice, then-not-is_first+in_ok-push, else-not-is_first, else-has}

pub loop-place-preserved : goal.loop-place-preserved
loop-place-preserved c =
    let place : ℕ = c.loop-place.place in
    let more : List (List ℕ) = names_in (values (drop (place + 1) c.args.choices.now)) c.args.quirks in
    elim c.if-has.branch [
      | then-has+in_ok-extend_from_slice w ↦
          let names = names_with c.args.quirks c.args.choices.now place _ c.loop-place-test.true (sym c.has.ensures ∙ w.if-has.true) in
          let before = rw (names) at c.loop-place.invariant in
          elim w.if-not-is_first.branch [
            | then-not-is_first+in_ok-push v ↦
                rw (w.text-is, w.is_first-is, w.in_ok-extend_from_slice.ensures.items, w.as_bytes.ensures.value, v.text-is, v.in_ok-push.ensures.items)
                (joined_next c.loop-place.text.items _ more ∙ rw (v.if-not-is_first.true) at before)
            | else-not-is_first v ↦
                rw (w.text-is, w.is_first-is, w.in_ok-extend_from_slice.ensures.items, w.as_bytes.ensures.value, v.text-is)
                (joined_first c.loop-place.text.items _ more ∙ rw (v.if-not-is_first.false) at before)
          ]
      | else-has w ↦
          let names = names_without c.args.quirks c.args.choices.now place _ c.loop-place-test.true (sym c.has.ensures ∙ w.if-has.false) in
          rw (w.text-is, w.is_first-is, sym names) c.loop-place.invariant
    ]

pub returns : goal.returns
returns c =
    let none : drop c.loop-place.place c.args.choices.now ≡ [] = drop_all c.loop-place.place c.args.choices.now c.loop-place-test.false in
    let all = rw (none, joined_none c.loop-place.is_first) at c.loop-place.invariant in
    sym (append-nil c.loop-place.text.items) ∙ all
