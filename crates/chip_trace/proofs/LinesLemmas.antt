-- Lines that are taken one after the other, each with a newline.
use Rattle.std.proofs.Common.{◌≡◌, ℕ, ◌+◌, ◌-◌, ◌<◌, ◌≤◌, Bool, true, false, not, List, [], ◌∷◌, ◌++◌, map, take, drop, length, refl, sym, ap, ◌∙◌, arith, append_assoc, add-one, length-append, length-drop, take_all}
use Rattle.std.specs.Prelude.{◌↔◌}
use Rattle.std.specs.List.{range_with_len}
use Rattle.std.proofs.lemmas.List.{drop_all, flat_map_more}
use Rattle.chip_machine.specs.State.{State}
use Rattle.chip_trace.specs.Form.{row_of}
use Rattle.chip_trace.specs.Lines.{newline_ended, TakesLine, Progress, remaining, trace_end, trace_lines}
use Rattle.chip_trace.proofs.Comparing.{take_one_more}
use Rattle.chip_trace.proofs.TraceLemmas.{done_remains, open_remains}

-- a line that was taken
record Taken (before : List (List ℕ)) (text text_after : List ℕ) (after : List (List ℕ)) : Type 0 where
  line : List ℕ
  before_is : before ≡ line ∷ after
  added : text_after ≡ text ++ line

taken : (before : List (List ℕ)) (text text_after : List ℕ) (after : List (List ℕ)) → TakesLine before true text text_after after → Taken before text text_after after
taken [] text text_after after t = absurd (let e = t.0 in cc)
taken (line ∷ lines) text text_after after t = record { line = line; before_is = ap (λ ls. line ∷ ls) (sym t.2); added = t.1 }

-- one more line is taken
pub one_line_more : (all before after : List (List ℕ)) (n : ℕ) (front text text_after : List ℕ) → text ≡ front ++ newline_ended (take n all) → before ≡ drop n all
    → TakesLine before true text text_after after → (text_after ++ 10 ∷ [] ≡ front ++ newline_ended (take (n + 1) all)) × (after ≡ drop (n + 1) all)
one_line_more all before after n front text text_after is left t =
    let line = taken before text text_after after t in
    let more = take_one_more all n line.line after (sym left ∙ line.before_is) in
    let f : List ℕ → List ℕ = λ l. l ++ 10 ∷ [] in (
      ap (λ l. l ++ 10 ∷ []) line.added
          ∙ append_assoc text line.line (10 ∷ [])
          ∙ ap (λ l. l ++ (line.line ++ 10 ∷ [])) is
          ∙ flat_map_more f front (take n all) line.line
          ∙ ap (λ ls. front ++ newline_ended ls) (sym more.0 ∙ ap (λ k. take k all) (sym (add-one n))),
      sym more.1 ∙ ap (λ k. drop k all) (sym (add-one n)),
    )

none_past : (all : List (List ℕ)) (n : ℕ) → drop n all ≡ [] → length all ≤ n
none_past all n e = omega (arith, ap length e, length-drop n all)

-- if no line remains after n lines, taking more lines takes the same lines
pub all_taken : (all : List (List ℕ)) (n most : ℕ) → drop n all ≡ [] → n ≤ most → (take n all ≡ take most all) × (drop most all ≡ []) × (length all ≤ most)
all_taken all n most none le =
    let past = none_past all n none in
    let past_most : length all ≤ most = omega arith in
    (take_all n all past ∙ sym (take_all most all past_most), drop_all most all past_most, past_most)

module _ (state : ℕ → State) where
  -- a trace that isn't done has a line
  has_line : (t : Progress) → t.is_done ≡ false → 0 < length (remaining state t)
  unfolding trace_lines
  has_line t more =
      let end : ℕ = trace_end state t.next t.to in
      omega (
        arith,
        ap length (open_remains state t more),
        length-append (map (λ step. row_of t.form t.columns step (state step) false) (range_with_len t.next (end - t.next))) (row_of t.form t.columns end (state end) true ∷ []),
      )

  -- whether more lines remain
  pub more_remain : (t : Progress) (all : List (List ℕ)) (n : ℕ) → remaining state t ≡ drop n all → (not t.is_done ≡ true) ↔ (n < length all)
  more_remain t all n left = by_done t.is_done refl
    where
      by_done : (b : Bool) → t.is_done ≡ b → (not t.is_done ≡ true) ↔ (n < length all)
      by_done true done =
          let past = none_past all n (sym left ∙ done_remains state t done) in
          (λ open_still. absurd (let e = ap not done in cc), λ lt. absurd (omega arith))
      by_done false more =
          let some = has_line t more in
          (λ open_still. omega (arith, ap length left, length-drop n all), λ lt. ap not more)
