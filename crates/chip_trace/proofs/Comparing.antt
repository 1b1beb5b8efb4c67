-- The comparison of two lists of lines, one line after the other.
use Rattle.std.proofs.Common.{◌≡◌, ◌≢◌, ℕ, zero, suc, ◌+◌, ◌-◌, ◌<◌, ◌==◌, Bool, true, false, cond, List, [], ◌∷◌, ◌++◌, map, take, drop, length, refl, sym, ap, ap₂, ◌∙◌, arith, Some, None, length-append, length-drop, below_more, add-one}
use Rattle.std.specs.List.{slice_get}
use Rattle.std.specs.Option.{option_map}
use Rattle.std.specs.Str.Lines.{lines}
use Rattle.std.specs.Str.{str_to_ascii_lowercase}
use Rattle.std.proofs.lemmas.Bool.{eqb-true, eqb-false}
use Rattle.std.proofs.lemmas.List.{drop-append-le, drop-drop}
use Rattle.chip_replay.specs.History.{History}
use Rattle.chip_machine.specs.State.{State}
use Rattle.chip_trace.specs.Lines.{SameRun, TakesLine}
use Rattle.chip_trace.specs.Difference.{lower_at, last_lines, bytes_of, IsFirstDifference}
use Rattle.chip_trace.specs.inner.Comparing.{with_line, AlikeSoFar}
use Rattle.chip_trace.specs.declared.difference.Difference.{Difference}
use Rattle.chip_trace.specs.declared.limits.TheConstants.{LINES_BEFORE}

pub same_run : (h : History State) → SameRun h h
same_run h = record { start = refl; rate = refl; spacing = refl; keys = refl; reach = omega arith; ran = omega arith }

pub same_runs : (a b c : History State) → SameRun a b → SameRun b c → SameRun a c
same_runs a b c p q = record {
  start = q.start ∙ p.start;
  rate = q.rate ∙ p.rate;
  spacing = q.spacing ∙ p.spacing;
  keys = q.keys ∙ p.keys;
  reach = omega (arith, p.reach, q.reach);
  ran = omega (arith, p.ran, q.ran);
}

-- a line is taken into an empty text
pub taken : (before : List (List ℕ)) (text : List ℕ) (after : List (List ℕ)) → TakesLine before true [] text after → before ≡ text ∷ after
taken [] text after t = absurd (let e = t.0 in cc)
taken (line ∷ lines) text after t = ap₂ (λ l ls. l ∷ ls) (sym t.1) (sym t.2)

-- no line remains, and nothing changes
pub none_taken : (before : List (List ℕ)) (text text_after : List ℕ) (after : List (List ℕ)) → TakesLine before false text text_after after → (before ≡ []) × (text_after ≡ text) × (after ≡ [])
none_taken [] text text_after after t = (refl, t.1, t.2)
none_taken (line ∷ lines) text text_after after t = absurd (let e = t.0 in cc)

-- the line at an index is the first one left after that many lines
get_drop : (xs : List (List ℕ)) (n : ℕ) → slice_get xs n ≡ slice_get (drop n xs) 0
get_drop [] zero = refl
get_drop [] (suc n) = refl
get_drop (x ∷ xs) zero = refl
get_drop (x ∷ xs) (suc n) = get_drop xs n

-- the first lines with one more, if one is left
pub take_one_more : (xs : List (List ℕ)) (n : ℕ) (x : List ℕ) (rest : List (List ℕ)) → drop n xs ≡ x ∷ rest →
    (take (suc n) xs ≡ take n xs ++ x ∷ []) × (drop (suc n) xs ≡ rest)
take_one_more [] zero x rest e = absurd (cc)
take_one_more [] (suc n) x rest e = absurd (cc)
take_one_more (y ∷ ys) zero x rest e = (let same : y ≡ x = cc in ap (λ l. l ∷ []) same, let same : ys ≡ rest = cc in same)
take_one_more (y ∷ ys) (suc n) x rest e =
    let more = take_one_more ys n x rest e in (ap (λ l. y ∷ l) more.0, more.1)

-- the last lines, after one more line is appended
last_more : (front : List (List ℕ)) (line : List ℕ) → with_line (last_lines front) line ≡ last_lines (front ++ line ∷ [])
last_more front line = by_test (length (last_lines front) == LINES_BEFORE) refl
  where
    start : ℕ
    start = length front - LINES_BEFORE

    longer : length (front ++ line ∷ []) ≡ length front + 1
    longer = length-append front (line ∷ [])

    size : length (drop start front) ≡ length front - start
    size = length-drop start front

    by_test : (b : Bool) → (length (last_lines front) == LINES_BEFORE) ≡ b → with_line (last_lines front) line ≡ last_lines (front ++ line ∷ [])
    by_test true full =
        let five : length (drop start front) ≡ LINES_BEFORE = eqb-true _ _ full in
        let place : suc start ≡ length (front ++ line ∷ []) - LINES_BEFORE = omega (arith, longer, size, five) in
        ap (λ b. cond b (drop 1 (last_lines front)) (last_lines front) ++ line ∷ []) full
        ∙ ap (λ l. l ++ line ∷ []) (drop-drop 1 start front ∙ ap (λ n. drop n front) (add-one start))
        ∙ sym (drop-append-le (suc start) front (line ∷ []) (omega (arith, size, five)))
        ∙ ap (λ n. drop n (front ++ line ∷ [])) place
    by_test false short =
        let few : length (drop start front) ≢ LINES_BEFORE = eqb-false _ _ short in
        let place : start ≡ length (front ++ line ∷ []) - LINES_BEFORE = omega (arith, longer, size, few) in
        ap (λ b. cond b (drop 1 (last_lines front)) (last_lines front) ++ line ∷ []) short
        ∙ sym (drop-append-le start front (line ∷ []) (omega arith))
        ∙ ap (λ n. drop n (front ++ line ∷ [])) place

-- the line at an index, if some lines are left
there : (lines : List (List ℕ)) (count : ℕ) (line : List ℕ) (left : List (List ℕ)) → drop count lines ≡ line ∷ left → slice_get lines count ≡ Some line
there lines count line left e = get_drop lines count ∙ ap (λ l. slice_get l 0) e

module _ (ours theirs ours_left theirs_left kept : List (List ℕ)) (count : ℕ) (so_far : AlikeSoFar ours theirs ours_left theirs_left kept count) where
  -- one more line is equal
  pub alike_more : (our their : List ℕ) (our_rest their_rest kept_after : List (List ℕ)) → ours_left ≡ our ∷ our_rest → theirs_left ≡ their ∷ their_rest
      → str_to_ascii_lowercase our ≡ str_to_ascii_lowercase their → kept_after ≡ with_line kept our
      → AlikeSoFar ours theirs our_rest their_rest kept_after (count + 1)
  alike_more our their our_rest their_rest kept_after our_is their_is same kept_is =
      let ours_here : drop count ours ≡ our ∷ our_rest = sym so_far.ours_left_is ∙ our_is in
      let theirs_here : drop count theirs ≡ their ∷ their_rest = sym so_far.theirs_left_is ∙ their_is in
      let our_more = take_one_more ours count our our_rest ours_here in
      let their_more = take_one_more theirs count their their_rest theirs_here in
      let here : lower_at ours count ≡ lower_at theirs count =
      ap (option_map str_to_ascii_lowercase) (there ours count our our_rest ours_here) ∙ ap Some same
      ∙ sym (ap (option_map str_to_ascii_lowercase) (there theirs count their their_rest theirs_here)) in
      record {
        ours_left_is = sym our_more.1 ∙ ap (λ n. drop n ours) (sym (add-one count));
        theirs_left_is = sym their_more.1 ∙ ap (λ n. drop n theirs) (sym (add-one count));
        alike = below_more (λ place. lower_at ours place ≡ lower_at theirs place) count so_far.alike here;
        kept_is = kept_is ∙ ap (λ l. with_line l our) so_far.kept_is ∙ last_more (take count ours) our ∙ ap last_lines (sym our_more.0 ∙ ap (λ n. take n ours) (sym (add-one count)));
      }

-- the first difference
pub is_first : (ours theirs ours_left theirs_left : List (List ℕ)) (found : Difference) → AlikeSoFar ours theirs ours_left theirs_left (map bytes_of found.before.items) found.index
    → lower_at ours_left 0 ≢ lower_at theirs_left 0 → option_map bytes_of found.ours ≡ slice_get ours_left 0 → option_map bytes_of found.theirs ≡ slice_get theirs_left 0
    → IsFirstDifference ours theirs found
is_first ours theirs ours_left theirs_left found so_far other our their =
    let ours_here : slice_get ours_left 0 ≡ slice_get ours found.index = ap (λ l. slice_get l 0) so_far.ours_left_is ∙ sym (get_drop ours found.index) in
    let theirs_here : slice_get theirs_left 0 ≡ slice_get theirs found.index = ap (λ l. slice_get l 0) so_far.theirs_left_is ∙ sym (get_drop theirs found.index) in
    record {
      alike_before = so_far.alike;
      differ = λ same. other (ap (option_map str_to_ascii_lowercase) ours_here ∙ same ∙ sym (ap (option_map str_to_ascii_lowercase) theirs_here));
      ours_there = our ∙ ours_here;
      theirs_there = their ∙ theirs_here;
      lines_before = so_far.kept_is;
    }

pub some_same : (x y : List ℕ) → Some x ≡ Some y → x ≡ y
some_same x y e = cc

same_lines : (xs ys : List (List ℕ)) (n : ℕ) → drop n xs ≡ [] → drop n ys ≡ [] → ((place : ℕ) → place < n → lower_at xs place ≡ lower_at ys place)
    → map str_to_ascii_lowercase xs ≡ map str_to_ascii_lowercase ys
same_lines xs ys zero e f alike = ap (map str_to_ascii_lowercase) (e ∙ sym f)
same_lines [] [] (suc n) e f alike = refl
same_lines [] (y ∷ ys) (suc n) e f alike = absurd (let none = alike 0 (omega arith) in cc)
same_lines (x ∷ xs) [] (suc n) e f alike = absurd (let none = alike 0 (omega arith) in cc)
same_lines (x ∷ xs) (y ∷ ys) (suc n) e f alike =
    ap₂ (λ l ls. l ∷ ls) (some_same _ _ (alike 0 (omega arith))) (same_lines xs ys n e f (λ place lt. alike (suc place) (omega arith)))

-- no difference
pub none_differs : (ours theirs ours_left theirs_left kept : List (List ℕ)) (count : ℕ) → AlikeSoFar ours theirs ours_left theirs_left kept count
    → ours_left ≡ [] → theirs_left ≡ [] → map str_to_ascii_lowercase ours ≡ map str_to_ascii_lowercase theirs
none_differs ours theirs ours_left theirs_left kept count so_far no_ours no_theirs =
    same_lines ours theirs count (sym so_far.ours_left_is ∙ no_ours) (sym so_far.theirs_left_is ∙ no_theirs) so_far.alike

pub none_some : (line : List ℕ) → None ≢ Some line
none_some line e = cc

pub some_none : (line : List ℕ) → Some line ≢ None
some_none line e = cc

pub no_lines : (bytes : List ℕ) → (length bytes == 0) ≡ true → lines bytes ≡ []
no_lines [] e = refl
no_lines (byte ∷ bytes) e = absurd (omega (arith, eqb-true (length (byte ∷ bytes)) 0 e))
