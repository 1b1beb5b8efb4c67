-- Lemmas about the comparison of lines by rows, which have a bit for each suffix of the answered lines.
use Rattle.std.proofs.Common.{◌≡◌, ◌≢◌, ◌⊎◌, inl, inr, ℕ, zero, suc, ◌+◌, ◌-◌, ◌<◌, ◌≤◌, ◌&&◌, ◌||◌, Bool, true, false, Bor, List, [], ◌∷◌, ◌++◌, drop, length, get_or, refl, sym, ap, ◌∙◌, subst, arith, drop-cons, length-append}
use Rattle.std.specs.Prelude.{◌↔◌}
use Rattle.std.specs.Str.{bytes_eq}
use Rattle.std.proofs.lemmas.Bool.{cases_lt}
use Rattle.std.proofs.lemmas.List.{get_or_append_left, get_or-append_right, get_or-map, length-map}
use Rattle.std.proofs.lemmas.Slice.Eq.{bytes_eq-Decides}
use Rattle.chip_cases.specs.Matching.{Matches, any_lines, texts}
use Rattle.chip_cases.specs.inner.Rows.{IsRow, stands_for}

module _ (line : List ℕ) (others : List (List ℕ)) where
  -- `...` against no answered lines, against some, and against one more line
  any_nil : Matches (line ∷ others) [] → Matches others []
  any_nil ([], (rest, split, stands, m)) = subst (Matches others) (sym split) m
  any_nil (p ∷ ps, (rest, split, stands, m)) = cc

  any_cons : (x : List ℕ) (xs : List (List ℕ)) → line ≡ any_lines → Matches (line ∷ others) (x ∷ xs) → Matches others (x ∷ xs) ⊎ Matches (line ∷ others) xs
  any_cons x xs is ([], (rest, split, stands, m)) = inl (subst (Matches others) (sym split) m)
  any_cons x xs is (p ∷ ps, (rest, split, stands, m)) = let tail : xs ≡ ps ++ rest = cc in inr (ps, (rest, tail, inl is, m))

  any_here : (xs : List (List ℕ)) → line ≡ any_lines → Matches others xs → Matches (line ∷ others) xs
  any_here xs is m = ([], (xs, refl, inl is, m))

  any_later : (x : List ℕ) (xs : List (List ℕ)) → line ≡ any_lines → Matches (line ∷ others) xs → Matches (line ∷ others) (x ∷ xs)
  any_later x xs is (part, (rest, split, stands, m)) = (x ∷ part, (rest, ap (λ l. x ∷ l) split, inl is, m))

  -- an expected line other than `...`
  one_nil : line ≢ any_lines → Matches (line ∷ others) [] → ⊥
  one_nil other (part, (rest, split, inl is, m)) = other is
  one_nil other (part, (rest, split, inr alone, m)) = let e : [] ≡ line ∷ rest = split ∙ ap (λ p. p ++ rest) alone in cc

  one_cons : (x : List ℕ) (xs : List (List ℕ)) → line ≢ any_lines → Matches (line ∷ others) (x ∷ xs) → (x ≡ line) × Matches others xs
  one_cons x xs other (part, (rest, split, inl is, m)) = absurd (other is)
  one_cons x xs other (part, (rest, split, inr alone, m)) =
      let e : x ∷ xs ≡ line ∷ rest = split ∙ ap (λ p. p ++ rest) alone in
      let tail : rest ≡ xs = cc in
      (cc, subst (Matches others) tail m)

  one_here : (x : List ℕ) (xs : List (List ℕ)) → x ≡ line → Matches others xs → Matches (line ∷ others) (x ∷ xs)
  one_here x xs same m = (line ∷ [], (xs, ap (λ y. y ∷ xs) same, inr refl, m))

  -- the empty suffix
  first_is : (is_any : Bool) → bytes_eq line any_lines ≡ is_any → (behind : Bool) → (behind ≡ true) ↔ Matches others [] → ((is_any && behind) ≡ true) ↔ Matches (line ∷ others) []
  first_is true e true given = (λ _. any_here [] ((bytes_eq-Decides line any_lines).0 e) (given.0 refl), λ _. refl)
  first_is true e false given = (λ no. absurd (let n : false ≡ true = no in cc), λ m. given.1 (any_nil m))
  first_is false e behind given = (λ no. absurd (let n : false ≡ true = no in cc), λ m. absurd (one_nil (λ is. let t = (bytes_eq-Decides line any_lines).1 is in cc) m))

  -- a suffix with one more line
  more_is : (x : List ℕ) (xs : List (List ℕ)) (later behind next : Bool) → (later ≡ true) ↔ Matches (line ∷ others) xs → (behind ≡ true) ↔ Matches others (x ∷ xs)
      → (next ≡ true) ↔ Matches others xs → (stands_for line x later behind next ≡ true) ↔ Matches (line ∷ others) (x ∷ xs)
  more_is x xs later behind next l b n = by_tests (bytes_eq line any_lines) (bytes_eq x line) refl refl
    where
      by_any : (is : line ≡ any_lines) (p q : Bool) → later ≡ p → behind ≡ q → ((p || q) ≡ true) ↔ Matches (line ∷ others) (x ∷ xs)
      by_any is true q e f = (λ _. any_later x xs is (l.0 e), λ _. refl)
      by_any is false true e f = (λ _. any_here (x ∷ xs) is (b.0 f), λ _. refl)
      by_any is false false e f = (λ no. absurd (let n : false ≡ true = no in cc), λ m. neither (any_cons x xs is m))
        where
          neither : Matches others (x ∷ xs) ⊎ Matches (line ∷ others) xs → false ≡ true
          neither (inl here) = sym f ∙ b.1 here
          neither (inr there) = sym e ∙ l.1 there

      by_one : (other : line ≢ any_lines) (p q : Bool) → bytes_eq x line ≡ p → next ≡ q → ((p && q) ≡ true) ↔ Matches (line ∷ others) (x ∷ xs)
      by_one other true true e f = (λ _. one_here x xs ((bytes_eq-Decides x line).0 e) (n.0 f), λ _. refl)
      by_one other true false e f = (λ no. absurd (let n : false ≡ true = no in cc), λ m. sym f ∙ n.1 (one_cons x xs other m).1)
      by_one other false q e f = (λ no. absurd (let n : false ≡ true = no in cc), λ m. sym e ∙ (bytes_eq-Decides x line).1 (one_cons x xs other m).0)

      by_tests : (any same : Bool) → bytes_eq line any_lines ≡ any → bytes_eq x line ≡ same → (stands_for line x later behind next ≡ true) ↔ Matches (line ∷ others) (x ∷ xs)
      by_tests true same e f = rw e (by_any ((bytes_eq-Decides line any_lines).0 e) later behind refl refl)
      by_tests false same e f = rw e (by_one (λ is. let t = (bytes_eq-Decides line any_lines).1 is in cc) (bytes_eq x line) next refl refl)

-- a row with one more bit
row_more : (expected answered : List (List ℕ)) (row : List Bool) (bit : Bool) → IsRow expected answered row
    → (bit ≡ true) ↔ Matches expected (drop (length answered - length row) answered) → IsRow expected answered (row ++ bit ∷ [])
row_more expected answered row bit is last = record { each = λ count within. at count within (cases_lt count (length row)) }
  where
    Holds : ℕ → Bool → Type 0
    Holds count b = (b ≡ true) ↔ Matches expected (drop (length answered - count) answered)

    at : (count : ℕ) → count < length (row ++ bit ∷ []) → (count < length row) ⊎ (length row ≤ count) → Holds count (get_or (row ++ bit ∷ []) count false)
    at count within (inl front) = subst (Holds count) (sym (get_or_append_left row (bit ∷ []) false count front)) (is.each count front)
    at count within (inr past) =
        let longer : length (row ++ bit ∷ []) ≡ length row + 1 = length-append row (bit ∷ []) in
        let here : length row ≡ count = omega (arith, longer) in
        let place : count - length row ≡ 0 = omega arith in
        let value : get_or (row ++ bit ∷ []) count false ≡ bit = get_or-append_right row (bit ∷ []) (length row) count false refl past ∙ ap (λ n. get_or (bit ∷ []) n false) place in
        subst (Holds count) (sym value) (subst (λ n. (bit ≡ true) ↔ Matches expected (drop (length answered - n) answered)) here last)

nothing_left : (xs : List (List ℕ)) → drop (length xs - 0) xs ≡ []
nothing_left xs = let all : length xs - 0 ≡ length xs = omega arith in ap (λ n. drop n xs) all ∙ go xs
  where
    go : (ys : List (List ℕ)) → drop (length ys) ys ≡ []
    go [] = refl
    go (y ∷ ys) = go ys

-- the row after all expected lines
pub row_of_none : (answered : List (List ℕ)) (row : List Bool) → length row ≡ length answered + 1 → get_or row 0 false ≡ true
    → ((count : ℕ) → 0 < count → count < length row → get_or row count false ≡ false) → IsRow [] answered row
row_of_none answered row whole first others = record { each = at }
  where
    some_left : (xs : List (List ℕ)) (place : ℕ) → place < length xs → drop place xs ≡ [] → ⊥
    some_left [] place h e = omega arith
    some_left (x ∷ xs) zero h e = cc
    some_left (x ∷ xs) (suc place) h e = some_left xs place (omega arith) e

    at : (count : ℕ) → count < length row → (get_or row count false ≡ true) ↔ (drop (length answered - count) answered ≡ [])
    at zero h = (λ _. nothing_left answered, λ _. first)
    at (suc count) h =
        let no = others (suc count) (omega arith) h in
        (λ yes. absurd (let n : false ≡ true = sym no ∙ yes in cc), λ e. absurd (some_left answered (length answered - suc count) (omega (arith, h, whole)) e))

-- the first bit of the row with one more expected line
pub row_begins : (line : List ℕ) (others answered : List (List ℕ)) (behind : List Bool) → 0 < length behind → IsRow others answered behind
    → IsRow (line ∷ others) answered ((bytes_eq line any_lines && get_or behind 0 false) ∷ [])
row_begins line others answered behind some is =
    record { each = at }
  where
    bit : Bool
    bit = bytes_eq line any_lines && get_or behind 0 false

    first : (bit ≡ true) ↔ Matches (line ∷ others) []
    first = first_is line others (bytes_eq line any_lines) refl (get_or behind 0 false)
        (subst (λ xs. (get_or behind 0 false ≡ true) ↔ Matches others xs) (nothing_left answered) (is.each 0 some))

    at : (count : ℕ) → count < 1 → (get_or (bit ∷ []) count false ≡ true) ↔ Matches (line ∷ others) (drop (length answered - count) answered)
    at zero h = subst (λ xs. (bit ≡ true) ↔ Matches (line ∷ others) xs) (sym (nothing_left answered)) first
    at (suc count) h = absurd (omega arith)

-- each further bit of the row with one more expected line
pub row_goes_on : (line first : List ℕ) (others answered : List (List ℕ)) (behind row : List Bool) (count : ℕ) → 0 < count → count < length behind
    → length behind ≡ length answered + 1 → length row ≡ count → get_or answered (length answered - count) [] ≡ first
    → IsRow others answered behind → IsRow (line ∷ others) answered row
    → IsRow (line ∷ others) answered (row ++ stands_for line first (get_or row (count - 1) false) (get_or behind count false) (get_or behind (count - 1) false) ∷ [])
row_goes_on line first others answered behind row count some within whole long is_first is begun =
    row_more (line ∷ others) answered row _ begun
    (subst (λ n. (stands_for line first later now next ≡ true) ↔ Matches (line ∷ others) (drop (length answered - n) answered)) (sym long)
    (subst (λ xs. (stands_for line first later now next ≡ true) ↔ Matches (line ∷ others) xs) (sym ends) more))
  where
    later : Bool
    later = get_or row (count - 1) false

    now : Bool
    now = get_or behind count false

    next : Bool
    next = get_or behind (count - 1) false

    place : ℕ
    place = length answered - count

    rest : List (List ℕ)
    rest = drop (length answered - (count - 1)) answered

    ends : drop place answered ≡ first ∷ rest
    ends =
        let after : suc place ≡ length answered - (count - 1) = omega (arith, some, within, whole) in
        let here : place < length answered = omega (arith, some, within, whole) in
        drop-cons answered place [] here ∙ ap (λ f. f ∷ drop (suc place) answered) is_first ∙ ap (λ n. first ∷ drop n answered) after

    more : (stands_for line first later now next ≡ true) ↔ Matches (line ∷ others) (first ∷ rest)
    more = more_is line others first rest later now next (begun.each (count - 1) (omega (arith, some, long)))
        (subst (λ xs. (now ≡ true) ↔ Matches others xs) ends (is.each count within)) (is.each (count - 1) (omega (arith, some, within)))

-- the text at an index
pub text_at : (lines : List (Bor (List ℕ))) (place : ℕ) (nothing : Bor (List ℕ)) → place < length lines → get_or (texts lines) place [] ≡ (get_or lines place nothing).now
text_at lines place nothing within = get_or-map (λ (text : Bor (List ℕ)). text.now) lines place nothing [] within

pub texts_length : (lines : List (Bor (List ℕ))) → length (texts lines) ≡ length lines
texts_length lines = length-map lines (λ text. text.now)

pub row_steps : (line : List ℕ) (others : List (List ℕ)) (lines : List (Bor (List ℕ))) (nothing : Bor (List ℕ)) (behind row : List Bool) (count : ℕ) (here bit : Bool)
    → 0 < count → count < length behind → length behind ≡ length lines + 1 → length row ≡ count → here ≡ get_or row (count - 1) false
    → bit ≡ stands_for line (get_or lines (length lines - count) nothing).now here (get_or behind count false) (get_or behind (count - 1) false)
    → IsRow others (texts lines) behind → IsRow (line ∷ others) (texts lines) row → IsRow (line ∷ others) (texts lines) (row ++ bit ∷ [])
row_steps line others lines nothing behind row count here bit some within whole long here_is bit_is is begun =
    let size = texts_length lines in
    let first : List ℕ = (get_or lines (length lines - count) nothing).now in
    subst (λ b. IsRow (line ∷ others) (texts lines) (row ++ b ∷ []))
    (sym (bit_is ∙ ap (λ h. stands_for line first h (get_or behind count false) (get_or behind (count - 1) false)) here_is))
    (row_goes_on line first others (texts lines) behind row count some within (whole ∙ ap (λ n. n + 1) (sym size)) long
    (ap (λ n. get_or (texts lines) (n - count) []) size ∙ text_at lines (length lines - count) nothing (omega (arith, some, within, whole))) is begun)

pub last_bit : (row : List Bool) (bit : Bool) (count : ℕ) → length row ≡ count → bit ≡ get_or (row ++ bit ∷ []) (count + 1 - 1) false
last_bit row bit count long =
    let same : count + 1 - 1 ≡ count = omega arith in
    let none : count - count ≡ 0 = omega arith in
    sym (ap (λ n. get_or (row ++ bit ∷ []) n false) same ∙ get_or-append_right row (bit ∷ []) count count false long (omega arith) ∙ ap (λ n. get_or (bit ∷ []) n false) none)

-- The expected lines from `left - 1` on are line `left - 1` and the expected lines from `left` on.
pub drop_before : (lines : List (Bor (List ℕ))) (left : ℕ) (nothing : Bor (List ℕ)) → 0 < left → left ≤ length lines
    → drop (left - 1) (texts lines) ≡ (get_or lines (left - 1) nothing).now ∷ drop left (texts lines)
drop_before lines left nothing some within =
    let size = texts_length lines in
    let here : left - 1 < length lines = omega (arith, some, within) in
    let here_too : left - 1 < length (texts lines) = omega (arith, here, size) in
    let next : suc (left - 1) ≡ left = omega (arith, some) in
    drop-cons (texts lines) (left - 1) [] here_too ∙ ap (λ f. f ∷ drop (suc (left - 1)) (texts lines)) (text_at lines (left - 1) nothing here)
    ∙ ap (λ n. (get_or lines (left - 1) nothing).now ∷ drop n (texts lines)) next

-- the row of all expected lines, at the number of all answered lines
pub row_ends : (lines answered : List (Bor (List ℕ))) (row : List Bool) (left : ℕ) → left ≤ 0 → length row ≡ length answered + 1
    → IsRow (drop left (texts lines)) (texts answered) row → (get_or row (length answered) false ≡ true) ↔ Matches (texts lines) (texts answered)
row_ends lines answered row left none whole is =
    let all : left ≡ 0 = omega arith in
    let place : length (texts answered) - length answered ≡ 0 = omega (arith, texts_length answered) in
    subst (λ n. (get_or row (length answered) false ≡ true) ↔ Matches (drop n (texts lines)) (texts answered)) all
    (subst (λ n. (get_or row (length answered) false ≡ true) ↔ Matches (drop left (texts lines)) (drop n (texts answered))) place
    (is.each (length answered) (omega (arith, whole))))
