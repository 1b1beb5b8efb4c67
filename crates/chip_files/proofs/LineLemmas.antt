-- The first line of some bytes, and the lines after it.
use Rattle.std.proofs.Common.{◌≡◌, ℕ, ◌<◌, ◌≤◌, ◌==◌, Bool, true, false, cond, List, [], ◌∷◌, length, refl, ap, sym, ◌∙◌, arith, ne_eqb}
use Rattle.std.specs.List.{slice_split, onto_first, position_or_len, before_first, after_first, All}
use Rattle.std.specs.Str.Lines.{lines, lines_of_parts, strip_carriage_return}
use Rattle.std.proofs.lemmas.List.Elements.{All-from_get_or}
use Rattle.std.proofs.lemmas.List.Splits.{slice_split_first, slice_split_none}
use Rattle.std.proofs.lemmas.List.Sums.{fails_before_first}

abbrev pub is_newline : ℕ → Bool
is_newline byte = byte == 10

record Filled (parts : List (List ℕ)) : Type 0 where
  first : List ℕ
  others : List (List ℕ)
  is : parts ≡ first ∷ others

filled_first : (c : ℕ) (parts : List (List ℕ)) → Filled (onto_first c parts)
filled_first c [] = record { first = c ∷ []; others = []; is = refl }
filled_first c (part ∷ parts) = record { first = c ∷ part; others = parts; is = refl }

filled_cond : (b : Bool) (xs ys : List (List ℕ)) → Filled xs → Filled ys → Filled (cond b xs ys)
filled_cond true xs ys f g = f
filled_cond false xs ys f g = g

filled : (bytes : List ℕ) → Filled (slice_split is_newline bytes)
filled [] = record { first = []; others = []; is = refl }
filled (x ∷ xs) = filled_cond (is_newline x) _ _ (record { first = []; others = slice_split is_newline xs; is = refl }) (filled_first x (slice_split is_newline xs))

-- the lines of bytes whose first line ends with a newline
pub ended_line : (bytes : List ℕ) → position_or_len is_newline bytes < length bytes →
    lines bytes ≡ strip_carriage_return (before_first is_newline bytes) ∷ lines (after_first is_newline bytes)
ended_line bytes h =
    let f = filled (after_first is_newline bytes) in
    ap lines_of_parts (slice_split_first is_newline bytes 0 h ∙ ap (λ parts. before_first is_newline bytes ∷ parts) f.is)
    ∙ ap (λ parts. strip_carriage_return (before_first is_newline bytes) ∷ lines_of_parts parts) (sym f.is)

not_empty : (bytes : List ℕ) → 0 < length bytes → cond (length bytes == 0) [] (bytes ∷ []) ≡ bytes ∷ []
not_empty [] h = absurd (omega arith)
not_empty (x ∷ xs) h = let e : (length (x ∷ xs) == 0) ≡ false = ne_eqb (length (x ∷ xs)) 0 (λ k. omega arith) in rw e refl

-- bytes without a newline form exactly one line
pub last_line : (bytes : List ℕ) → 0 < length bytes → length bytes ≤ position_or_len is_newline bytes → lines bytes ≡ bytes ∷ []
last_line bytes some h =
    let none : All (λ b. is_newline b ≡ false) bytes =
    All-from_get_or (λ b. is_newline b ≡ false) bytes 0 (λ i inside. fails_before_first is_newline bytes i 0 (omega arith)) in
    ap lines_of_parts (slice_split_none is_newline bytes none) ∙ not_empty bytes some
