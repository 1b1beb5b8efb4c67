-- Bytes split into lines, one line after another.
use Rattle.std.proofs.Common.{◌≡◌, ℕ, suc, ◌+◌, ◌<◌, ◌≤◌, ◌==◌, Bool, true, false, cond, ltb, List, [], ◌∷◌, ◌++◌, length, drop, take, ◌-◌, refl, ap, sym, ◌∙◌, arith, Some, None, length-append, ne_eqb}
use Rattle.std.specs.List.{slice_split, onto_first, position_or_len, before_first, after_first, All}
use Rattle.std.specs.Str.Lines.{lines_of_parts, strip_carriage_return}
use Rattle.std.proofs.lemmas.Bool.{eqb-true}
use Rattle.std.proofs.lemmas.Bool.Decides.{nat_tests}
use Rattle.std.proofs.lemmas.List.Elements.{All-from_get_or, All-tail}
use Rattle.std.proofs.lemmas.List.{append-nil, drop_all, drop-drop}
use Rattle.std.proofs.lemmas.List.Splits.{slice_split_first, slice_split_none}
use Rattle.std.proofs.lemmas.List.Sums.{fails_before_first}
use Rattle.chip_asm.specs.declared.limits.TheConstants.{LINE_BYTES, MOST_LINES}
use Rattle.chip_asm.specs.declared.refusal.OpenError.TheVariants.{LineTooLong, TooManyLines}
use Rattle.std.specs.Io.{StartsWith}
use Rattle.chip_asm.specs.inner.HeldText.{IsBack, part_from}
use Rattle.chip_asm.specs.Lines.{lines_of, is_long, fault_of_lines, open_fault, is_newline, first_text}

-- a list that isn't empty
pub record Filled (parts : List (List ℕ)) : Type 0 where
  pub first : List ℕ
  pub others : List (List ℕ)
  pub is : parts ≡ first ∷ others

filled_first : (c : ℕ) (parts : List (List ℕ)) → Filled (onto_first c parts)
filled_first c [] = record { first = c ∷ []; others = []; is = refl }
filled_first c (part ∷ parts) = record { first = c ∷ part; others = parts; is = refl }

filled_cond : (b : Bool) (xs ys : List (List ℕ)) → Filled xs → Filled ys → Filled (cond b xs ys)
filled_cond true xs ys f g = f
filled_cond false xs ys f g = g

pub filled : (bytes : List ℕ) → Filled (slice_split is_newline bytes)
filled [] = record { first = []; others = []; is = refl }
filled (x ∷ xs) = filled_cond (is_newline x) _ _ (record { first = []; others = slice_split is_newline xs; is = refl }) (filled_first x (slice_split is_newline xs))

cut-found : (bytes : List ℕ) → position_or_len is_newline bytes < length bytes → lines_of bytes ≡ strip_carriage_return (before_first is_newline bytes) ∷ lines_of (after_first is_newline bytes)
cut-found bytes h =
    let f = filled (after_first is_newline bytes) in
    ap lines_of_parts (slice_split_first is_newline bytes 0 h ∙ ap (λ parts. before_first is_newline bytes ∷ parts) f.is)
    ∙ ap (λ parts. strip_carriage_return (before_first is_newline bytes) ∷ lines_of_parts parts) (sym f.is)

not-empty : (bytes : List ℕ) → 0 < length bytes → cond (length bytes == 0) [] (bytes ∷ []) ≡ bytes ∷ []
not-empty [] h = absurd (omega arith)
not-empty (x ∷ xs) h = let e : (length (x ∷ xs) == 0) ≡ false = ne_eqb (length (x ∷ xs)) 0 (λ k. omega arith) in rw e refl

cut-last : (bytes : List ℕ) → 0 < length bytes → length bytes ≤ position_or_len is_newline bytes → lines_of bytes ≡ bytes ∷ lines_of (after_first is_newline bytes)
cut-last bytes some h =
    let none : All (λ b. is_newline b ≡ false) bytes = All-from_get_or (λ b. is_newline b ≡ false) bytes 0 (λ i inside. fails_before_first is_newline bytes i 0 (omega arith)) in
    ap lines_of_parts (slice_split_none is_newline bytes none) ∙ not-empty bytes some
    ∙ ap (λ xs. bytes ∷ lines_of xs) (sym (drop_all (position_or_len is_newline bytes + 1) bytes (omega arith)))

-- the lines of bytes are the first line and the lines of the bytes after it
pub lines-next : (bytes : List ℕ) → 0 < length bytes → lines_of bytes ≡ first_text bytes ∷ lines_of (after_first is_newline bytes)
lines-next bytes some = by (ltb (position_or_len is_newline bytes) (length bytes)) refl
  where
    by : (b : Bool) → ltb (position_or_len is_newline bytes) (length bytes) ≡ b → lines_of bytes ≡ cond b (strip_carriage_return (before_first is_newline bytes)) bytes ∷ lines_of (after_first is_newline bytes)
    by true e = cut-found bytes (grind (arith, nat_tests))
    by false e = cut-last bytes some (grind (arith, nat_tests))

-- no text is too long
abbrev pub AllShort : List (List ℕ) → Type 0
AllShort texts = All (λ t. is_long t ≡ false) texts

short-before : (xs ys : List (List ℕ)) → AllShort xs → position_or_len is_long (xs ++ ys) ≡ length xs + position_or_len is_long ys
short-before [] ys h = let e : position_or_len is_long ys ≡ 0 + position_or_len is_long ys = omega arith in e
short-before (x ∷ xs) ys h =
    let first : is_long x ≡ false = h 0 x (omega arith) in
    rw first (let k = short-before xs ys (All-tail (λ t. is_long t ≡ false) x xs h) in omega arith)

pub opens : (source : List ℕ) (texts : List (List ℕ)) → texts ≡ lines_of source → AllShort texts → length texts ≤ MOST_LINES → open_fault source ≡ None
opens source texts e short few =
    let none : position_or_len is_long texts ≡ length texts = ap (position_or_len is_long) (sym (append-nil texts)) ∙ short-before texts [] short ∙ (let all : length texts + 0 ≡ length texts = omega arith in all) in
    rw (← e, none) (by (length texts) few)
  where
    by : (n : ℕ) → n ≤ MOST_LINES → fault_of_lines n n ≡ None
    by n h = grind (arith, nat_tests)

pub too-long : (source : List ℕ) (texts more : List (List ℕ)) (t : List ℕ) → texts ++ t ∷ more ≡ lines_of source → AllShort texts → is_long t ≡ true → length texts < MOST_LINES → open_fault source ≡ Some (LineTooLong (length texts + 1))
too-long source texts more t e short long few =
    let first : position_or_len is_long (texts ++ t ∷ more) ≡ length texts = short-before texts (t ∷ more) short ∙ (rw long (let z : length texts + 0 ≡ length texts = omega arith in z)) in
    rw (← e, first, length-append texts (t ∷ more)) (by (length texts) (length more) few)
  where
    by : (n m : ℕ) → n < MOST_LINES → fault_of_lines n (n + suc m) ≡ Some (LineTooLong (n + 1))
    by n m h = grind (arith, nat_tests)

pub too-many : (source : List ℕ) (texts more : List (List ℕ)) (t : List ℕ) → texts ++ t ∷ more ≡ lines_of source → AllShort texts → length texts ≡ MOST_LINES → open_fault source ≡ Some TooManyLines
too-many source texts more t e short many =
    let first = short-before texts (t ∷ more) short in
    rw (← e, first, length-append texts (t ∷ more), many) (by (position_or_len is_long (t ∷ more)) (length more))
  where
    by : (n m : ℕ) → fault_of_lines (MOST_LINES + n) (MOST_LINES + suc m) ≡ Some TooManyLines
    by n m = grind (arith, nat_tests)

pub some-bytes : (bytes : List ℕ) → (length bytes == 0) ≡ false → 0 < length bytes
some-bytes [] e = cc
some-bytes (x ∷ xs) e = omega arith

pub no-lines : (bytes : List ℕ) → (length bytes == 0) ≡ true → lines_of bytes ≡ []
no-lines [] e = refl
no-lines (x ∷ xs) e = absurd (let n : length (x ∷ xs) ≡ 0 = eqb-true (length (x ∷ xs)) 0 e in omega arith)

pub long-is : (t : List ℕ) → LINE_BYTES < length t → is_long t ≡ true
long-is t h = grind (arith, nat_tests)

pub short-is : (t : List ℕ) → length t ≤ LINE_BYTES → is_long t ≡ false
short-is t h = grind (arith, nat_tests)

-- a text at the front of a suffix of some bytes is a part of these bytes
pub part-of : (text rest bytes : List ℕ) → StartsWith rest text → IsBack rest bytes → text ≡ part_from bytes (length bytes - length rest) (length text)
part-of text rest bytes f b =
    let count : length bytes - length rest + length text - (length bytes - length rest) ≡ length text = omega arith in
    sym f ∙ ap (take (length text)) b.is ∙ (rw count refl)

-- a suffix of a suffix of some bytes is a suffix of them
pub back-back : (less rest bytes : List ℕ) → IsBack less rest → IsBack rest bytes → IsBack less bytes
back-back less rest bytes l b =
    let count : length bytes - length rest + (length rest - length less) ≡ length bytes - length less = omega (arith, l.within, b.within) in record {
      within = omega (arith, l.within, b.within);
      is = l.is ∙ ap (drop (length rest - length less)) b.is ∙ drop-drop (length rest - length less) (length bytes - length rest) bytes ∙ ap (λ n. drop n bytes) count;
    }
