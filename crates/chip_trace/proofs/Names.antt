-- The names of columns.
use Rattle.std.proofs.Common.{◌≡◌, ℕ, zero, suc, ◌+◌, ◌-◌, ◌<◌, ◌≤◌, ◌==◌, Bool, true, false, cond, List, [], ◌∷◌, ◌++◌, map, take, drop, length, refl, sym, ap, ap₂, ◌∙◌, arith, Option, Some, None}
use Rattle.std.specs.List.{find, slice_split, position_or_len, range_with_len, All}
use Rattle.std.proofs.lemmas.List.Elements.{All-from_get_or}
use Rattle.std.proofs.lemmas.List.Splits.{slice_split_none}
use Rattle.std.proofs.lemmas.List.Sums.{fails_before_first}
use Rattle.std.proofs.lemmas.Bool.{and_parts, eqb-true}
use Rattle.std.proofs.lemmas.List.{map-append, length-map, take-map, take-append-drop}
use Rattle.std.proofs.lemmas.List.Splits.{join_with_byte-slice_split}
use Rattle.std.proofs.lemmas.Slice.Eq.{bytes_eq-Decides}
use Rattle.std.specs.Char.{to_ascii_lowercase}
use Rattle.std.specs.List.{join_with_byte, list_any, starts_with}
use Rattle.std.specs.Prelude.{codes, nat_eq, is_none, not, slice_index, ◌&&◌, ◌||◌}
use Rattle.std.specs.Str.{str_to_ascii_lowercase}
use Rattle.hex.specs.Hex.{lower_digits}
use Rattle.chip_trace.specs.Columns.{column_name, header_line, register_columns}
use Rattle.chip_trace.specs.Header.{column_of, columns_named, first_unknown, has_text, header_fault, is_named, is_space, is_text, other_columns}
use Rattle.chip_trace.specs.declared.header.HeaderError.{HeaderError}
use Rattle.chip_trace.specs.declared.header.HeaderError.TheVariants.{NotAHeader, UnknownColumn, TextNotLast}
use Rattle.chip_trace.specs.declared.column.Column.{Column}
use Rattle.chip_trace.specs.declared.column.Column.TheVariants.{Step, Pc, Word, Register, Index, Delay, Sound, Depth, Draws, Screen, Memory, Text}

-- no register passes the test
pub none_registered : (p : Column → Bool) (a n : ℕ) → ((k : ℕ) → k < a + n → p (Register k) ≡ false) → find p (map (λ x. Register x) (range_with_len a n)) ≡ None
none_registered p a zero none = refl
none_registered p a (suc n) none =
    ap (λ t. cond t (Some (Register a)) (find p (map (λ x. Register x) (range_with_len (a + 1) n)))) (none a (omega arith))
    ∙ none_registered p (a + 1) n (λ k lt. none k (omega arith))

-- an element that `find` returns passes the test
find_passes : (p : Column → Bool) (xs : List Column) (column : Column) → find p xs ≡ Some column → p column ≡ true
find_passes p [] column e = absurd (cc)
find_passes p (x ∷ xs) column e = first_or (p x) refl (find p xs) e (λ rest. find_passes p xs column rest)
  where
    first_or : (b : Bool) → p x ≡ b → (found : Option Column) → cond b (Some x) found ≡ Some column → (found ≡ Some column → p column ≡ true) → p column ≡ true
    first_or true passes found e rest = let same : x ≡ column = cc in ap p (sym same) ∙ passes
    first_or false fails found e rest = rest e

-- a text without a space is a single name
pub only_name : (names : List ℕ) → length names ≤ position_or_len is_space names → slice_split is_space names ≡ names ∷ []
only_name names past =
    let none : All (λ b. is_space b ≡ false) names =
    All-from_get_or (λ b. is_space b ≡ false) names 0 (λ i inside. fails_before_first is_space names i 0 (omega arith)) in
    slice_split_none is_space names none

-- ---- names in lower case

-- each byte of a list is lower case
abbrev all_lower : List ℕ → Bool
all_lower [] = true
all_lower (b ∷ bs) = (to_ascii_lowercase b == b) && all_lower bs

lower_at_place : (bs : List ℕ) (i : ℕ) → all_lower bs ≡ true → to_ascii_lowercase (slice_index bs i) ≡ slice_index bs i
lower_at_place [] i e = refl
lower_at_place (b ∷ bs) zero e = eqb-true _ _ (and_parts (to_ascii_lowercase b == b) (all_lower bs) e).0
lower_at_place (b ∷ bs) (suc i) e = lower_at_place bs i (and_parts (to_ascii_lowercase b == b) (all_lower bs) e).1

-- column names are lower case
lower_name : (column : Column) → str_to_ascii_lowercase (column_name column) ≡ column_name column
lower_name Step = refl
lower_name Pc = refl
lower_name Word = refl
lower_name (Register x) = ap (λ d. 118 ∷ d ∷ []) (lower_at_place lower_digits x refl)
lower_name Index = refl
lower_name Delay = refl
lower_name Sound = refl
lower_name Depth = refl
lower_name Draws = refl
lower_name Screen = refl
lower_name Memory = refl
lower_name Text = refl

-- the column found for a name has that name
name_is : (name : List ℕ) (column : Column) → column_of name ≡ Some column → column_name column ≡ str_to_ascii_lowercase name
unfolding column_of
name_is name column e =
    let named = find_passes (is_named name) (other_columns ++ register_columns) column e in
    sym (lower_name column) ∙ sym ((bytes_eq-Decides (str_to_ascii_lowercase name) (str_to_ascii_lowercase (column_name column))).0 named)

names_are : (names : List (List ℕ)) (columns : List Column) → map column_of names ≡ map Some columns → map column_name columns ≡ map str_to_ascii_lowercase names
names_are [] [] e = refl
names_are [] (column ∷ columns) e = absurd (cc)
names_are (name ∷ names) [] e = absurd (cc)
names_are (name ∷ names) (column ∷ columns) e =
    let here : column_of name ≡ Some column = cc in
    let rest : map column_of names ≡ map Some columns = cc in
    ap₂ (λ l ls. l ∷ ls) (name_is name column here) (names_are names columns rest)

lower_joined : (names : List (List ℕ)) → join_with_byte 32 (map str_to_ascii_lowercase names) ≡ str_to_ascii_lowercase (join_with_byte 32 names)
lower_joined [] = refl
lower_joined (name ∷ []) = refl
lower_joined (name ∷ next ∷ names) =
    ap (λ rest. str_to_ascii_lowercase name ++ (32 ∷ rest)) (lower_joined (next ∷ names))
    ∙ sym (map-append to_ascii_lowercase name (32 ∷ join_with_byte 32 (next ∷ names)))

-- a line that starts as a header does
abbrev begins : List ℕ → Bool
begins line = starts_with nat_eq line (codes "# ")

line_is : (line : List ℕ) → begins line ≡ true → line ≡ codes "# " ++ drop 2 line
line_is line e =
    let front = (bytes_eq-Decides (codes "# ") (take 2 line)).0 e in
    sym (take-append-drop 2 line) ∙ ap (λ l. l ++ drop 2 line) (sym front)

-- the header line of columns whose names are those of a line
pub header_is : (line : List ℕ) (columns : List Column) → begins line ≡ true → map Some columns ≡ columns_named line → header_line columns ≡ str_to_ascii_lowercase line
header_is line columns e named =
    let names : List (List ℕ) = slice_split is_space (drop 2 line) in
    ap (λ ls. codes "# " ++ join_with_byte 32 ls) (names_are names columns (sym named))
    ∙ ap (λ l. codes "# " ++ l) (lower_joined names ∙ ap str_to_ascii_lowercase (join_with_byte-slice_split 32 (drop 2 line)))
    ∙ ap str_to_ascii_lowercase (sym (line_is line e))

-- ---- errors

-- the error determined by the three tests
abbrev fault_by : (unknown : ℕ) (is_header has_unknown has_early_text : Bool) → Option HeaderError
fault_by unknown is_header has_unknown has_early_text =
    cond (not is_header) (Some NotAHeader) (cond has_unknown (Some (UnknownColumn unknown)) (cond has_early_text (Some TextNotLast) None))

fault_is : (line : List ℕ) → header_fault line ≡ fault_by (first_unknown (columns_named line)) (begins line) (list_any is_none (columns_named line)) (has_text (columns_named line))
unfolding header_fault
fault_is line = refl

pub not_a_header : (line : List ℕ) → begins line ≡ false → header_fault line ≡ Some NotAHeader
not_a_header line e = fault_is line ∙ ap (λ b. fault_by (first_unknown (columns_named line)) b (list_any is_none (columns_named line)) (has_text (columns_named line))) e

none_there : (columns : List Column) (rest : List (Option Column)) → list_any is_none (map Some columns ++ (None ∷ rest)) ≡ true
none_there [] rest = refl
none_there (column ∷ columns) rest = none_there columns rest

unknown_at : (columns : List Column) (rest : List (Option Column)) → position_or_len is_none (map Some columns ++ (None ∷ rest)) ≡ length columns
unknown_at [] rest = refl
unknown_at (column ∷ columns) rest = ap (λ n. 1 + n) (unknown_at columns rest) ∙ omega arith

pub unknown_name : (line : List ℕ) (columns : List Column) (rest : List (Option Column)) (count : ℕ) → begins line ≡ true → map Some columns ++ (None ∷ rest) ≡ columns_named line
    → count ≡ length columns → header_fault line ≡ Some (UnknownColumn (count + 1))
unknown_name line columns rest count e named is =
    let unknown : list_any is_none (columns_named line) ≡ true = ap (list_any is_none) (sym named) ∙ none_there columns rest in
    let place : first_unknown (columns_named line) ≡ count + 1 = ap first_unknown (sym named) ∙ ap (λ n. n + 1) (unknown_at columns rest ∙ sym is) in
    fault_is line ∙ ap₂ (λ b u. fault_by (first_unknown (columns_named line)) b u (has_text (columns_named line))) e unknown
    ∙ ap (λ n. Some (UnknownColumn n)) place

some_there : (columns : List Column) → list_any is_none (map Some columns) ≡ false
some_there [] = refl
some_there (column ∷ columns) = some_there columns

any_map : (p : Option Column → Bool) (columns : List Column) → list_any p (map Some columns) ≡ list_any (λ column. p (Some column)) columns
any_map p [] = refl
any_map p (column ∷ columns) = ap (λ b. p (Some column) || b) (any_map p columns)

text_there : (columns : List Column) → has_text (map Some columns) ≡ list_any (λ column. is_text (Some column)) (take (length columns - 1) columns)
text_there columns =
    ap (λ n. list_any is_text (take (n - 1) (map Some columns))) (length-map columns (λ x. Some x))
    ∙ ap (list_any is_text) (take-map Some (length columns - 1) columns)
    ∙ any_map is_text (take (length columns - 1) columns)

-- the error of a line whose names are all known
pub late_fault : (line : List ℕ) (columns : List Column) (early : Bool) → begins line ≡ true → map Some columns ≡ columns_named line
    → early ≡ list_any (λ column. is_text (Some column)) (take (length columns - 1) columns)
    → header_fault line ≡ cond early (Some TextNotLast) None
late_fault line columns early e named is =
    let known : list_any is_none (columns_named line) ≡ false = ap (list_any is_none) (sym named) ∙ some_there columns in
    let text : has_text (columns_named line) ≡ early = ap has_text (sym named) ∙ text_there columns ∙ sym is in
    fault_is line ∙ ap₂ (λ b u. fault_by (first_unknown (columns_named line)) b u (has_text (columns_named line))) e known
    ∙ ap (fault_by (first_unknown (columns_named line)) true false) text
