-- How the complete lines and the unfinished line grow by one byte, and how they make up the lines.
use Rattle.std.proofs.Common.{◌≡◌, ℕ, ◌+◌, ◌<◌, ◌≤◌, ◌==◌, ◌||◌, zero, suc, Bool, true, false, cond, List, [], ◌∷◌, ◌++◌, get_or, length, map, take, refl, sym, ◌∙◌, ap, append_assoc, arith}
use Rattle.std.specs.List.{list_any, slice_split, onto_first}
use Rattle.std.specs.Str.Lines.{lines_of_parts, strip_carriage_return}
use Rattle.std.proofs.lemmas.Bool.{eqb-true}
use Rattle.std.proofs.lemmas.List.{append-nil, map-append, length-append}
use Rattle.chip_session.specs.Lines.{all_but_last, last_part, complete_lines, unfinished_line}
use Rattle.chip_asm.specs.Lines.{is_newline, lines_of}
use Rattle.chip_asm.proofs.CutSteps.{filled}

-- appends a byte to the last part
abbrev onto_last : ℕ → List (List ℕ) → List (List ℕ)
onto_last b [] = (b ∷ []) ∷ []
onto_last b (part ∷ []) = (part ++ b ∷ []) ∷ []
onto_last b (part ∷ next ∷ parts) = part ∷ onto_last b (next ∷ parts)

first_last : (c b : ℕ) (part : List ℕ) (parts : List (List ℕ)) → onto_first c (onto_last b (part ∷ parts)) ≡ onto_last b (onto_first c (part ∷ parts))
first_last c b part [] = refl
first_last c b part (next ∷ parts) = refl

last_cond : (b : ℕ) (test : Bool) (x : ℕ) (part : List ℕ) (parts : List (List ℕ)) →
    cond test ([] ∷ onto_last b (part ∷ parts)) (onto_first x (onto_last b (part ∷ parts))) ≡ onto_last b (cond test ([] ∷ part ∷ parts) (onto_first x (part ∷ parts)))
last_cond b true x part parts = refl
last_cond b false x part parts = first_last x b part parts

split_push_no : (xs : List ℕ) (b : ℕ) → is_newline b ≡ false → slice_split is_newline (xs ++ b ∷ []) ≡ onto_last b (slice_split is_newline xs)
split_push_no [] b other = ap (λ t. cond t ([] ∷ [] ∷ []) ((b ∷ []) ∷ [])) other
split_push_no (x ∷ xs) b other =
    let f = filled xs in
    ap (λ parts. cond (is_newline x) ([] ∷ parts) (onto_first x parts)) (split_push_no xs b other ∙ ap (onto_last b) f.is)
    ∙ last_cond b (is_newline x) x f.first f.others
    ∙ sym (ap (λ parts. onto_last b (cond (is_newline x) ([] ∷ parts) (onto_first x parts))) f.is)

push_cond : (test : Bool) (x : ℕ) (part : List ℕ) (parts : List (List ℕ)) →
    cond test ([] ∷ (part ∷ parts) ++ [] ∷ []) (onto_first x ((part ∷ parts) ++ [] ∷ [])) ≡ cond test ([] ∷ part ∷ parts) (onto_first x (part ∷ parts)) ++ [] ∷ []
push_cond true x part parts = refl
push_cond false x part parts = refl

split_push_yes : (xs : List ℕ) → slice_split is_newline (xs ++ 10 ∷ []) ≡ slice_split is_newline xs ++ [] ∷ []
split_push_yes [] = refl
split_push_yes (x ∷ xs) =
    let f = filled xs in
    ap (λ parts. cond (is_newline x) ([] ∷ parts) (onto_first x parts)) (split_push_yes xs ∙ ap (λ parts. parts ++ [] ∷ []) f.is)
    ∙ push_cond (is_newline x) x f.first f.others
    ∙ sym (ap (λ parts. cond (is_newline x) ([] ∷ parts) (onto_first x parts) ++ [] ∷ []) f.is)

but_last_onto : (b : ℕ) (part : List ℕ) (parts : List (List ℕ)) → all_but_last (onto_last b (part ∷ parts)) ≡ all_but_last (part ∷ parts)
but_last_onto b part [] = refl
but_last_onto b part (next ∷ []) = refl
but_last_onto b part (next ∷ third ∷ parts) = ap (λ xs. part ∷ xs) (but_last_onto b next (third ∷ parts))

last_onto : (b : ℕ) (part : List ℕ) (parts : List (List ℕ)) → last_part (onto_last b (part ∷ parts)) ≡ last_part (part ∷ parts) ++ b ∷ []
last_onto b part [] = refl
last_onto b part (next ∷ []) = refl
last_onto b part (next ∷ third ∷ parts) = last_onto b next (third ∷ parts)

but_last_push : (part new : List ℕ) (parts : List (List ℕ)) → all_but_last ((part ∷ parts) ++ new ∷ []) ≡ all_but_last (part ∷ parts) ++ last_part (part ∷ parts) ∷ []
but_last_push part new [] = refl
but_last_push part new (next ∷ parts) = ap (λ xs. part ∷ xs) (but_last_push next new parts)

last_push : (part new : List ℕ) (parts : List (List ℕ)) → last_part ((part ∷ parts) ++ new ∷ []) ≡ new
last_push part new [] = refl
last_push part new (next ∷ parts) = last_push next new parts

-- a byte other than a newline leaves the complete lines unchanged
pub complete_byte : (xs : List ℕ) (b : ℕ) → is_newline b ≡ false → complete_lines (xs ++ b ∷ []) ≡ complete_lines xs
unfolding complete_lines
complete_byte xs b other =
    let f = filled xs in
    ap (λ parts. map strip_carriage_return (all_but_last parts)) (split_push_no xs b other ∙ ap (onto_last b) f.is)
    ∙ ap (map strip_carriage_return) (but_last_onto b f.first f.others)
    ∙ sym (ap (λ parts. map strip_carriage_return (all_but_last parts)) f.is)

pub unfinished_byte : (xs : List ℕ) (b : ℕ) → is_newline b ≡ false → unfinished_line (xs ++ b ∷ []) ≡ unfinished_line xs ++ b ∷ []
unfolding unfinished_line
unfinished_byte xs b other =
    let f = filled xs in
    ap last_part (split_push_no xs b other ∙ ap (onto_last b) f.is)
    ∙ last_onto b f.first f.others
    ∙ sym (ap (λ parts. last_part parts ++ b ∷ []) f.is)

none_here : (a b : Bool) → (a || b) ≡ false → (a ≡ false) × (b ≡ false)
none_here true b e = absurd (cc)
none_here false b e = (refl, e)

-- bytes without a newline leave the complete lines unchanged
pub complete_part : (part xs : List ℕ) → list_any is_newline part ≡ false → complete_lines (xs ++ part) ≡ complete_lines xs
complete_part [] xs none = ap complete_lines (append-nil xs)
complete_part (b ∷ part) xs none =
    let each = none_here (is_newline b) (list_any is_newline part) none in
    ap complete_lines (sym (append_assoc xs (b ∷ []) part)) ∙ complete_part part (xs ++ b ∷ []) each.1 ∙ complete_byte xs b each.0

pub unfinished_part : (part xs : List ℕ) → list_any is_newline part ≡ false → unfinished_line (xs ++ part) ≡ unfinished_line xs ++ part
unfinished_part [] xs none = ap unfinished_line (append-nil xs) ∙ sym (append-nil (unfinished_line xs))
unfinished_part (b ∷ part) xs none =
    let each = none_here (is_newline b) (list_any is_newline part) none in
    ap unfinished_line (sym (append_assoc xs (b ∷ []) part)) ∙ unfinished_part part (xs ++ b ∷ []) each.1
    ∙ ap (λ l. l ++ part) (unfinished_byte xs b each.0) ∙ append_assoc (unfinished_line xs) (b ∷ []) part

-- the bytes before the first newline contain no newline
pub none_before : (xs : List ℕ) (n : ℕ) → ((k : ℕ) → k < n → is_newline (get_or xs k 0) ≡ false) → list_any is_newline (take n xs) ≡ false
none_before xs zero none = refl
none_before [] (suc n) none = refl
none_before (x ∷ xs) (suc n) none =
    ap (λ t. t || list_any is_newline (take n xs)) (none 0 (omega arith)) ∙ none_before xs n (λ k lt. none (suc k) (omega arith))

-- a newline makes the unfinished line complete
pub complete_newline : (xs : List ℕ) → complete_lines (xs ++ 10 ∷ []) ≡ complete_lines xs ++ strip_carriage_return (unfinished_line xs) ∷ []
unfolding complete_lines unfinished_line
complete_newline xs =
    let f = filled xs in
    ap (λ parts. map strip_carriage_return (all_but_last parts)) (split_push_yes xs ∙ ap (λ parts. parts ++ [] ∷ []) f.is)
    ∙ ap (map strip_carriage_return) (but_last_push f.first [] f.others)
    ∙ map-append strip_carriage_return (all_but_last (f.first ∷ f.others)) (last_part (f.first ∷ f.others) ∷ [])
    ∙ sym (ap (λ parts. map strip_carriage_return (all_but_last parts) ++ strip_carriage_return (last_part parts) ∷ []) f.is)

pub unfinished_newline : (xs : List ℕ) → unfinished_line (xs ++ 10 ∷ []) ≡ []
unfolding unfinished_line
unfinished_newline xs =
    let f = filled xs in
    ap last_part (split_push_yes xs ∙ ap (λ parts. parts ++ [] ∷ []) f.is) ∙ last_push f.first [] f.others

-- the unfinished line as the last line, unless it is empty
abbrev pub last_line : List ℕ → List (List ℕ)
last_line text = cond (length text == 0) [] (text ∷ [])

lines_of_filled : (part : List ℕ) (parts : List (List ℕ)) →
    lines_of_parts (part ∷ parts) ≡ map strip_carriage_return (all_but_last (part ∷ parts)) ++ last_line (last_part (part ∷ parts))
lines_of_filled part [] = refl
lines_of_filled part (next ∷ parts) = ap (λ xs. strip_carriage_return part ∷ xs) (lines_of_filled next parts)

-- the lines are the complete lines, and the unfinished line if it isn't empty
pub lines_is : (xs : List ℕ) → lines_of xs ≡ complete_lines xs ++ last_line (unfinished_line xs)
unfolding complete_lines unfinished_line
lines_is xs =
    let f = filled xs in
    ap lines_of_parts f.is ∙ lines_of_filled f.first f.others
    ∙ sym (ap (λ parts. map strip_carriage_return (all_but_last parts) ++ last_line (last_part parts)) f.is)

pub complete_none : complete_lines [] ≡ []
unfolding complete_lines
complete_none = refl

pub unfinished_none : unfinished_line [] ≡ []
unfolding unfinished_line
unfinished_none = refl

-- the first list is a prefix of the second
pub record GoesOn (front all : List (List ℕ)) : Type 0 where
  pub back : List (List ℕ)
  pub is : all ≡ front ++ back

one_more_byte : (xs : List ℕ) (b : ℕ) → GoesOn (complete_lines xs) (complete_lines (xs ++ b ∷ []))
one_more_byte xs b = newline_or (is_newline b) refl
  where
    newline_or : (t : Bool) → is_newline b ≡ t → GoesOn (complete_lines xs) (complete_lines (xs ++ b ∷ []))
    newline_or false other = record { back = []; is = complete_byte xs b other ∙ sym (append-nil (complete_lines xs)) }
    newline_or true same = record {
      back = strip_carriage_return (unfinished_line xs) ∷ [];
      is = ap (λ c. complete_lines (xs ++ c ∷ [])) (eqb-true b 10 same) ∙ complete_newline xs;
    }

-- complete lines remain, whatever bytes follow
pub complete_goes_on : (ys xs : List ℕ) → GoesOn (complete_lines xs) (complete_lines (xs ++ ys))
complete_goes_on [] xs = record { back = []; is = ap complete_lines (append-nil xs) ∙ sym (append-nil (complete_lines xs)) }
complete_goes_on (y ∷ ys) xs =
    let first = one_more_byte xs y in
    let rest = complete_goes_on ys (xs ++ y ∷ []) in
    record {
      back = first.back ++ rest.back;
      is = ap complete_lines (sym (append_assoc xs (y ∷ []) ys)) ∙ rest.is ∙ ap (λ l. l ++ rest.back) first.is ∙ append_assoc (complete_lines xs) first.back rest.back;
    }

pub lines_go_on : (xs ys : List ℕ) → GoesOn (complete_lines xs) (lines_of (xs ++ ys))
lines_go_on xs ys =
    let c = complete_goes_on ys xs in
    record {
      back = c.back ++ last_line (unfinished_line (xs ++ ys));
      is = lines_is (xs ++ ys) ∙ ap (λ l. l ++ last_line (unfinished_line (xs ++ ys))) c.is ∙ append_assoc (complete_lines xs) c.back (last_line (unfinished_line (xs ++ ys)));
    }

positive : (n : ℕ) → 0 < n → (n == 0) ≡ false
positive n h = grind arith

pub last_filled : (u : List ℕ) → 0 < length u → last_line u ≡ u ∷ []
last_filled u h = ap (λ t. cond t [] (u ∷ [])) (positive (length u) h)

byte_is_last : (u : List ℕ) (b : ℕ) → last_line (u ++ b ∷ []) ≡ (u ++ b ∷ []) ∷ []
byte_is_last u b = last_filled (u ++ b ∷ []) (omega (arith, length-append u (b ∷ [])))

-- with one more byte, the script has one line more than the complete lines so far
longer_byte : (xs : List ℕ) (y : ℕ) (t : Bool) → is_newline y ≡ t → length (complete_lines xs) + 1 ≡ length (lines_of (xs ++ y ∷ []))
longer_byte xs y false other = sym (ap length (lines_is (xs ++ y ∷ []) ∙ ap (λ u. complete_lines (xs ++ y ∷ []) ++ last_line u) (unfinished_byte xs y other)
    ∙ ap (λ l. complete_lines (xs ++ y ∷ []) ++ l) (byte_is_last (unfinished_line xs) y)
    ∙ ap (λ l. l ++ (unfinished_line xs ++ y ∷ []) ∷ []) (complete_byte xs y other))
    ∙ length-append (complete_lines xs) ((unfinished_line xs ++ y ∷ []) ∷ []))
longer_byte xs y true same = sym (ap (λ c. length (lines_of (xs ++ c ∷ []))) (eqb-true y 10 same)
    ∙ ap length (lines_is (xs ++ 10 ∷ []) ∙ ap (λ u. complete_lines (xs ++ 10 ∷ []) ++ last_line u) (unfinished_newline xs) ∙ append-nil (complete_lines (xs ++ 10 ∷ [])) ∙ complete_newline xs)
    ∙ length-append (complete_lines xs) (strip_carriage_return (unfinished_line xs) ∷ []))

grows : (xs ys : List (List ℕ)) → GoesOn xs ys → length xs ≤ length ys
grows xs ys g = omega (arith, ap length g.is, length-append xs g.back)

-- with one or more bytes more, the script has at least one line more than the complete lines so far
pub longer : (ys xs : List ℕ) (y : ℕ) → length (complete_lines xs) < length (lines_of (xs ++ y ∷ ys))
longer [] xs y = omega (arith, longer_byte xs y (is_newline y) refl)
longer (z ∷ ys) xs y =
    let rest = longer ys (xs ++ y ∷ []) z in
    let first = grows (complete_lines xs) (complete_lines (xs ++ y ∷ [])) (complete_goes_on (y ∷ []) xs) in
    omega (arith, rest, first, ap (λ l. length (lines_of l)) (append_assoc xs (y ∷ []) (z ∷ ys)))
