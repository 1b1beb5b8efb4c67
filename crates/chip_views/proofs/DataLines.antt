-- Data lines with hexadecimal numbers.
use Rattle.std.proofs.Common.{◌≡◌, ℕ, zero, suc, ◌+◌, ◌-◌, ◌/◌, ◌%◌, ◌<◌, ◌==◌, ◌&&◌, ◌++◌, Bool, true, List, [], ◌∷◌, length, take, take_all, map, inl, inr, refl, ap, ◌∙◌, arith, None}
use Rattle.std.specs.Prelude.{codes, pos, if◌then◌else◌}
use Rattle.std.specs.List.{list_all, prefix_len}
use Rattle.std.proofs.lemmas.Bool.{and_parts, cases_lt, eqb-true, le-leb}
use Rattle.chip_lang.specs.declared.token.Token.{Token}
use Rattle.chip_lang.specs.declared.token.Kind.{Kind}
use Rattle.chip_lang.specs.declared.token.Kind.TheVariants.{Number, Word, Bad}
use Rattle.chip_lang.specs.declared.fault.Fault.TheVariants.{BadCharacter, NumberTooLarge}
use Rattle.chip_lang.specs.Token.{is_hexadecimal, is_name_byte, is_digit_of, digit_value, number_of, kind_of_number, kind_of_digits, token_at}
use Rattle.chip_lang.specs.computed.Tokens.{tokens_from, tokens_of}
use Rattle.chip_lang.specs.Show.{hex_digit, four_hex_digits, three_hex_digits, two_hex_digits}
use Rattle.chip_lang.specs.Keyword.{directive_of}
use Rattle.chip_lang.specs.computed.Parse.{expression_of}
use Rattle.chip_lang.specs.Tree.{number}
use Rattle.chip_views.specs.Dis.{is_visible}
use Rattle.chip_lang.specs.Line.{Reading, reading_of, reading_of_tokens, lexeme_of, read, dw, db}

-- ---- digits

-- whether the digit for a number is a hexadecimal digit and a name byte, is visible, and has the number as its value;
-- and whether this is true for all numbers below n
abbrev is_good : ℕ → Bool
is_good k = is_hexadecimal (hex_digit k) && (is_name_byte (hex_digit k) && (is_visible (hex_digit k) && (digit_value (hex_digit k) == k)))

abbrev all_good : ℕ → Bool
all_good zero = true
all_good (suc n) = is_good n && all_good n

good_below : (n k : ℕ) → all_good n ≡ true → k < n → is_good k ≡ true
good_below zero k h lt = absurd (omega arith)
good_below (suc n) k h lt =
    let parts = and_parts (is_good n) (all_good n) h in
    elim (cases_lt k n) [
      | inl below ↦ good_below n k parts.1 below
      | inr top ↦
          let e : k ≡ n = omega arith in
          rw e parts.0
    ]

sixteen_good : all_good 16 ≡ true
unfolding digit_value
sixteen_good = refl

pub record IsGood (k : ℕ) : Type 0 where
  pub hexadecimal : is_hexadecimal (hex_digit k) ≡ true
  pub name : is_name_byte (hex_digit k) ≡ true
  pub visible : is_visible (hex_digit k) ≡ true
  pub value : digit_value (hex_digit k) ≡ k

pub good : (k : ℕ) → k < 16 → IsGood k
good k lt =
    let parts = and_parts (is_hexadecimal (hex_digit k)) (is_name_byte (hex_digit k) && (is_visible (hex_digit k) && (digit_value (hex_digit k) == k))) (good_below 16 k sixteen_good lt) in
    let rest = and_parts (is_name_byte (hex_digit k)) (is_visible (hex_digit k) && (digit_value (hex_digit k) == k)) parts.1 in
    let last = and_parts (is_visible (hex_digit k)) (digit_value (hex_digit k) == k) rest.1 in
    record { hexadecimal = parts.0; name = rest.0; visible = last.0; value = eqb-true (digit_value (hex_digit k)) k last.1 }

-- ---- tokens

-- the run of bytes that pass a test is the whole list if all bytes pass it
pub run_of_all : {X : Type 0} (p : X → Bool) (xs : List X) → list_all p xs ≡ true → prefix_len p xs ≡ length xs
run_of_all p [] h = refl
run_of_all p (x ∷ xs) h =
    let parts = and_parts (p x) (list_all p xs) h in
    let ih = run_of_all p xs parts.1 in
    grind (arith, parts.0, ih)

-- bytes that belong to an earlier token produce no tokens
skipped : (place : ℕ) (xs : List ℕ) → tokens_from place (length xs) xs ≡ []
skipped place [] = refl
skipped place (x ∷ xs) = skipped (place + 1) xs

-- the token of a hexadecimal number that ends the line
number_token : (place : ℕ) (d : ℕ) (ds : List ℕ) → list_all is_name_byte (d ∷ ds) ≡ true → list_all (is_digit_of 16) (d ∷ ds) ≡ true →
    tokens_from place 0 (35 ∷ d ∷ ds) ≡ record { kind = kind_of_number (number_of 16 (d ∷ ds)); start = place; end = place + (length (d ∷ ds) + 1) } ∷ []
unfolding token_at kind_of_digits
number_token place d ds names digits =
    let f : ℕ → List Token = λ m. record { kind = kind_of_digits 16 (take m (d ∷ ds)); start = place; end = place + (m + 1) } ∷ tokens_from (place + 1) (m + 1 - 1) (d ∷ ds) in
    let g : Kind → List Token → List Token = λ k ts. record { kind = k; start = place; end = place + (length (d ∷ ds) + 1) } ∷ ts in
    let whole : take (length (d ∷ ds)) (d ∷ ds) ≡ d ∷ ds = take_all (length (d ∷ ds)) (d ∷ ds) (omega arith) in
    let kinds : kind_of_digits 16 (d ∷ ds) ≡ kind_of_number (number_of 16 (d ∷ ds)) =
    ap (λ b. if b then kind_of_number (number_of 16 (d ∷ ds)) else Bad BadCharacter) digits in
    let count : length (d ∷ ds) + 1 - 1 ≡ length (d ∷ ds) = omega arith in
    let rest : tokens_from (place + 1) (length (d ∷ ds) + 1 - 1) (d ∷ ds) ≡ [] =
    ap (λ m. tokens_from (place + 1) m (d ∷ ds)) count ∙ skipped (place + 1) (d ∷ ds) in
    ap f (run_of_all is_name_byte (d ∷ ds) names)
    ∙ ap (λ k. g k (tokens_from (place + 1) (length (d ∷ ds) + 1 - 1) (d ∷ ds))) (ap (kind_of_digits 16) whole ∙ kinds)
    ∙ ap (g (kind_of_number (number_of 16 (d ∷ ds)))) rest

-- ---- lines

-- the reading of a line, given its two tokens
reading_by : (line : List ℕ) (t u : Token) → tokens_of line ≡ t ∷ u ∷ [] → (r : Reading) →
    reading_of_tokens (map (lexeme_of line) (t ∷ u ∷ [])) ≡ r → reading_of line ≡ r
unfolding reading_of
reading_by line t u e r h = ap (λ ts. reading_of_tokens (map (lexeme_of line) ts)) e ∙ h

-- the kind of the token that digits form: a number with the value of the digits
number_kind : (n : ℕ) → n < 65536 → (digits : List ℕ) → number_of 16 digits ≡ n → kind_of_number (number_of 16 digits) ≡ Number (pos n)
number_kind n lt digits value =
    ap kind_of_number value ∙ ap (λ b. if b then Number (pos n) else Bad NumberTooLarge) (le-leb n 2147483647 (omega arith))

-- the token of a word of two letters at the start, and the token of a number that starts at index 3
abbrev word_token : Token
word_token = record { kind = Word; start = 0; end = 2 }

abbrev number_at_3 : ℕ → ℕ → Token
number_at_3 digits n = record { kind = Number (pos n); start = 3; end = 3 + (digits + 1) }

pub word_line : (w : ℕ) → w < 65536 → reading_of (codes "DW #" ++ four_hex_digits w) ≡ read None (dw (number (pos w) ∷ []))
unfolding token_at directive_of expression_of
word_line w lt =
    let a = good (w / 4096 % 16) (omega arith) in
    let b = good (w / 256 % 16) (omega arith) in
    let c = good (w / 16 % 16) (omega arith) in
    let d = good (w % 16) (omega arith) in
    let names : list_all is_name_byte (four_hex_digits w) ≡ true = rw (a.name, b.name, c.name, d.name) refl in
    let digits : list_all (is_digit_of 16) (four_hex_digits w) ≡ true = rw (a.hexadecimal, b.hexadecimal, c.hexadecimal, d.hexadecimal) refl in
    let value : number_of 16 (four_hex_digits w) ≡ w = rw (a.value, b.value, c.value, d.value) (omega arith) in
    let last = number_token 3 (hex_digit (w / 4096 % 16)) (three_hex_digits w) names digits in
    let tokens : tokens_of (codes "DW #" ++ four_hex_digits w) ≡ word_token ∷ number_at_3 4 w ∷ [] =
    ap (λ ts. word_token ∷ ts) (last ∙ ap (λ (k : Kind). record { kind = k; start = 3; end = 3 + (4 + 1) } ∷ []) (number_kind w lt (four_hex_digits w) value)) in
    reading_by (codes "DW #" ++ four_hex_digits w) word_token (number_at_3 4 w) tokens (read None (dw (number (pos w) ∷ []))) refl

pub byte_line : (b : ℕ) → b < 256 → reading_of (codes "DB #" ++ two_hex_digits b) ≡ read None (db (number (pos b) ∷ []))
unfolding token_at directive_of expression_of
byte_line b lt =
    let c = good (b / 16 % 16) (omega arith) in
    let d = good (b % 16) (omega arith) in
    let names : list_all is_name_byte (two_hex_digits b) ≡ true = rw (c.name, d.name) refl in
    let digits : list_all (is_digit_of 16) (two_hex_digits b) ≡ true = rw (c.hexadecimal, d.hexadecimal) refl in
    let value : number_of 16 (two_hex_digits b) ≡ b = rw (c.value, d.value) (omega arith) in
    let last = number_token 3 (hex_digit (b / 16 % 16)) (hex_digit (b % 16) ∷ []) names digits in
    let tokens : tokens_of (codes "DB #" ++ two_hex_digits b) ≡ word_token ∷ number_at_3 2 b ∷ [] =
    ap (λ ts. word_token ∷ ts) (last ∙ ap (λ (k : Kind). record { kind = k; start = 3; end = 3 + (2 + 1) } ∷ []) (number_kind b (omega arith) (two_hex_digits b) value)) in
    reading_by (codes "DB #" ++ two_hex_digits b) word_token (number_at_3 2 b) tokens (read None (db (number (pos b) ∷ []))) refl
