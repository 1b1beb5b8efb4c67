-- The source text of a word is text: its bytes are ASCII.
use Rattle.std.proofs.Common.{◌≡◌, ℕ, ◌+◌, ◌-◌, ◌/◌, ◌%◌, ◌<◌, ltb, Bool, true, if◌then◌else◌, List, [], ◌∷◌, ◌++◌, codes, Option, Some, None, option_map, refl, arith}
use Rattle.std.specs.List.{list_all}
use Rattle.std.specs.Str.{IsAscii, IsUtf8}
use Rattle.std.proofs.lemmas.Bool.{and_parts, cond_both, ltb-true}
use Rattle.std.proofs.lemmas.Str.{IsAscii-append, IsUtf8-from_ascii}
use Rattle.std.proofs.lemmas.Str.Ascii.{IsAscii-nil, IsAscii-cons}
use Rattle.chip_lang.specs.declared.form.Pattern.{Pattern}
use Rattle.chip_lang.specs.declared.form.Pattern.TheVariants.{Vx, Vy, Nibble, Byte, Address}
use Rattle.chip_lang.specs.Table.{Entry, table}
use Rattle.chip_lang.specs.Decoding.{field_in, gives, entry_of}
use Rattle.chip_lang.specs.Show.{hex_digit, two_hex_digits, three_hex_digits, four_hex_digits, small_decimal, register_text, operand_text, operands_text, form_text, show_of}
use Rattle.chip_lang.proofs.OwnDigits.{found_same}

abbrev is_plain : List ℕ → Bool
is_plain bs = list_all (λ b. ltb b 128) bs

plain : (bs : List ℕ) → is_plain bs ≡ true → IsAscii bs
plain [] h = IsAscii-nil
plain (b ∷ bs) h =
    let both = and_parts (ltb b 128) (is_plain bs) h in
    IsAscii-cons b bs (ltb-true b 128 both.0) (plain bs both.1)

with_digit : (d : ℕ) (bs : List ℕ) → d < 16 → IsAscii bs → IsAscii (hex_digit d ∷ bs)
with_digit d bs h rest = IsAscii-cons (hex_digit d) bs (cond_both (ltb d 10) (48 + d) (87 + d) (λ c. c < 128) (λ _. omega arith) (λ _. omega arith)) rest

byte_is : (n : ℕ) → IsAscii (two_hex_digits n)
byte_is n = with_digit (n / 16 % 16) (hex_digit (n % 16) ∷ []) (omega arith) (with_digit (n % 16) [] (omega arith) IsAscii-nil)

address_is : (n : ℕ) → IsAscii (three_hex_digits n)
address_is n = with_digit (n / 256 % 16) (two_hex_digits n) (omega arith) (byte_is n)

data_is : (n : ℕ) → IsAscii (codes "DW #" ++ four_hex_digits n)
data_is n = IsAscii-append (codes "DW #") (four_hex_digits n) (plain (codes "DW #") refl) (with_digit (n / 4096 % 16) (three_hex_digits n) (omega arith) (address_is n))

register_is : (x : ℕ) → x < 16 → IsAscii (register_text x)
register_is x h =
    let digit = if ltb x 10 then 48 + x else 55 + x in
    IsAscii-cons 86 (digit ∷ []) (omega arith) (IsAscii-cons digit [] (cond_both (ltb x 10) (48 + x) (55 + x) (λ c. c < 128) (λ _. omega arith) (λ _. omega arith)) IsAscii-nil)

decimal_is : (n : ℕ) → n < 16 → IsAscii (small_decimal n)
decimal_is n h =
    cond_both (ltb n 10) ((48 + n) ∷ []) (49 ∷ (48 + (n - 10)) ∷ []) IsAscii (λ _. IsAscii-cons (48 + n) [] (omega arith) IsAscii-nil)
    (λ _. IsAscii-cons 49 ((48 + (n - 10)) ∷ []) (omega arith) (IsAscii-cons (48 + (n - 10)) [] (omega arith) IsAscii-nil))

operand_is : (p : Pattern) (w : ℕ) → IsAscii (operand_text p w)
operand_is Vx w = register_is (field_in Vx w) (omega arith)
operand_is Vy w = register_is (field_in Vy w) (omega arith)
operand_is Nibble w = decimal_is (field_in Nibble w) (omega arith)
operand_is Byte w = IsAscii-cons 35 (two_hex_digits (field_in Byte w)) (omega arith) (byte_is (field_in Byte w))
operand_is Address w = IsAscii-cons 35 (three_hex_digits (field_in Address w)) (omega arith) (address_is (field_in Address w))
operand_is p w = plain (operand_text p w) refl

operands_are : (before : List ℕ) (ps : List Pattern) (w : ℕ) → is_plain before ≡ true → IsAscii (operands_text before ps w)
operands_are before [] w h = IsAscii-nil
operands_are before (p ∷ ps) w h =
    IsAscii-append (before ++ operand_text p w) (operands_text (codes ", ") ps w)
    (IsAscii-append before (operand_text p w) (plain before h) (operand_is p w)) (operands_are (codes ", ") ps w refl)

name_is : (w : ℕ) (e : Entry) → entry_of w ≡ Some e → is_plain e.form.name ≡ true
unfolding entry_of
name_is w e h = found_same (λ e. gives e.form w) (λ e. is_plain e.form.name) (λ e. true) table e refl h

form_is : (w : ℕ) (o : Option Entry) → entry_of w ≡ o → IsAscii (form_text (option_map (λ e. e.form) o) w)
form_is w None h = data_is w
form_is w (Some e) h =
    IsAscii-append e.form.name (operands_text (codes " ") e.form.patterns w) (plain e.form.name (name_is w e h)) (operands_are (codes " ") e.form.patterns w refl)

pub shown_is_text : (w : ℕ) → IsUtf8 (show_of w)
unfolding show_of
shown_is_text w = IsUtf8-from_ascii (show_of w) (form_is w (entry_of w) refl)
