-- The kind and the length of the token at a place of a line (Chipper manual; which bytes are not a
-- token is chosen by this project).
use Rattle.std.specs.Prelude.{ℕ, ◌+◌, ◌*◌, ◌-◌, ◌==◌, ◌||◌, ◌&&◌, not, Bool, if◌then◌else◌, nat_le, nat_lt, List, [], ◌∷◌, length, fold, take, pos}
use Rattle.std.specs.List.{list_all, prefix_len}
use Rattle.chip_lang.specs.declared.fault.Fault.TheVariants.{BadCharacter, UnfinishedString, NumberTooLarge}
use Rattle.chip_lang.specs.declared.token.Kind.{Kind}
use Rattle.chip_lang.specs.declared.token.Kind.TheVariants.{Word, Number, Text, Sign, Bad}

-- true for the bytes space, tab, form feed, carriage return and 26
abbrev pub is_blank : ℕ → Bool
is_blank b = b == 32 || b == 9 || b == 12 || b == 13 || b == 26

abbrev pub is_between : ℕ → ℕ → ℕ → Bool
is_between low high b = nat_le low b && nat_le b high

-- true for 0 to 9
abbrev pub is_digit : ℕ → Bool
is_digit b = is_between 48 57 b

-- true for 0 to 7
abbrev pub is_octal : ℕ → Bool
is_octal b = is_between 48 55 b

-- true for 0, 1 and the full stop
abbrev pub is_binary : ℕ → Bool
is_binary b = b == 48 || b == 49 || b == 46

-- true for 0 to 9, and for A to F in either case
abbrev pub is_hexadecimal : ℕ → Bool
is_hexadecimal b = is_digit b || is_between 65 70 b || is_between 97 102 b

-- true for a letter or _
abbrev pub is_name_start : ℕ → Bool
is_name_start b = is_between 65 90 b || is_between 97 122 b || b == 95

-- true for a letter, _ or a digit
abbrev pub is_name_byte : ℕ → Bool
is_name_byte b = is_name_start b || is_digit b

-- true for a name byte or the full stop
abbrev pub is_run_byte : ℕ → Bool
is_run_byte b = is_name_byte b || b == 46

-- true for one of , : = [ ] ( ) + - * / & | ^ ~ < > \
abbrev pub is_sign : ℕ → Bool
is_sign b =
    b == 44 || b == 58 || b == 61 || b == 91 || b == 93 || b == 40 || b == 41 || b == 43 || b == 45
    || b == 42
    || b == 47 || b == 38 || b == 124 || b == 94 || b == 126 || b == 60 || b == 62 || b == 92

-- the value of a digit; 0 for a full stop
unfoldable pub digit_value : ℕ → ℕ
digit_value b =
    if nat_lt b 48 then 0
    else (if nat_le b 57 then b - 48 else (if nat_le b 90 then b - 55 else b - 87))

-- true for a digit of numbers in base 2, 8, 10 or 16
abbrev pub is_digit_of : ℕ → ℕ → Bool
is_digit_of base b =
    if base == 2 then is_binary b
    else (if base == 8 then is_octal b else (if base == 10 then is_digit b else is_hexadecimal b))

-- the number that a number becomes when a digit is appended
abbrev pub with_digit : ℕ → ℕ → ℕ → ℕ
with_digit base n digit = base * n + digit_value digit

-- the number that digits form in a base
abbrev pub number_of : ℕ → List ℕ → ℕ
number_of base digits = fold (with_digit base) 0 digits

-- a number of at most 31 bits, or else a fault
abbrev pub kind_of_number : ℕ → Kind
kind_of_number n = if nat_le n 2147483647 then Number (pos n) else Bad NumberTooLarge

-- the number that digits form, if there are any and all are digits of the base; otherwise a fault
unfoldable pub kind_of_digits : ℕ → List ℕ → Kind
kind_of_digits base [] = Bad BadCharacter
kind_of_digits base (d ∷ ds) =
    if is_digit_of base d && list_all (is_digit_of base) ds
    then kind_of_number (number_of base (d ∷ ds))
    else Bad BadCharacter

-- the kind and the length of a text that begins with a quote, given the bytes after that quote; the
-- text extends to the next quote of the same kind
unfoldable pub text_at : ℕ → List ℕ → Kind × ℕ
text_at quote bytes =
    let inside = prefix_len (λ b. not (b == quote)) bytes in
    if nat_lt inside (length bytes) then (Text, inside + 2) else (Bad UnfinishedString, inside + 1)

-- The kind and the length of the token that begins with a byte, given the bytes after it: those of
-- the first row that fits.
unfoldable pub token_at : ℕ → List ℕ → Kind × ℕ
token_at b bytes =
    let name = prefix_len is_name_byte bytes in
    let run = take name bytes in
    let wide = prefix_len is_run_byte bytes in
    let wide_run = take wide bytes in
    if is_name_start b then (Word, name + 1)
    else (if is_digit b then (kind_of_digits 10 (b ∷ run), name + 1)
    else (if b == 35 then (kind_of_digits 16 run, name + 1)
    else (if b == 64 then (kind_of_digits 8 run, name + 1)
    else (if b == 36 then (kind_of_digits 2 wide_run, wide + 1)
    else (if b == 39 || b == 34 then text_at b bytes
    else (if is_sign b then (Sign b, 1)
    else (Bad BadCharacter, 1)))))))
