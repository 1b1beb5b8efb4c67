-- The word of each form except SYS decodes to an instruction of that form.
use Rattle.std.proofs.Common.{◌≡◌, ◌≢◌, ℕ, ◌<◌, ◌==◌, Bool, true, false, if◌then◌else◌, List, [], ◌∷◌, map, codes, Option, Some, None, refl, sym, ap, ◌∙◌}
use Rattle.std.specs.Prelude.{option_map}
use Rattle.std.specs.List.{list_all, find}
use Rattle.std.specs.Str.{bytes_eq}
use Rattle.std.proofs.lemmas.Bool.{and_parts}
use Rattle.std.proofs.lemmas.Option.{same_Some}
use Rattle.std.proofs.lemmas.Slice.Eq.{bytes_eq-Decides}
use Rattle.chip_lang.specs.Operand.{Operand}
use Rattle.chip_lang.specs.Decoding.{gives, entry_of, decode_of}
use Rattle.chip_lang.specs.Table.{fields_in, Row, Entry, table, forms}
use Rattle.chip_lang.specs.Form.{fits, find_form}
use Rattle.chip_lang.specs.Statement.{HasWord, DecodesTo}
use Rattle.chip_lang.specs.Value.{Symbols}
use Rattle.chip_lang.proofs.Decoding.{entries_proper}
use Rattle.chip_lang.specs.inner.ByDigits.{digit, takes_top, takes_x, takes_y, takes_n}
use Rattle.chip_lang.proofs.Digits.{has_digits, HasDigits, is_proper, gives_digits, word_digits}
use Rattle.chip_lang.proofs.OwnDigits.{own_digit, own_digits, found_same}

-- ---- the entry of some digits

abbrev entry_at : (top x y n : ℕ) → List Entry → Option Entry
entry_at top x y n es = find (λ e. has_digits e.form top x y n) es

found_at : (es : List Entry) (w : ℕ) → list_all (λ e. is_proper e.form) es ≡ true → w < 65536 →
    find (λ e. gives e.form w) es ≡ entry_at (digit 12 w) (digit 8 w) (digit 4 w) (digit 0 w) es
found_at [] w proper h = refl
found_at (e ∷ es) w proper h =
    let both = and_parts (is_proper e.form) (list_all (λ e. is_proper e.form) es) proper in
    let here = gives_digits e.form w both.0 h in
    let rest = found_at es w both.1 h in
    rw (here, rest) refl

same_at : (es : List Entry) (a b c d top x y n : ℕ) → a ≡ top → b ≡ x → c ≡ y → d ≡ n → entry_at a b c d es ≡ entry_at top x y n es
same_at es a b c d top x y n p q r s = rw (p, q, r, s) refl

-- the entry at a form's own digits
abbrev own_entry : Row → ℕ → Option Entry
own_entry r w =
    entry_at (own_digit takes_top 12 r w) (own_digit takes_x 8 r w) (own_digit takes_y 4 r w) (own_digit takes_n 0 r w) table

entry_own : (r : Row) (w : ℕ) → w < 65536 → HasDigits r w → entry_of w ≡ own_entry r w
unfolding entry_of
entry_own r w h digits =
    let own = own_digits r w digits in
    found_at table w entries_proper h
    ∙ same_at table (digit 12 w) (digit 8 w) (digit 4 w) (digit 0 w) (own_digit takes_top 12 r w) (own_digit takes_x 8 r w) (own_digit takes_y 4 r w) (own_digit takes_n 0 r w)
    own.top own.x own.y own.n

-- ---- each form

abbrev Sign : Type 0
Sign = Option (List ℕ × ℕ)

-- the name and the base of an entry's form
abbrev sign_of : Option Entry → Sign
sign_of None = None
sign_of (Some e) = Some (e.form.name, e.form.base)

abbrev is_sys : Row → Bool
is_sys r = bytes_eq r.name (codes "SYS")

abbrev unless_sys : Row → Sign → Sign
unless_sys r s = if is_sys r then None else s

-- the entry at a form's digits has the form's name and base; a shift whose second register is V0
-- has the shorter form
signs : (w : ℕ) (b : Bool) → (digit 4 w == 0) ≡ b → map (λ r. unless_sys r (sign_of (own_entry r w))) forms ≡ map (λ r. unless_sys r (Some (r.name, r.base))) forms
signs w true e = rw e refl
signs w false e = rw e refl

all_proper : map is_proper forms ≡ map (λ r. true) forms
all_proper = refl

-- ---- the form that is found

find_form_is : (rows : List Row) (name : List ℕ) (operands : List Operand) → find_form rows name operands ≡ find (λ r. fits r name operands) rows
find_form_is [] name operands = refl
find_form_is (r ∷ rows) name operands = rw (find_form_is rows name operands) refl

-- ---- the instruction of the form

said_by : (r : Row) (w : ℕ) (o : Option Entry) → entry_of w ≡ o → sign_of o ≡ Some (r.name, r.base) → DecodesTo r w
unfolding decode_of
said_by r w None e h = cc
said_by r w (Some entry) e h =
    let same = same_Some _ _ h in
    record {
      entry = entry;
      found = e;
      decoded = ap (option_map (λ e. e.instr (fields_in w))) e;
      shown = ap (option_map (λ e. e.form)) e;
      name = ap (λ s. s.0) same;
      base = ap (λ s. s.1) same;
    }

-- each word with the digits of a form other than SYS decodes to an instruction of that form
said_row : (r : Row) (w : ℕ) → is_sys r ≡ false → unless_sys r (sign_of (own_entry r w)) ≡ unless_sys r (Some (r.name, r.base)) → w < 65536 → HasDigits r w → DecodesTo r w
said_row r w plain same h digits = said_by r w (own_entry r w) (entry_own r w h digits) (rw plain at same)

no_name : (name other : List ℕ) (b : Bool) → bytes_eq name other ≡ b → name ≢ other → b ≡ false
no_name name other true e h = absurd (h ((bytes_eq-Decides name other).0 e))
no_name name other false e h = refl

pub said_form : (name : List ℕ) (operands : List Operand) (symbols : Symbols) (form : Row) (w : ℕ) → HasWord name operands symbols form w → form.name ≢ codes "SYS" → DecodesTo form w
said_form name operands symbols form w has plain =
    let found : find (λ r. fits r name operands) forms ≡ Some form = sym (find_form_is forms name operands) ∙ has.fits in
    let other = no_name form.name (codes "SYS") (is_sys form) refl plain in
    let proper = found_same (λ r. fits r name operands) is_proper (λ r. true) forms form all_proper found in
    let word = word_digits form operands symbols w proper has.registers has.word in
    let same = found_same (λ r. fits r name operands) (λ r. unless_sys r (sign_of (own_entry r w))) (λ r. unless_sys r (Some (r.name, r.base))) forms form (signs w (digit 4 w == 0) refl) found in
    said_row form w other same word.0 word.1
