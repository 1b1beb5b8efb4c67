-- The digits of a word in base 16, and the digits that a form's operands take.
use Rattle.std.proofs.Common.{◌≡◌, ℕ, ◌+◌, ◌*◌, ◌-◌, ◌<◌, ◌/◌, ◌%◌, ◌^◌, ◌==◌, ltb, ℤ, pos, negsuc, Bool, true, false, not, ◌&&◌, ◌||◌, if◌then◌else◌, bit_or, List, [], ◌∷◌, Result, Ok, Err, refl, sym, ap, subst, ◌∙◌, arith, inl, inr}
use Rattle.std.specs.List.{list_all, list_any}
use Rattle.std.specs.Int.Bits.{or_self, or_zero_l, or_zero_r}
use Rattle.std.proofs.lemmas.Nat.{or_shr, or_mod, or_of_16}
use Rattle.std.proofs.lemmas.Bool.{and_parts, and_from, cases_Bool, eqb-true, eq-eqb, ltb-true}
use Rattle.chip_lang.specs.declared.fault.Fault.{Fault}
use Rattle.chip_lang.specs.declared.fault.Fault.TheVariants.{WrongOperands}
use Rattle.chip_lang.specs.declared.form.Pattern.{Pattern}
use Rattle.chip_lang.specs.declared.form.Pattern.TheVariants.{Vx, Vy, Nibble, Byte, Address}
use Rattle.chip_lang.specs.Operand.{Operand, register, expression, is_of_machine}
use Rattle.chip_lang.specs.Form.{matches}
use Rattle.chip_lang.specs.Table.{Row}
use Rattle.chip_lang.specs.Value.{◌>>=◌, Symbols, value}
use Rattle.chip_lang.specs.Encoding.{number_below, signed_below, field_of, fields_of, word_of_form}
use Rattle.chip_lang.specs.Decoding.{part_in, parts_in, gives}
use Rattle.chip_lang.specs.inner.ByDigits.{digit, takes_top, takes_x, takes_y, takes_n, has_digit}
use Rattle.chip_lang.proofs.Outcomes.{first-value}

digit_or : (bits a b : ℕ) → digit bits (bit_or a b) ≡ bit_or (digit bits a) (digit bits b)
digit_or bits a b = ap (λ n. n % 16) (or_shr a b bits) ∙ or_mod (a / 2 ^ bits) (b / 2 ^ bits) 4

same_digits : (a b : ℕ) → a < 65536 → b < 65536 → digit 12 a ≡ digit 12 b → digit 8 a ≡ digit 8 b → digit 4 a ≡ digit 4 b → digit 0 a ≡ digit 0 b → a ≡ b
same_digits a b h g p q r s = omega arith

-- ---- the digits that an operand takes

-- a word's part in an operand's place has the word's digit where the operand takes it, and 0
-- elsewhere
abbrev HasOwn : ℕ → (Pattern → Bool) → Type 0
HasOwn bits takes = (p : Pattern) (w : ℕ) → digit bits (part_in p w) ≡ (if takes p then digit bits w else 0)

own_top : HasOwn 12 takes_top
own_top Vx w = omega arith
own_top p w = omega arith

own_x : HasOwn 8 takes_x
own_x Vx w = omega arith
own_x p w = omega arith

own_y : HasOwn 4 takes_y
own_y Vx w = omega arith
own_y p w = omega arith

own_n : HasOwn 0 takes_n
own_n Vx w = omega arith
own_n p w = omega arith

-- ---- the field of an operand is at the operand's place

if_ok : (b : Bool) (n f : ℕ) (fault : Fault) → (if b then Ok n else Err fault) ≡ Ok f → (b ≡ true) × (n ≡ f)
if_ok true n f fault h = (refl, cc)
if_ok false n f fault h = cc

number_is : (limit : ℕ) (z : ℤ) (f : ℕ) → number_below limit z ≡ Ok f → f < limit
number_is limit (pos n) f h =
    let t = if_ok (ltb n limit) n f _ h in
    omega (arith, ltb-true n limit t.0, t.1)
number_is limit (negsuc n) f h = cc

byte_is : (z : ℤ) (f : ℕ) → signed_below 256 z ≡ Ok f → f < 256
byte_is (pos n) f h =
    let t = if_ok (ltb n 256) n f _ h in
    omega (arith, ltb-true n 256 t.0, t.1)
byte_is (negsuc n) f h =
    let t = if_ok (ltb n 128) (256 - (n + 1)) f _ h in
    omega (arith, t.1)

no_part : (p : Pattern) → part_in p 0 ≡ 0
no_part Vx = refl
no_part p = refl

no_field : (p : Pattern) (f : ℕ) → 0 ≡ f → part_in p f ≡ f
no_field p f e = rw (← e) (no_part p)

in_place : (p : Pattern) (o : Operand) (symbols : Symbols) (f : ℕ) → field_of p o symbols ≡ Ok f → is_of_machine o ≡ true → part_in p f ≡ f
unfolding field_of
in_place Vx (register x) symbols f h m = let e : 256 * x ≡ f = cc in omega (arith, e, ltb-true x 16 m)
in_place Vy (register y) symbols f h m = let e : 16 * y ≡ f = cc in omega (arith, e, ltb-true y 16 m)
in_place Nibble (expression e) symbols f h m =
    let t = first-value (value e symbols) (number_below 16) f h in
    omega (arith, number_is 16 t.first f t.then)
in_place Byte (expression e) symbols f h m =
    let t = first-value (value e symbols) (signed_below 256) f h in
    omega (arith, byte_is t.first f t.then)
in_place Address (expression e) symbols f h m =
    let t = first-value (value e symbols) (number_below 4096) f h in
    omega (arith, number_is 4096 t.first f t.then)
in_place p o symbols f h m = no_field p f (if_ok (matches p o) 0 f WrongOperands h).1

fields_are : (r s : Result ℕ Fault) (f : ℕ) → (r >>= λ a. s >>= λ b. Ok (bit_or a b)) ≡ Ok f →
    (a : ℕ) × (b : ℕ) × (r ≡ Ok a) × (s ≡ Ok b) × (bit_or a b ≡ f)
fields_are (Ok a) (Ok b) f h = (a, b, refl, refl, cc)
fields_are r s f h = cc

-- ---- the words of a form are those with its digits

-- the base of a form has the digit 0 where an operand takes the digit
abbrev leaves_room : (Pattern → Bool) → (bits : ℕ) → Row → Bool
leaves_room takes bits r = not (list_any takes r.patterns) || digit bits r.base == 0

neither : (a b : Bool) → (a || b) ≡ false → (a ≡ false) × (b ≡ false)
neither false false h = (refl, refl)
neither a b h = cc

either_or : (a b : Bool) (d : ℕ) → bit_or (if a then d else 0) (if b then d else 0) ≡ (if a || b then d else 0)
either_or true true d = or_self d
either_or true false d = or_zero_r d
either_or false b d = or_zero_l (if b then d else 0)

module _ (takes : Pattern → Bool) (bits : ℕ) (own : HasOwn bits takes) (nothing : digit bits 0 ≡ 0) where
  parts_digit : (ps : List Pattern) (w : ℕ) → digit bits (parts_in ps w) ≡ (if list_any takes ps then digit bits w else 0)
  parts_digit [] w = nothing
  parts_digit (p ∷ ps) w =
      let here = own p w in
      let rest = parts_digit ps w in
      digit_or bits (part_in p w) (parts_in ps w) ∙ rw (here, rest) (either_or (takes p) (list_any takes ps) (digit bits w))

  -- a word that a form gives has the form's digit
  pub given : (r : Row) (w : ℕ) → bit_or r.base (parts_in r.patterns w) ≡ w → has_digit takes bits r (digit bits w) ≡ true
  given r w h =
      elim (cases_Bool (list_any takes r.patterns)) [
        | inl t ↦ rw t refl
        | inr t ↦
            let parts : digit bits (parts_in r.patterns w) ≡ 0 = parts_digit r.patterns w ∙ rw t refl in
            let free : digit bits w ≡ digit bits r.base = ap (digit bits) (sym h) ∙ digit_or bits r.base (parts_in r.patterns w) ∙ rw parts (or_zero_r (digit bits r.base)) in
            rw t (eq-eqb (digit bits w) (digit bits r.base) free)
      ]

  -- a word with the form's digit has the digit that the form gives
  pub whole : (r : Row) (w : ℕ) → leaves_room takes bits r ≡ true → has_digit takes bits r (digit bits w) ≡ true → digit bits (bit_or r.base (parts_in r.patterns w)) ≡ digit bits w
  whole r w room h =
      elim (cases_Bool (list_any takes r.patterns)) [
        | inl t ↦
            let parts : digit bits (parts_in r.patterns w) ≡ digit bits w = parts_digit r.patterns w ∙ rw t refl in
            let base : digit bits r.base ≡ 0 = eqb-true (digit bits r.base) 0 (rw t at room) in
            digit_or bits r.base (parts_in r.patterns w) ∙ rw (base, parts) (or_zero_l (digit bits w))
        | inr t ↦
            let parts : digit bits (parts_in r.patterns w) ≡ 0 = parts_digit r.patterns w ∙ rw t refl in
            let free : digit bits w ≡ digit bits r.base = eqb-true (digit bits w) (digit bits r.base) (rw t at h) in
            digit_or bits r.base (parts_in r.patterns w) ∙ rw (parts, free) (or_zero_r (digit bits r.base))
      ]

  no_digit : (p : Pattern) (f : ℕ) → part_in p f ≡ f → takes p ≡ false → digit bits f ≡ 0
  no_digit p f h t = ap (digit bits) (sym h) ∙ own p f ∙ rw t refl

  fields_digit : (ps : List Pattern) (os : List Operand) (symbols : Symbols) (f : ℕ) → fields_of ps os symbols ≡ Ok f → list_all is_of_machine os ≡ true → list_any takes ps ≡ false →
      digit bits f ≡ 0
  fields_digit [] [] symbols f h m t = let e : 0 ≡ f = cc in rw (← e) nothing
  fields_digit (p ∷ ps) (o ∷ os) symbols f h m t =
      let both = fields_are (field_of p o symbols) (fields_of ps os symbols) f h in
      let free = neither (takes p) (list_any takes ps) t in
      let real = and_parts _ _ m in
      let here = no_digit p both.0 (in_place p o symbols both.0 both.2 real.0) free.0 in
      let rest = fields_digit ps os symbols both.1 both.3 real.1 free.1 in
      ap (digit bits) (sym both.4) ∙ digit_or bits both.0 both.1 ∙ rw (here, rest) refl
  fields_digit ps os symbols f h m t = cc

  -- the word of a form and operands has the form's digit
  pub said : (r : Row) (os : List Operand) (symbols : Symbols) (f : ℕ) → fields_of r.patterns os symbols ≡ Ok f → list_all is_of_machine os ≡ true →
      has_digit takes bits r (digit bits (bit_or r.base f)) ≡ true
  said r os symbols f h m =
      elim (cases_Bool (list_any takes r.patterns)) [
        | inl t ↦ rw t refl
        | inr t ↦
            let none = fields_digit r.patterns os symbols f h m t in
            let free : digit bits (bit_or r.base f) ≡ digit bits r.base = digit_or bits r.base f ∙ rw none (or_zero_r (digit bits r.base)) in
            rw t (eq-eqb (digit bits (bit_or r.base f)) (digit bits r.base) free)
      ]

-- a form's digits, where no operand takes them
abbrev pub has_digits : Row → (top x y n : ℕ) → Bool
has_digits r top x y n = has_digit takes_top 12 r top && (has_digit takes_x 8 r x && (has_digit takes_y 4 r y && has_digit takes_n 0 r n))

-- a form with a word of 16 bits, whose operands have room
abbrev pub is_proper : Row → Bool
is_proper r = ltb r.base 65536 && (leaves_room takes_top 12 r && (leaves_room takes_x 8 r && (leaves_room takes_y 4 r && leaves_room takes_n 0 r)))

part_bound : (p : Pattern) (w : ℕ) → part_in p w < 65536
part_bound Vx w = omega arith
part_bound p w = omega arith

parts_bound : (ps : List Pattern) (w : ℕ) → parts_in ps w < 65536
parts_bound [] w = omega arith
parts_bound (p ∷ ps) w = or_of_16 (part_in p w) (parts_in ps w) (part_bound p w) (parts_bound ps w)

fields_bound : (ps : List Pattern) (os : List Operand) (symbols : Symbols) (f : ℕ) → fields_of ps os symbols ≡ Ok f → list_all is_of_machine os ≡ true → f < 65536
fields_bound [] [] symbols f h m = let e : 0 ≡ f = cc in omega (arith, e)
fields_bound (p ∷ ps) (o ∷ os) symbols f h m =
    let both = fields_are (field_of p o symbols) (fields_of ps os symbols) f h in
    let real = and_parts _ _ m in
    let here : both.0 < 65536 = rw (← in_place p o symbols both.0 both.2 real.0) (part_bound p both.0) in
    let rest = fields_bound ps os symbols both.1 both.3 real.1 in
    rw (← both.4) (or_of_16 both.0 both.1 here rest)
fields_bound ps os symbols f h m = cc

-- the digits of a word are those of a form
abbrev pub HasDigits : Row → ℕ → Type 0
HasDigits r w = has_digits r (digit 12 w) (digit 8 w) (digit 4 w) (digit 0 w) ≡ true

four : {a b c d : Bool} → a ≡ true → b ≡ true → c ≡ true → d ≡ true → (a && (b && (c && d))) ≡ true
four p q r s = and_from _ _ p (and_from _ _ q (and_from _ _ r s))

given_digits : (r : Row) (w : ℕ) → bit_or r.base (parts_in r.patterns w) ≡ w → HasDigits r w
given_digits r w h =
    four (given takes_top 12 own_top refl r w h) (given takes_x 8 own_x refl r w h) (given takes_y 4 own_y refl r w h) (given takes_n 0 own_n refl r w h)

whole_word : (r : Row) (w : ℕ) → is_proper r ≡ true → w < 65536 → HasDigits r w → bit_or r.base (parts_in r.patterns w) ≡ w
whole_word r w proper h digits =
    let p = and_parts _ _ proper in
    let p1 = and_parts _ _ p.1 in
    let p2 = and_parts _ _ p1.1 in
    let p3 = and_parts _ _ p2.1 in
    let d = and_parts _ _ digits in
    let d1 = and_parts _ _ d.1 in
    let d2 = and_parts _ _ d1.1 in
    let bound : bit_or r.base (parts_in r.patterns w) < 65536 = or_of_16 r.base (parts_in r.patterns w) (ltb-true r.base 65536 p.0) (parts_bound r.patterns w) in
    same_digits (bit_or r.base (parts_in r.patterns w)) w bound h (whole takes_top 12 own_top refl r w p1.0 d.0) (whole takes_x 8 own_x refl r w p2.0 d1.0)
    (whole takes_y 4 own_y refl r w p3.0 d2.0) (whole takes_n 0 own_n refl r w p3.1 d2.1)

same_test : (a b : Bool) → (a ≡ true → b ≡ true) → (b ≡ true → a ≡ true) → a ≡ b
same_test true b p q = sym (p refl)
same_test false true p q = q refl
same_test false false p q = refl

-- a form gives a word if and only if the word has the form's digits
pub gives_digits : (r : Row) (w : ℕ) → is_proper r ≡ true → w < 65536 → gives r w ≡ has_digits r (digit 12 w) (digit 8 w) (digit 4 w) (digit 0 w)
gives_digits r w proper h =
    let word = bit_or r.base (parts_in r.patterns w) in
    same_test (gives r w) (has_digits r (digit 12 w) (digit 8 w) (digit 4 w) (digit 0 w)) (λ g. given_digits r w (eqb-true word w g)) (λ d. eq-eqb word w (whole_word r w proper h d))

-- a word that a form gives has 16 bits
pub gives_small : (r : Row) (w : ℕ) → is_proper r ≡ true → gives r w ≡ true → w < 65536
gives_small r w proper h =
    let word : bit_or r.base (parts_in r.patterns w) ≡ w = eqb-true (bit_or r.base (parts_in r.patterns w)) w h in
    let bound : bit_or r.base (parts_in r.patterns w) < 65536 = or_of_16 r.base (parts_in r.patterns w) (ltb-true r.base 65536 (and_parts _ _ proper).0) (parts_bound r.patterns w) in
    omega (arith, word, bound)

-- the word of a form and operands has 16 bits, and the form's digits
pub word_digits : (r : Row) (os : List Operand) (symbols : Symbols) (w : ℕ) → is_proper r ≡ true → list_all is_of_machine os ≡ true → word_of_form r os symbols ≡ Ok w →
    (w < 65536) × HasDigits r w
word_digits r os symbols w proper m h =
    let t = first-value (fields_of r.patterns os symbols) (λ f. Ok (bit_or r.base f)) w h in
    let f = t.first in
    let is_word : bit_or r.base f ≡ w = (let same = t.then in cc) in
    let bound : bit_or r.base f < 65536 = or_of_16 r.base f (ltb-true r.base 65536 (and_parts _ _ proper).0) (fields_bound r.patterns os symbols f t.had m) in
    let digits : HasDigits r (bit_or r.base f) =
    four (said takes_top 12 own_top refl r os symbols f t.had m) (said takes_x 8 own_x refl r os symbols f t.had m)
    (said takes_y 4 own_y refl r os symbols f t.had m) (said takes_n 0 own_n refl r os symbols f t.had m) in
    (omega (arith, is_word, bound), subst (HasDigits r) is_word digits)
