-- At most one form fits a name and operands.
use Rattle.std.proofs.Common.{◌≡◌, ℕ, ◌≤◌, Bool, true, false, not, ◌&&◌, List, [], ◌∷◌, length, map, refl, sym, ◌∙◌, arith, inl, inr}
use Rattle.std.specs.List.{filter, list_all}
use Rattle.std.specs.Str.{bytes_eq}
use Rattle.std.proofs.lemmas.Slice.Eq.{bytes_eq-Decides}
use Rattle.std.proofs.lemmas.Bool.{and_parts, and_from, cases_Bool, false≢true}
use Rattle.chip_lang.specs.declared.form.Pattern.{Pattern}
use Rattle.chip_lang.specs.declared.form.Pattern.TheVariants.{Vx, Vy, V0, Index, DelayTimer, SoundTimer, Key, SmallDigit, BigDigit, Decimal, Flags, AtIndex, Nibble, Byte, Address}
use Rattle.chip_lang.specs.declared.form.Special.{Special}
use Rattle.chip_lang.specs.declared.form.Special.TheVariants.{Index as index, DelayTimer as delay_timer, SoundTimer as sound_timer, Key as key, SmallDigit as small_digit, BigDigit as big_digit, Decimal as decimal, Flags as flags, AtIndex as at_index}
use Rattle.chip_lang.specs.Operand.{Operand, register, special, expression}
use Rattle.chip_lang.specs.Table.{Row, forms}
use Rattle.chip_lang.specs.Form.{is_special, matches, all_match, fits}

-- the kind of operand that a pattern takes, by a number
abbrev kind : Pattern → ℕ
kind Vx = 0
kind Vy = 0
kind V0 = 0
kind Index = 1
kind DelayTimer = 2
kind SoundTimer = 3
kind Key = 4
kind SmallDigit = 5
kind BigDigit = 6
kind Decimal = 7
kind Flags = 8
kind AtIndex = 9
kind Nibble = 10
kind Byte = 10
kind Address = 10

abbrev kind_of_special : Special → ℕ
kind_of_special index = 1
kind_of_special delay_timer = 2
kind_of_special sound_timer = 3
kind_of_special key = 4
kind_of_special small_digit = 5
kind_of_special big_digit = 6
kind_of_special decimal = 7
kind_of_special flags = 8
kind_of_special at_index = 9

abbrev kind_of : Operand → ℕ
kind_of (register x) = 0
kind_of (special s) = kind_of_special s
kind_of (expression e) = 10

special_kind : (s : Special) (p : Pattern) → is_special s p ≡ true → kind p ≡ kind_of_special s
unfolding is_special
special_kind index Index h = refl
special_kind delay_timer DelayTimer h = refl
special_kind sound_timer SoundTimer h = refl
special_kind key Key h = refl
special_kind small_digit SmallDigit h = refl
special_kind big_digit BigDigit h = refl
special_kind decimal Decimal h = refl
special_kind flags Flags h = refl
special_kind at_index AtIndex h = refl
special_kind s p h = absurd (false≢true h)

operand_kind : (p : Pattern) (o : Operand) → matches p o ≡ true → kind p ≡ kind_of o
unfolding matches
operand_kind p (special s) h = special_kind s p h
operand_kind Vx (register x) h = refl
operand_kind Vy (register x) h = refl
operand_kind V0 (register x) h = refl
operand_kind Nibble (expression e) h = refl
operand_kind Byte (expression e) h = refl
operand_kind Address (expression e) h = refl
operand_kind p o h = absurd (false≢true h)

kinds : (ps : List Pattern) (os : List Operand) → all_match ps os ≡ true → map kind ps ≡ map kind_of os
kinds [] [] h = refl
kinds [] (o ∷ os) h = absurd (false≢true h)
kinds (p ∷ ps) [] h = absurd (false≢true h)
kinds (p ∷ ps) (o ∷ os) h =
    let both = and_parts _ _ h in
    let here = operand_kind p o both.0 in
    let rest = kinds ps os both.1 in
    cc

-- two forms have the same name and operands of the same kinds
abbrev alike : Row → Row → Bool
alike r s = bytes_eq r.name s.name && bytes_eq (map kind r.patterns) (map kind s.patterns)

-- no two forms are alike
abbrev apart : List Row → Bool
apart [] = true
apart (r ∷ rs) = list_all (λ s. not (alike r s)) rs && apart rs

forms_apart : apart forms ≡ true
forms_apart = refl

fit_alike : (r s : Row) (n : List ℕ) (os : List Operand) → fits r n os ≡ true → fits s n os ≡ true → alike r s ≡ true
fit_alike r s n os f g =
    let a = and_parts _ _ f in
    let b = and_parts _ _ g in
    let names : r.name ≡ s.name = (bytes_eq-Decides r.name n).0 a.0 ∙ sym ((bytes_eq-Decides s.name n).0 b.0) in
    let same : map kind r.patterns ≡ map kind s.patterns = kinds r.patterns os a.1 ∙ sym (kinds s.patterns os b.1) in
    and_from _ _ ((bytes_eq-Decides r.name s.name).1 names) ((bytes_eq-Decides (map kind r.patterns) (map kind s.patterns)).1 same)

not_both : (b : Bool) → not b ≡ true → b ≡ true → ⊥
not_both true h e = false≢true h
not_both false h e = false≢true e

-- if a form fits, no later form that isn't alike fits
none_fits : (r : Row) (rs : List Row) (n : List ℕ) (os : List Operand) → fits r n os ≡ true → list_all (λ s. not (alike r s)) rs ≡ true → filter (λ s. fits s n os) rs ≡ []
none_fits r [] n os f h = refl
none_fits r (s ∷ rs) n os f h =
    elim (cases_Bool (fits s n os)) [
      | inl e ↦ absurd (not_both (alike r s) (and_parts _ _ h).0 (fit_alike r s n os f e))
      | inr e ↦ rw e (none_fits r rs n os f (and_parts _ _ h).1)
    ]

at_most_one : (rs : List Row) (n : List ℕ) (os : List Operand) → apart rs ≡ true → length (filter (λ s. fits s n os) rs) ≤ 1
at_most_one [] n os h = omega arith
at_most_one (r ∷ rs) n os h =
    elim (cases_Bool (fits r n os)) [
      | inl e ↦ rw (e, none_fits r rs n os e (and_parts _ _ h).0) (omega arith)
      | inr e ↦ rw e (at_most_one rs n os (and_parts _ _ h).1)
    ]

pub one_form : (n : List ℕ) (os : List Operand) → length (filter (λ r. fits r n os) forms) ≤ 1
one_form n os = at_most_one forms n os forms_apart
