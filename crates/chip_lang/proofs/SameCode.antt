-- The value of an expression and the code of a line are the same under two tables that agree on
-- their names.
use Rattle.std.proofs.Common.{◌≡◌, ℕ, ℤ, Bool, true, Option, Some, None, List, [], ◌∷◌, ◌++◌, refl, sym, ◌∙◌, ap}
use Rattle.std.specs.List.{list_all, flat_map}
use Rattle.std.specs.Option.{option_eq}
use Rattle.std.specs.Ordering.{int_eq}
use Rattle.std.proofs.lemmas.Bool.{and_parts}
use Rattle.std.proofs.lemmas.Bool.Decides.{Decides-int_eq}
use Rattle.std.proofs.lemmas.List.Folds.{list_all-append}
use Rattle.chip_lang.specs.declared.fault.Fault.TheVariants.{UndefinedName}
use Rattle.chip_lang.specs.declared.form.Pattern.{Pattern}
use Rattle.chip_lang.specs.declared.form.Pattern.TheVariants.{Vx, Vy, Nibble, Byte, Address}
use Rattle.chip_lang.specs.Tree.{Tree, number, name, unary, binary}
use Rattle.chip_lang.specs.Operand.{Operand, register, expression}
use Rattle.chip_lang.specs.Value.{Symbols, value, value_of_name, or_fault, ◌>>=◌, apply_prefix}
use Rattle.chip_lang.specs.Encoding.{field_of, fields_of}
use Rattle.chip_lang.specs.Line.{Body, db, dw, code, Reading, bad, read}
use Rattle.chip_lang.specs.Code.{data_bytes, byte_of, word_bytes, own_bytes, coded, code_of}
use Rattle.chip_lang.specs.Uses.{names_in, names_in_operand, names_in_body, has_same_value, agree_on}

-- values that the test finds equal are equal
same_option : (a b : Option ℤ) → option_eq int_eq a b ≡ true → a ≡ b
same_option None None h = refl
same_option None (Some y) h = cc
same_option (Some x) None h = cc
same_option (Some x) (Some y) h = ap Some ((Decides-int_eq x y).0 h)

-- each part of a list that passes a test passes it
parts : {A : Type 0} (p : A → Bool) (xs ys : List A) → list_all p (xs ++ ys) ≡ true → (list_all p xs ≡ true) × (list_all p ys ≡ true)
parts p xs ys h = and_parts _ _ (sym (list_all-append p xs ys) ∙ h)

pub same_value : (S T : Symbols) (e : Tree) → list_all (has_same_value S T) (names_in e) ≡ true → value e S ≡ value e T
same_value S T (number z) h = refl
same_value S T (name n) h = ap (λ v. or_fault v UndefinedName) (same_option (value_of_name S n) (value_of_name T n) (and_parts _ _ h).0)
same_value S T (unary sign e) h = ap (λ r. r >>= apply_prefix sign) (same_value S T e h)
same_value S T (binary sign a b) h =
    let both = parts (has_same_value S T) (names_in a) (names_in b) h in
    let left = same_value S T a both.0 in
    let right = same_value S T b both.1 in
    rw (left, right) refl

same_field : (S T : Symbols) (p : Pattern) (o : Operand) → list_all (has_same_value S T) (names_in_operand o) ≡ true → field_of p o S ≡ field_of p o T
unfolding field_of
same_field S T Vx (register x) h = refl
same_field S T Vy (register y) h = refl
same_field S T Nibble (expression e) h = rw (same_value S T e h) refl
same_field S T Byte (expression e) h = rw (same_value S T e h) refl
same_field S T Address (expression e) h = rw (same_value S T e h) refl
same_field S T p o h = refl

same_fields : (S T : Symbols) (ps : List Pattern) (os : List Operand) → list_all (has_same_value S T) (flat_map names_in_operand os) ≡ true → fields_of ps os S ≡ fields_of ps os T
same_fields S T [] [] h = refl
same_fields S T [] (o ∷ os) h = refl
same_fields S T (p ∷ ps) [] h = refl
same_fields S T (p ∷ ps) (o ∷ os) h =
    let both = parts (has_same_value S T) (names_in_operand o) (flat_map names_in_operand os) h in
    let here = same_field S T p o both.0 in
    let rest = same_fields S T ps os both.1 in
    rw (here, rest) refl

same_data : (S T : Symbols) (limit : ℕ) (shown : ℕ → List ℕ) (es : List Tree) → list_all (has_same_value S T) (flat_map names_in es) ≡ true → data_bytes limit shown es S ≡ data_bytes limit shown es T
same_data S T limit shown [] h = refl
same_data S T limit shown (e ∷ es) h =
    let both = parts (has_same_value S T) (names_in e) (flat_map names_in es) h in
    let here = same_value S T e both.0 in
    let rest = same_data S T limit shown es both.1 in
    rw (here, rest) refl

same_bytes : (S T : Symbols) (body : Body) → list_all (has_same_value S T) (names_in_body body) ≡ true → own_bytes body S ≡ own_bytes body T
unfolding own_bytes
same_bytes S T (db es) h = same_data S T 256 byte_of es h
same_bytes S T (dw es) h = same_data S T 65536 word_bytes es h
same_bytes S T (code form operands) h = rw (same_fields S T form.patterns operands h) refl
same_bytes S T body h = refl

pub same_code : (r : Reading) (S T : Symbols) → agree_on S T r ≡ true → code_of r S ≡ code_of r T
same_code (bad fault) S T h = refl
same_code (read label body) S T h = ap coded (same_bytes S T body h)

pub ruleset same_laws = (same_value, same_code)
