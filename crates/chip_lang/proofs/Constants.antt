-- The value of an expression, whatever the names mean.
use Rattle.std.proofs.Common.{◌≡◌, ℕ, ℤ, List, [], ◌∷◌, ◌++◌, Result, Ok, Err, Some, None, refl, sym, ◌∙◌}
use Rattle.std.specs.Result.{result_ok}
use Rattle.std.specs.FinMap.{get-empty}
use Rattle.std.specs.Ordering.{nat_cmp}
use Rattle.std.specs.Cmp.Lexicographic.{slice_cmp}
use Rattle.chip_lang.specs.declared.fault.Fault.{Fault}
use Rattle.chip_lang.specs.Tree.{Tree, number, name, unary, binary}
use Rattle.chip_lang.specs.Uses.{constant, if_nameless, names_in}
use Rattle.chip_lang.specs.Value.{Symbols, apply, apply_prefix, no_names, ◌>>=◌, value, value_of_name}
use Rattle.chip_lang.proofs.KeptValue.{kept_value}

pub no_value : (n : List ℕ) → value_of_name no_names n ≡ None
no_value n = get-empty (slice_cmp nat_cmp) n

after_operand : (xs : List (List ℕ)) (p : Result ℤ Fault) (go : ℤ → Result ℤ Fault)
    → if_nameless xs (result_ok p) ≡ result_ok p → if_nameless xs (result_ok (p >>= go)) ≡ result_ok (p >>= go)
after_operand [] p go h = refl
after_operand (x ∷ xs) (Ok z) go h = cc
after_operand (x ∷ xs) (Err f) go h = refl

after_operands : (xs ys : List (List ℕ)) (p q : Result ℤ Fault) (go : ℤ → ℤ → Result ℤ Fault)
    → if_nameless xs (result_ok p) ≡ result_ok p → if_nameless ys (result_ok q) ≡ result_ok q
    → if_nameless (xs ++ ys) (result_ok (p >>= λ x. q >>= go x)) ≡ result_ok (p >>= λ x. q >>= go x)
after_operands [] ys (Ok x) q go h i = after_operand ys q (go x) i
after_operands [] [] (Err f) q go h i = refl
after_operands [] (y ∷ ys) (Err f) q go h i = refl
after_operands (x ∷ xs) ys (Ok z) q go h i = cc
after_operands (x ∷ xs) ys (Err f) q go h i = refl

-- the value of a constant is its value under no names, because a name has no value there
pub constant-value : (e : Tree) → constant e ≡ result_ok (value e no_names)
unfolding constant
constant-value (number z) = refl
constant-value (name n) = rw (no_value n) refl
constant-value (unary sign a) = after_operand (names_in a) (value a no_names) (apply_prefix sign) (constant-value a)
constant-value (binary sign a b) =
    after_operands (names_in a) (names_in b) (value a no_names) (value b no_names) (apply sign) (constant-value a) (constant-value b)

pub kept_from_none : (e : Tree) (symbols : Symbols) (v : ℤ) → value e no_names ≡ Ok v → value e symbols ≡ Ok v
kept_from_none e symbols v h = kept_value e no_names symbols v (λ n w is. absurd (some_none w (sym is ∙ no_value n))) h
  where
    some_none : (w : ℤ) → Some w ≡ None → ⊥
    some_none w e = cc

pub ruleset constants = (constant-value, kept_from_none)
