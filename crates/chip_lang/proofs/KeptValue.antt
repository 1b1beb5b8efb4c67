-- An expression that has a value keeps it when names are added.
use Rattle.std.proofs.Common.{◌≡◌, ℕ, ℤ, Option, Some, None, List, Ok, refl}
use Rattle.chip_lang.specs.declared.fault.Fault.TheVariants.{UndefinedName}
use Rattle.chip_lang.proofs.Outcomes.{first-value}
use Rattle.chip_lang.specs.Tree.{Tree, number, name, unary, binary}
use Rattle.chip_lang.specs.Value.{Symbols, value, value_of_name, or_fault, ◌>>=◌, apply_prefix, apply}

kept-name : (S T : Option ℤ) (v : ℤ) → ((w : ℤ) → S ≡ Some w → T ≡ Some w) → or_fault S UndefinedName ≡ Ok v → or_fault T UndefinedName ≡ Ok v
kept-name (Some x) T v more h = rw (more x refl) h
kept-name None T v more h = cc

pub kept_value : (e : Tree) (S T : Symbols) (v : ℤ) → ((n : List ℕ) (w : ℤ) → value_of_name S n ≡ Some w → value_of_name T n ≡ Some w) → value e S ≡ Ok v → value e T ≡ Ok v
kept_value (number z) S T v more h = h
kept_value (name n) S T v more h = kept-name (value_of_name S n) (value_of_name T n) v (more n) h
kept_value (unary sign e) S T v more h =
    let k = first-value (value e S) (apply_prefix sign) v h in
    rw (kept_value e S T k.first more k.had) k.then
kept_value (binary sign a b) S T v more h =
    let k = first-value (value a S) (λ x. value b S >>= apply sign x) v h in
    let m = first-value (value b S) (apply sign k.first) v k.then in
    rw (kept_value a S T k.first more k.had, kept_value b S T m.first more m.had) m.then
