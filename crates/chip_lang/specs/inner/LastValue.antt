-- The values of the trees that items leave, item by item, up to the first fault (chosen by this
-- project).
use Rattle.std.specs.Prelude.{ℕ, ℤ, pos, List, [], ◌∷◌, Result, Ok}
use Rattle.chip_lang.specs.declared.fault.Fault.{Fault}
use Rattle.chip_lang.specs.declared.postfix.Item.{Item}
use Rattle.chip_lang.specs.declared.postfix.Item.TheVariants.{Number, Name, Unary, Binary, WithNumber, WithName}
use Rattle.chip_lang.specs.Expression.{name}
use Rattle.chip_lang.specs.Value.{◌>>=◌, Symbols, value, apply_prefix, apply}
use Rattle.chip_lang.specs.inner.Postfix.{numbered}

-- the value on top; below the last value there are endless zeros
abbrev pub top_value : List ℤ → ℤ
top_value [] = pos 0
top_value (v ∷ stack) = v

abbrev pub other_values : List ℤ → List ℤ
other_values [] = []
other_values (v ∷ stack) = stack

-- the value that an item puts on top, under these names, or its fault
abbrev pub value_put : List (List ℕ) → Symbols → Item → List ℤ → Result ℤ Fault
value_put names symbols (Number z) stack = Ok z
value_put names symbols (Name k) stack = value (name (numbered names k)) symbols
value_put names symbols (Unary sign) stack = apply_prefix sign (top_value stack)
value_put names symbols (Binary sign) stack =
    apply sign (top_value (other_values stack)) (top_value stack)
value_put names symbols (WithNumber sign z) stack = apply sign (top_value stack) z
value_put names symbols (WithName sign k) stack =
    value (name (numbered names k)) symbols >>= apply sign (top_value stack)

-- the values that an item leaves on the stack
abbrev pub values_left : Item → List ℤ → List ℤ
values_left (Number z) stack = stack
values_left (Name k) stack = stack
values_left (Unary sign) stack = other_values stack
values_left (Binary sign) stack = other_values (other_values stack)
values_left (WithNumber sign z) stack = other_values stack
values_left (WithName sign k) stack = other_values stack

-- the value on top after some items, under these names, or the first fault of an item
abbrev pub last_value : List (List ℕ) → Symbols → List ℤ → List Item → Result ℤ Fault
last_value names symbols stack [] = Ok (top_value stack)
last_value names symbols stack (i ∷ items) =
    value_put names symbols i stack
    >>= λ v. last_value names symbols (v ∷ values_left i stack) items
