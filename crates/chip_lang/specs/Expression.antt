-- Expressions as trees (chosen by this project).
use Rattle.std.specs.Prelude.{ℕ, ℤ, List}
use Rattle.chip_lang.specs.declared.expr.Prefix.{Prefix}
use Rattle.chip_lang.specs.declared.expr.Operator.{Operator}

-- an expression
pub data Tree : Type 0 where
  number : (value : ℤ) → Tree
  name : (bytes : List ℕ) → Tree
  unary : (sign : Prefix) (operand : Tree) → Tree
  binary : (sign : Operator) (left right : Tree) → Tree
