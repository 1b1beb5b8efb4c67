-- Operands as contracts see them, without their places in memory (chosen by this project).
use Rattle.std.specs.Prelude.{ℕ, Bool, true, nat_lt}
use Rattle.chip_lang.specs.declared.form.Special.{Special as Special_word}
use Rattle.chip_lang.specs.declared.form.Operand.{Operand as Operand_value}
use Rattle.chip_lang.specs.declared.form.Operand.TheVariants.{Register, Special, Value}
use Rattle.chip_lang.specs.Tree.{Tree, tree_of}

-- an operand
pub data Operand : Type 0 where
  register : (x : ℕ) → Operand
  special : (word : Special_word) → Operand
  expression : (e : Tree) → Operand

abbrev pub operand_of : Operand_value → Operand
operand_of (Register x) = register x
operand_of (Special s) = special s
operand_of (Value e) = expression (tree_of e)

-- true unless an operand is a register other than V0 to VF
abbrev pub is_of_machine : Operand → Bool
is_of_machine (register x) = nat_lt x 16
is_of_machine o = true
