-- Expressions as contracts see them, without their places in memory (chosen by this project).
use Rattle.chip_lang.specs.declared.expr.Expr.{Expr}
use Rattle.chip_lang.specs.declared.expr.Expr.TheVariants.{Number, Name, Compound}
pub use Rattle.chip_lang.specs.Expression.{Tree, number, name, unary, binary}

-- the expression that a value of the program represents
abbrev pub tree_of : Expr → Tree
tree_of (Number value) = number value
tree_of (Name bytes) = name bytes
tree_of (Compound tree) = tree
