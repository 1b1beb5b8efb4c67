-- The results of the parser's functions as contracts see them, without their places in memory
-- (chosen by this project).
use Rattle.std.specs.Prelude.{List, Option, Some, None}
use Rattle.std.specs.Borrow.{Bor}
use Rattle.chip_lang.specs.declared.lexeme.Lexeme.{Lexeme}
use Rattle.chip_lang.specs.declared.expr.Expr.{Expr}
use Rattle.chip_lang.specs.Tree.{Tree, tree_of}
use Rattle.chip_lang.specs.computed.Parse.{Parsed}

-- an expression and the tokens after it, if one was found
abbrev pub seen : Tree → Option (Bor (List Lexeme)) → Parsed
seen e None = None
seen e (Some rest) = Some (e, rest.now)

abbrev pub seen_whole : Option Expr → Option Tree
seen_whole None = None
seen_whole (Some e) = Some (tree_of e)
