use Rattle.std.proofs.Common.{◌≡◌, length, map}
use Rattle.std.specs.List.{flat_map}
use Rattle.chip_lang.specs.Tree.{tree_of}
use Rattle.chip_lang.specs.Uses.{names_in}
use Rattle.chip_lang.proofs.line_names.name_in_each.Given as goal

abbrev pub invariant-loop-expr : goal.invariant-loop-expr
invariant-loop-expr l = flat_map names_in (map tree_of l.rest) ≡ flat_map names_in (map tree_of l.exprs)

abbrev pub decreases-loop-expr : goal.decreases-loop-expr
decreases-loop-expr l = length l.rest
