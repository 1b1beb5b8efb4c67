use Rattle.std.proofs.Common.{◌≡◌, length, map}
use Rattle.std.specs.Option.{option_copied}
use Rattle.chip_lang.specs.Tree.{tree_of}
use Rattle.chip_lang.specs.computed.Parse.{expression_of}
use Rattle.chip_lang.specs.Line.{pieces_in, all_some, listed_values}
use Rattle.chip_lang.proofs.Pieces.{after}
use Rattle.chip_lang.proofs.operands.values_of.Given as goal

abbrev pub invariant-loop-rest : goal.invariant-loop-rest
invariant-loop-rest l = after tree_of l.values.items (all_some (map expression_of (pieces_in (option_copied l.rest)))) ≡ listed_values l.tokens

abbrev pub decreases-loop-rest : goal.decreases-loop-rest
decreases-loop-rest l = length (pieces_in (option_copied l.rest))
