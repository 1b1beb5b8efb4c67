use Rattle.std.proofs.Common.{◌≡◌, ◌++◌, drop}
use Rattle.std.specs.Prelude.{filter_map}
use Rattle.chip_properties.specs.Lines.{word_of}
use Rattle.chip_properties.proofs.line.names_used.Given as goal

abbrev pub invariant-loop-token : goal.invariant-loop-token
invariant-loop-token l = l.words.items ++ filter_map word_of (drop l.token-index l.token-items) ≡ filter_map word_of l.token-items
