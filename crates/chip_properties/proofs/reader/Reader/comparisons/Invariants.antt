use Rattle.std.proofs.Common.{◌≡◌}
use Rattle.std.specs.Prelude.{option_map}
use Rattle.chip_properties.specs.SeenProperty.{seen_comparisons}
use Rattle.chip_properties.specs.computed.Separated.{pieces_in}
use Rattle.chip_properties.specs.computed.Reading.{comparisons_in, found_with}
use Rattle.chip_properties.specs.inner.Parts.{tokens_in}
use Rattle.chip_properties.specs.inner.Reads.{symbols_read}
use Rattle.chip_properties.proofs.Pieces.{left_in}
use Rattle.chip_properties.proofs.reader.Reader.comparisons.Given as goal

abbrev pub invariant-loop-rest : goal.invariant-loop-rest
invariant-loop-rest l = found_with (symbols_read l.self) (seen_comparisons l.comparisons) (pieces_in l.joint (option_map tokens_in l.rest)) ≡ comparisons_in (symbols_read l.self) l.joint l.part.tokens.now

abbrev pub decreases-loop-rest : goal.decreases-loop-rest
decreases-loop-rest l = left_in l.rest
