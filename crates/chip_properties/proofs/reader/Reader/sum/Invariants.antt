use Rattle.std.proofs.Common.{◌≡◌, ◌≤◌}
use Rattle.std.specs.Prelude.{option_map}
use Rattle.chip_properties.specs.SeenProperty.{seen_sum}
use Rattle.chip_properties.specs.computed.Separated.{pieces_in}
use Rattle.chip_properties.specs.computed.Reading.{summed, sum_in}
use Rattle.chip_properties.specs.declared.separator.Separator.TheVariants.{Plus}
use Rattle.chip_properties.specs.declared.limits.TheConstants.{MOST_TERMS}
use Rattle.chip_properties.specs.inner.Parts.{tokens_in}
use Rattle.chip_properties.specs.inner.Reads.{symbols_read}
use Rattle.chip_properties.proofs.Pieces.{left_in}
use Rattle.chip_properties.proofs.reader.Reader.sum.Given as goal

abbrev pub invariant-loop-rest : goal.invariant-loop-rest
invariant-loop-rest l = record {
  summed : summed (symbols_read l.self) l.count (seen_sum l.sum) (pieces_in Plus (option_map tokens_in l.rest)) ≡ sum_in (symbols_read l.self) l.part.tokens.now;
  few : l.count ≤ MOST_TERMS;
}

abbrev pub decreases-loop-rest : goal.decreases-loop-rest
decreases-loop-rest l = left_in l.rest
