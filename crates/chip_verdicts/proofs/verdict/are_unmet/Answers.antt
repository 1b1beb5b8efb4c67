use Rattle.std.proofs.Common.{arith}
use Rattle.chip_explore.specs.Property.{is_met}
use Rattle.chip_verdicts.proofs.Excluding.{no_position}
use Rattle.chip_verdicts.proofs.verdict.are_unmet.Goals as goal

pub returns : goal.returns
returns c = λ _ s any.
    no_position (is_met s) c.args.properties.now
    (λ k d below. c.loop-property.invariant k d s (omega (arith, below, c.loop-property-test.false)) any)
