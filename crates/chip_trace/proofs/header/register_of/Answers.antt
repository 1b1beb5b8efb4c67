use Rattle.std.proofs.Common.{arith, sym}
use Rattle.chip_trace.specs.Header.{is_named}
use Rattle.chip_trace.proofs.Names.{none_registered}
use Rattle.chip_trace.proofs.header.register_of.Goals as goal

pub returns : goal.returns
returns c = sym (none_registered (is_named c.args.name.now) 0 16 (λ k lt. c.loop-number.invariant k (omega arith)))
