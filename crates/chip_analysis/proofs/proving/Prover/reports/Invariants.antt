use Rattle.std.proofs.Common.{[]}
use Rattle.chip_check.proofs.TextsInOrder.{PartsSoFar}
use Rattle.chip_analysis.specs.Proving.{IsReport}
use Rattle.chip_analysis.proofs.proving.Prover.reports.Given as goal

abbrev pub invariant-loop-fault : goal.invariant-loop-fault
invariant-loop-fault g l = PartsSoFar (IsReport l.self.arguments.now l.self.source.now.lines) l.faults [] l.fault-index l.text.items
