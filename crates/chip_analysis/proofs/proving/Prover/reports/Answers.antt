use Rattle.std.proofs.Common.{[], refl, subst, sym}
use Rattle.chip_check.specs.Check.{AreTexts}
use Rattle.chip_check.proofs.TextsInOrder.{PartsSoFar, no_part_left, no_part_yet, one_part_more}
use Rattle.chip_analysis.specs.Proving.{IsReport}
use Rattle.chip_analysis.proofs.proving.Prover.reports.Goals as goal

pub loop-fault-init : goal.loop-fault-init
loop-fault-init g c =
    let p = c.args.self.now in
    subst (PartsSoFar (IsReport p.arguments.now p.source.now.lines) c.args.faults.now [] 0) (sym c.new-text.ensures.items)
    (no_part_yet (IsReport p.arguments.now p.source.now.lines) c.args.faults.now [])

pub loop-fault-preserved : goal.loop-fault-preserved
loop-fault-preserved g c =
    let p = c.args.self.now in
    one_part_more (IsReport p.arguments.now p.source.now.lines) c.args.faults.now [] c.loop-fault.fault-index _ _ c.loop-fault.text.items _ _
    c.loop-fault-test.true c.fault-item.is c.in_ok-push_report.ensures.2 c.in_ok-push_report.ensures.1 c.loop-fault.invariant

pub returns : goal.returns
returns g c =
    let p = c.args.self.now in
    let parts = no_part_left (IsReport p.arguments.now p.source.now.lines) c.args.faults.now [] c.loop-fault.fault-index c.loop-fault.text.items
    c.loop-fault-test.false c.loop-fault.invariant in
    subst (λ text. AreTexts (IsReport p.arguments.now p.source.now.lines) c.args.faults.now text) (sym parts.2) parts.1
