use Rattle.chip_analysis.specs.inner.Covering.{checking_by}
use Rattle.chip_analysis.proofs.CheckLemmas.{ChecksSoFar}
use Rattle.chip_analysis.proofs.checking.Checker.check_each.Given as goal

abbrev pub invariant-loop-name : goal.invariant-loop-name
invariant-loop-name g l =
    ChecksSoFar g.I.Read.remaining g.O.Write.contents (checking_by l.self) l.names l.initial.input l.initial.output l.name-index l.input l.output l.ending
