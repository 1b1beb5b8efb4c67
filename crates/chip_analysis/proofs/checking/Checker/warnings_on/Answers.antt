use Rattle.std.proofs.Common.{refl}
use Rattle.chip_analysis.specs.inner.Covering.{checking_by}
use Rattle.chip_analysis.proofs.CheckLemmas.{are_warned}
use Rattle.chip_analysis.proofs.checking.Checker.warnings_on.Goals as goal

pub returns : goal.returns
returns g c =
    are_warned (checking_by c.args.self.now) c.args.source.now.lines _ c.in_ok-covered.covered c.facts_about-facts.result refl c.quirks.ensures refl
    c.coverage_in.ensures c.executed_in.ensures (λ v. v.items) c.warnings.result c.warnings.ensures.places c.warnings.ensures.faulty c.warnings.ensures.told
    c.in_ok-covered.ensures c.facts_about-facts.ensures
