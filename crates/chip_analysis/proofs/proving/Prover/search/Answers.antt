use Rattle.std.proofs.Common.{None, refl}
use Rattle.chip_analysis.proofs.SearchedLemmas.{each_answer, each_never}
use Rattle.chip_analysis.proofs.proving.Prover.search.Goals as goal

pub returns-clause-answers : goal.returns-clause-answers
returns-clause-answers g c =
    let prover = c.args.self.now in
    each_answer prover.rate prover.keys prover.start.now c.args.properties.now _ c.none.ensures refl refl
    c.one_of_several.ensures.answers c.explore.result.outcome c.explore.ensures.answers

pub returns-clause-any_speed : goal.returns-clause-any_speed
returns-clause-any_speed g c =
    let prover = c.args.self.now in
    each_never prover.rate prover.keys prover.start.now c.args.properties.now
    (record { causes = c.none.result; address = None; properties = c.args.properties }) c.none.ensures refl refl
    c.one_of_several.ensures.any_speed c.explore.result.is_at_any_speed c.explore.ensures.any_speed
