use Rattle.std.proofs.Common.{ℕ, Option, option_map, subst}
use Rattle.std.specs.Global.{Vec}
use Rattle.chip_pages.specs.Pages.{IsExplained}
use Rattle.chip_bench.proofs.DoingLemmas.{explained, unexplained}
use Rattle.chip_bench.proofs.output.explain.Goals as goal

pub returns-in-Some-page-clause-ok : goal.returns-in-Some-page-clause-ok
returns-in-Some-page-clause-ok c =
    explained c.args.code c.in-Some.code c.in-Some-page.text.items c.in-Some.is
    (subst (λ (found : Option (Vec ℕ)). IsExplained c.in-Some.code.now (option_map (λ (v : Vec ℕ). v.items) found)) c.in-Some-page.is c.in_ok-page.ensures)

pub returns-in-None-clause-err : goal.returns-in-None-clause-err
returns-in-None-clause-err c =
    unexplained c.args.code c.in-Some.code c.in-Some.is
    (subst (λ (found : Option (Vec ℕ)). IsExplained c.in-Some.code.now (option_map (λ (v : Vec ℕ). v.items) found)) c.in-None.is c.in_ok-page.ensures)
