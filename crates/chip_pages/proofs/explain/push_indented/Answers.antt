use Rattle.std.proofs.Common.{List, ℕ, arith}
use Rattle.std.proofs.lemmas.Grind.{common_steps}
use Rattle.std.proofs.lemmas.Iterator.Consumers.{YieldsList-end}
use Rattle.std.proofs.lemmas.Iterator.Splits.{YieldsList-from_lines}
use Rattle.std.proofs.lemmas.List.{flat_map_more}
use Rattle.std.proofs.lemmas.List.Folds.{flat_map-map}
use Rattle.std.specs.Borrow.{Bor}
use Rattle.chip_pages.specs.Pages.{indented_line}
use Rattle.chip_pages.proofs.explain.push_indented.Goals as goal

pub loop-line-preserved : goal.loop-line-preserved
loop-line-preserved c =
    grind (arith, common_steps, flat_map_more (λ (line : Bor (List ℕ)). indented_line line.now) c.extend_from_slice.new.self.items c.loop-line.yielded c.in-Some.line)

pub returns : goal.returns
returns c =
    let all = YieldsList-end (YieldsList-from_lines c.args.lines.now cc) c.loop-line.yielded _ c.loop-line.yielded_by _ _ c.in-None.is c.next.ensures.steps in
    grind (arith, common_steps, flat_map-map indented_line (λ (line : Bor (List ℕ)). line.now) c.loop-line.yielded)
