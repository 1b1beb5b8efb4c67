use Rattle.std.proofs.Common.{◌≡◌, Some, ap, sym, ◌∙◌}
use Rattle.std.proofs.lemmas.Option.{IfSome_then}
use Rattle.chip_explore.specs.Target.{met_in}
use Rattle.chip_explore.specs.declared.target.Met.{Met}
use Rattle.chip_explore.proofs.question.met_by.Goals as goal

pub returns-in-Some : goal.returns-in-Some
returns-in-Some c =
    let p = c.args.setting.now in
    let under = rw c.in-Some.is at c.in_ok-machine.ensures.under in
    IfSome_then c.met_in.result c.met_in.ensures.some
    (λ (met : Met) (meets : met_in p.target c.in-Some.machine ≡ Some met).
    record { meets = ap (met_in p.target) (sym under.reached) ∙ meets; allowed_only = under.allowed_only })
