use Rattle.std.proofs.Common.{sym, subst}
use Rattle.chip_asm.specs.inner.Infos.{AreInfos}
use Rattle.chip_asm.proofs.InfoSteps.{infos-push}
use Rattle.chip_asm.proofs.cut.push_line.Goals as goal

pub returns-clause-infos : goal.returns-clause-infos
returns-clause-infos c = λ all.
    subst (AreInfos c.read_part.new.table.keys) (sym c.in_ok-push.ensures.items)
    (infos-push c.args.table.now.keys c.read_part.new.table.keys c.args.lines.now.items c.in_ok-kept.kept c.read_part.ensures.keys all c.in_ok-kept.ensures.info)
