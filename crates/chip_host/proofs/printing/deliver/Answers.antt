use Rattle.std.proofs.Common.{refl, subst}
use Rattle.chip_host.specs.Printing.{Printed, Prints}
use Rattle.chip_host.proofs.printing.deliver.Goals as goal

pub returns-in-Ok-clause-wanted : goal.returns-in-Ok-clause-wanted
returns-in-Ok-clause-wanted g c = λ wanted is.
    let same = rw c.in-Ok.is at is in
    subst (λ (w : Printed). Prints g.O.Write.contents c.args.output.now c.print.new.output w c.print.result) same
    (rw c.deref.ensures.value at c.print.ensures)

pub returns-in-Err-clause-wanted : goal.returns-in-Err-clause-wanted
returns-in-Err-clause-wanted g c = λ wanted is. refl
