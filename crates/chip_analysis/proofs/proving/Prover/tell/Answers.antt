use Rattle.std.proofs.lemmas.Result.{err_from_is_err_and}
use Rattle.std.proofs.Common.{rules, ◌≡◌, ◌∙◌, ap, refl, subst, ℕ, List, Err}
use Rattle.chip_host.specs.Printing.{Prints, printed}
use Rattle.chip_host.specs.declared.ending.Ending.TheVariants.{Done}
use Rattle.chip_host.specs.declared.ending.Failure.TheVariants as failure
use Rattle.chip_analysis.proofs.ProvingLemmas.{all_printed, all_short}
use Rattle.chip_analysis.proofs.proving.Prover.tell.Goals as goal

pub returns-in_err-text-clause-written : goal.returns-in_err-text-clause-written
returns-in_err-text-clause-written g c =
    let short : c.from_residual.result ≡ Err failure.OutOfMemory = search rules in
    all_short g.O.Write.contents c.args.output.now c.args.output.now _ c.from_residual.result short refl

pub returns-in_err-print-clause-written : goal.returns-in_err-print-clause-written
returns-in_err-print-clause-written g c =
    let p = err_from_is_err_and c.from_residual-in_err-print.result c.from_residual-in_err-print.ensures.1 in
    all_printed g.O.Write.contents c.args.output.now c.print.new.output _ _ c.from_residual-in_err-print.result (p.1 ∙ ap (λ e. Err e) p.2)
    (subst (λ (text : List ℕ). Prints g.O.Write.contents c.args.output.now c.print.new.output (printed text Done) (Err c.in_err-print.field-0.0))
    (c.deref.ensures.value ∙ c.in_ok-text.ensures) c.in_err-print.ensures)
