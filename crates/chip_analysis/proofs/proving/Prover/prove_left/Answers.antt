use Rattle.std.proofs.lemmas.Result.{err_from_is_err_and}
use Rattle.std.proofs.Common.{rules, ◌≡◌, ◌∙◌, ◌||◌, Bool, ap, refl, sym, Err}
use Rattle.chip_analysis.specs.Proving.{proof_ending}
use Rattle.chip_host.specs.declared.ending.Ending.{Ending}
use Rattle.chip_host.specs.declared.ending.Failure.TheVariants as failure
use Rattle.chip_analysis.proofs.ProvingLemmas.{from_all, from_ended, from_short, from_stopped, from_unfound, from_unreported}
use Rattle.chip_analysis.proofs.proving.Prover.prove_left.Goals as goal

by_faults : (is_short is_bad was faulty : Bool) → was ≡ faulty → (ending : Ending) → ending ≡ proof_ending is_short (was || is_bad) →
    ending ≡ proof_ending is_short (faulty || is_bad)
by_faults is_short is_bad was faulty same ending is = is ∙ ap (λ (b : Bool). proof_ending is_short (b || is_bad)) same

pub returns-in_err-find_folder : goal.returns-in_err-find_folder
returns-in_err-find_folder g c = λ asked is faults faulty reported.
    let p = c.args.self.now in
    let e = err_from_is_err_and c.from_residual.result c.from_residual.ensures.1 in
    from_unfound p.arguments.now p.source.now.lines p.rate p.keys p.start.now g.O.Write.contents asked faults c.args.reports.now reported c.args.output.now
    c.args.output.now c.from_residual.result _ (e.1 ∙ ap (λ why. Err why) e.2) refl c.in_err-find_folder.ensures

pub returns-in_err-print : goal.returns-in_err-print
returns-in_err-print g c = λ asked is faults faulty reported.
    let p = c.args.self.now in
    let e = err_from_is_err_and c.from_residual-in_err-print.result c.from_residual-in_err-print.ensures.1 in
    from_unreported p.arguments.now p.source.now.lines p.rate p.keys p.start.now g.O.Write.contents asked faults c.args.reports.now reported c.args.output.now
    c.print.new.output c.from_residual-in_err-print.result _ (e.1 ∙ ap (λ why. Err why) e.2) c.in_err-print.ensures

pub returns-in_err-told : goal.returns-in_err-told
returns-in_err-told g c = λ asked is faults faulty reported.
    let p = c.args.self.now in
    let e = err_from_is_err_and c.from_residual-in_err-told.result c.from_residual-in_err-told.ensures.1 in
    from_stopped p.arguments.now p.source.now.lines p.rate p.keys p.start.now g.O.Write.contents asked faults c.args.reports.now reported c.args.output.now
    c.print.new.output c.answer.new.output _ _ c.answer.result c.from_residual-in_err-told.result _ c.in_ok-print.ensures.1 c.in_err-told.was
    (e.1 ∙ ap (λ why. Err why) e.2) (c.answer.ensures asked is)

pub returns-in_err-text : goal.returns-in_err-text
returns-in_err-text g c = λ asked is faults faulty reported.
    let p = c.args.self.now in
    let short : c.from_residual-in_err-text.result ≡ Err failure.OutOfMemory = search rules in
    from_short p.arguments.now p.source.now.lines p.rate p.keys p.start.now g.O.Write.contents asked faults c.args.reports.now reported c.args.output.now
    c.print.new.output c.answer.new.output c.in_ok-told.told c.in_ok-print.ensures.1 (c.in_ok-told.ensures asked is) c.from_residual-in_err-text.result short

pub returns-in_err-ending : goal.returns-in_err-ending
returns-in_err-ending g c = λ asked is faults faulty reported.
    let p = c.args.self.now in
    let e = err_from_is_err_and c.from_residual-in_err-ending.result c.from_residual-in_err-ending.ensures.1 in
    from_ended p.arguments.now p.source.now.lines p.rate p.keys p.start.now g.O.Write.contents asked faults c.args.reports.now reported c.args.output.now
    c.print.new.output c.answer.new.output c.in_ok-told.told c.in_ok-print.ensures.1 (c.in_ok-told.ensures asked is) c.print-2.new.output c.deref.result.now
    (rw (c.deref.ensures.value) c.in_ok-text.ensures) c.ending.result c.from_residual-in_err-ending.result (by_faults c.in_ok-told.told.is_short c.in_ok-told.told.is_bad c.args.is_faulty _ faulty _ c.ending.ensures) (rw (e.1 ∙ ap (λ why. Err why) e.2) c.in_err-ending.ensures)

pub returns : goal.returns
returns g c = λ asked is faults faulty reported.
    let p = c.args.self.now in
    from_all p.arguments.now p.source.now.lines p.rate p.keys p.start.now g.O.Write.contents asked faults c.args.reports.now reported c.args.output.now
    c.print.new.output c.answer.new.output c.in_ok-told.told c.in_ok-print.ensures.1 (c.in_ok-told.ensures asked is) c.print-2.new.output c.deref.result.now
    (rw (c.deref.ensures.value) c.in_ok-text.ensures) c.in_ok-ending.ending c.ending.result c.end.result
    (by_faults c.in_ok-told.told.is_short c.in_ok-told.told.is_bad c.args.is_faulty _ faulty _ c.ending.ensures) c.in_ok-ending.ensures.0 c.in_ok-ending.ensures.1 c.end.ensures.ok c.end.ensures.err
