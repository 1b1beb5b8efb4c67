use Rattle.std.proofs.lemmas.Result.{err_from_is_err_and}
use Rattle.std.proofs.Common.{◌≡◌, ◌∙◌, ap, refl, inl, inr, true, false, Err}
use Rattle.chip_bench.specs.Doing.{IsUnexplained}
use Rattle.chip_host.specs.Printing.{Prints, printed, printed_by}
use Rattle.chip_bench.specs.Printing.{printed_table}
use Rattle.chip_bench.specs.declared.output.Table.TheVariants.{Listing, Symbols}
use Rattle.chip_host.specs.declared.ending.Ending.TheVariants.{Done}
use Rattle.chip_bench.proofs.DoingLemmas.{does_it, tells, tells_not}
use Rattle.chip_host.proofs.ReadingLemmas.{fails, given_else, given_then}
use Rattle.chip_bench.proofs.entry.perform.Goals as goal

pub returns-in-Debug : goal.returns-in-Debug
returns-in-Debug g c =
    does_it g.I.Read.remaining g.O.Write.contents c.args.input.now c.debug.new.input c.args.output.now c.debug.new.output c.args.system.now.host.takes_color c.args.line.now _ c.debug.result
    c.in-Debug.is c.debug.ensures

pub returns-in-Asm : goal.returns-in-Asm
returns-in-Asm g c =
    does_it g.I.Read.remaining g.O.Write.contents c.args.input.now c.asm.new.input c.args.output.now c.asm.new.output c.args.system.now.host.takes_color c.args.line.now _ c.asm.result
    c.in-Asm.is c.asm.ensures.did

pub returns-in_err-bytes-in-List : goal.returns-in_err-bytes-in-List
returns-in_err-bytes-in-List g c =
    let output = c.args.output.now in
    let p = err_from_is_err_and c.from_residual.result c.from_residual.ensures.1 in
    does_it g.I.Read.remaining g.O.Write.contents c.args.input.now c.read_given.new.input output output c.args.system.now.host.takes_color c.args.line.now _ c.from_residual.result
    c.in-List.is
    (tells_not g.I.Read.remaining g.O.Write.contents c.args.input.now c.read_given.new.input output (printed_table Listing c.in-List.is_hex) c.in-List.is_image c.in-List.source
    c.from_residual.result _ (p.1 ∙ ap (λ e. Err e) p.2) c.in_err-bytes-in-List.ensures.err)

pub returns-in_ok-bytes-in-List : goal.returns-in_ok-bytes-in-List
returns-in_ok-bytes-in-List g c =
    let output = c.args.output.now in
    let new = c.tell.new.output in
    does_it g.I.Read.remaining g.O.Write.contents c.args.input.now c.read_given.new.input output new c.args.system.now.host.takes_color c.args.line.now _ c.tell.result
    c.in-List.is
    (tells g.I.Read.remaining g.O.Write.contents c.args.input.now c.read_given.new.input output new (printed_table Listing c.in-List.is_hex) c.in-List.is_image c.in-List.source
    c.in_ok-bytes-in-List.bytes.items c.tell.result c.in_ok-bytes-in-List.ensures.ok c.tell.ensures)

pub returns-in_err-bytes-in-Syms : goal.returns-in_err-bytes-in-Syms
returns-in_err-bytes-in-Syms g c =
    let output = c.args.output.now in
    let p = err_from_is_err_and c.from_residual-in_err-bytes-in-Syms.result c.from_residual-in_err-bytes-in-Syms.ensures.1 in
    does_it g.I.Read.remaining g.O.Write.contents c.args.input.now c.read_source.new.input output output c.args.system.now.host.takes_color c.args.line.now _ c.from_residual-in_err-bytes-in-Syms.result
    c.in-Syms.is
    (tells_not g.I.Read.remaining g.O.Write.contents c.args.input.now c.read_source.new.input output (printed_table Symbols c.in-Syms.is_hex) false c.in-Syms.source
    c.from_residual-in_err-bytes-in-Syms.result _ (p.1 ∙ ap (λ e. Err e) p.2) (inr (c.in_err-bytes-in-Syms.ensures.err, tt)))

pub returns-in_ok-bytes-in-Syms : goal.returns-in_ok-bytes-in-Syms
returns-in_ok-bytes-in-Syms g c =
    let output = c.args.output.now in
    let new = c.tell-in-Syms.new.output in
    let bytes = c.in_ok-bytes-in-Syms.bytes.items in
    does_it g.I.Read.remaining g.O.Write.contents c.args.input.now c.read_source.new.input output new c.args.system.now.host.takes_color c.args.line.now _ c.tell-in-Syms.result
    c.in-Syms.is
    (tells g.I.Read.remaining g.O.Write.contents c.args.input.now c.read_source.new.input output new (printed_table Symbols c.in-Syms.is_hex) false c.in-Syms.source
    bytes c.tell-in-Syms.result (inl (bytes, c.in_ok-bytes-in-Syms.ensures.ok, refl)) c.tell-in-Syms.ensures)

pub returns-in-Check : goal.returns-in-Check
returns-in-Check g c =
    does_it g.I.Read.remaining g.O.Write.contents c.args.input.now c.check.new.input c.args.output.now c.check.new.output c.args.system.now.host.takes_color c.args.line.now _ c.check.result
    c.in-Check.is c.check.ensures

pub returns-in_err-source-in-Dis : goal.returns-in_err-source-in-Dis
returns-in_err-source-in-Dis g c =
    let output = c.args.output.now in
    let p = err_from_is_err_and c.from_residual-in_err-source-in-Dis.result c.from_residual-in_err-source-in-Dis.ensures.1 in
    does_it g.I.Read.remaining g.O.Write.contents c.args.input.now c.read_given-in-Dis.new.input output output c.args.system.now.host.takes_color c.args.line.now _ c.from_residual-in_err-source-in-Dis.result
    c.in-Dis.is
    (given_else g.I.Read.remaining c.args.input.now c.read_given-in-Dis.new.input (output ≡ output) true c.in-Dis.image
    (λ source. Prints g.O.Write.contents output output (printed source Done)) c.from_residual-in_err-source-in-Dis.result refl _ (p.1 ∙ ap (λ e. Err e) p.2)
    c.in_err-source-in-Dis.ensures.err)

pub returns-in_ok-source-in-Dis : goal.returns-in_ok-source-in-Dis
returns-in_ok-source-in-Dis g c =
    let output = c.args.output.now in
    let new = c.print.new.output in
    does_it g.I.Read.remaining g.O.Write.contents c.args.input.now c.read_given-in-Dis.new.input output new c.args.system.now.host.takes_color c.args.line.now _ c.print.result
    c.in-Dis.is
    (given_then g.I.Read.remaining c.args.input.now c.read_given-in-Dis.new.input (new ≡ output) true c.in-Dis.image
    (λ source. Prints g.O.Write.contents output new (printed source Done)) c.print.result c.in_ok-source-in-Dis.source.items c.in_ok-source-in-Dis.ensures.ok
    (rw c.deref.ensures.value at c.print.ensures))

pub returns-in-Run : goal.returns-in-Run
returns-in-Run g c =
    does_it g.I.Read.remaining g.O.Write.contents c.args.input.now c.run.new.input c.args.output.now c.run.new.output c.args.system.now.host.takes_color c.args.line.now _ c.run.result
    c.in-Run.is c.run.ensures

pub returns-in-Trace : goal.returns-in-Trace
returns-in-Trace g c =
    does_it g.I.Read.remaining g.O.Write.contents c.args.input.now c.trace.new.input c.args.output.now c.trace.new.output c.args.system.now.host.takes_color c.args.line.now _ c.trace.result
    c.in-Trace.is c.trace.ensures

pub returns-in-Picture : goal.returns-in-Picture
returns-in-Picture g c =
    does_it g.I.Read.remaining g.O.Write.contents c.args.input.now c.picture.new.input c.args.output.now c.picture.new.output c.args.system.now.host.takes_color c.args.line.now _ c.picture.result
    c.in-Picture.is c.picture.ensures

pub returns-in-Test : goal.returns-in-Test
returns-in-Test g c =
    does_it g.I.Read.remaining g.O.Write.contents c.args.input.now c.args.input.now c.args.output.now c.test_files.new.output c.args.system.now.host.takes_color c.args.line.now _ c.test_files.result
    c.in-Test.is (c.test_files.ensures, refl)

pub returns-in_err-answer-in-Explain : goal.returns-in_err-answer-in-Explain
returns-in_err-answer-in-Explain g c =
    let p = err_from_is_err_and c.from_residual-in_err-answer-in-Explain.result c.from_residual-in_err-answer-in-Explain.ensures.1 in
    does_it g.I.Read.remaining g.O.Write.contents c.args.input.now c.args.input.now c.args.output.now c.args.output.now c.args.system.now.host.takes_color c.args.line.now _ c.from_residual-in_err-answer-in-Explain.result
    c.in-Explain.is
    (inr (fails (IsUnexplained c.in-Explain.code) c.from_residual-in_err-answer-in-Explain.result _ (p.1 ∙ ap (λ e. Err e) p.2) c.in_err-answer-in-Explain.ensures.err, refl), refl)

pub returns-in_ok-answer-in-Explain : goal.returns-in_ok-answer-in-Explain
returns-in_ok-answer-in-Explain g c =
    does_it g.I.Read.remaining g.O.Write.contents c.args.input.now c.args.input.now c.args.output.now c.deliver.new.output c.args.system.now.host.takes_color c.args.line.now _ c.deliver.result
    c.in-Explain.is
    (inl (inl (printed_by c.in_ok-answer-in-Explain.answer, c.in_ok-answer-in-Explain.ensures.ok, c.deliver.ensures.wanted (printed_by c.in_ok-answer-in-Explain.answer) refl)), refl)

pub returns-in-Explore : goal.returns-in-Explore
returns-in-Explore g c =
    does_it g.I.Read.remaining g.O.Write.contents c.args.input.now c.explore.new.input c.args.output.now c.explore.new.output c.args.system.now.host.takes_color c.args.line.now _ c.explore.result
    c.in-Explore.is c.explore.ensures

pub returns-in-Prove : goal.returns-in-Prove
returns-in-Prove g c =
    does_it g.I.Read.remaining g.O.Write.contents c.args.input.now c.prove.new.input c.args.output.now c.prove.new.output c.args.system.now.host.takes_color c.args.line.now _ c.prove.result
    c.in-Prove.is c.prove.ensures

pub returns-in-Licences : goal.returns-in-Licences
returns-in-Licences g c =
    does_it g.I.Read.remaining g.O.Write.contents c.args.input.now c.args.input.now c.args.output.now c.print-in-Licences.new.output c.args.system.now.host.takes_color c.args.line.now _ c.print-in-Licences.result
    c.in-Licences.is
    (rw (c.as_bytes.ensures.value, c.licence_text.ensures) at c.print-in-Licences.ensures, refl)
