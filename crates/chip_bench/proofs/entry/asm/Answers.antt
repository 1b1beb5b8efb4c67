use Rattle.std.proofs.lemmas.Result.{err_from_is_err_and}
use Rattle.std.proofs.Common.{◌∙◌, ap, Err}
use Rattle.chip_asm.specs.Lines.{lines_of}
use Rattle.chip_asm.specs.Program.{image_of}
use Rattle.chip_bench.specs.Doing.{WritesBy}
use Rattle.chip_host.specs.Printing.{ending_with, printed_faults}
use Rattle.chip_bench.proofs.DoingLemmas.{assembles_unread}
use Rattle.chip_bench.proofs.SessionLemmas.{image_written, not_done, writes_short}
use Rattle.chip_host.proofs.OpenedLemmas.{of_opened, of_unopened}
use Rattle.chip_bench.proofs.entry.asm.Goals as goal

pub returns-in_err-bytes-clause-did : goal.returns-in_err-bytes-clause-did
returns-in_err-bytes-clause-did g c =
    let p = err_from_is_err_and c.from_residual.result c.from_residual.ensures.1 in
    assembles_unread g.I.Read.remaining g.O.Write.contents c.args.input.now c.read_source.new.input c.args.output.now c.args.source c.args.image
    c.from_residual.result _ (p.1 ∙ ap (λ e. Err e) p.2) c.in_err-bytes.ensures.err

pub returns-in-Ok-clause-did : goal.returns-in-Ok-clause-did
returns-in-Ok-clause-did g c =
    of_opened g.I.Read.remaining g.O.Write.contents c.args.input.now c.read_source.new.input c.args.output.now c.assemble-ended.new.output c.args.source
    c.in_ok-bytes.bytes.items c.assemble-ended.result (λ lines. WritesBy g.O.Write.contents c.args.output.now c.assemble-ended.new.output (ending_with (image_of lines)) (printed_faults lines) c.args.image)
    c.in-Ok.opened.lines c.in_ok-bytes.ensures.ok c.in-Ok.ensures.ok.0 c.in-Ok.ensures.ok.1 c.assemble-ended.ensures.did

pub returns-in-Ok-clause-written : goal.returns-in-Ok-clause-written
returns-in-Ok-clause-written g c = λ done.
    image_written (g.F.FileAccess.wrote c.args.system.now.files.now c.args.image.now) c.in_ok-bytes.bytes.items c.in-Ok.opened.lines c.in-Ok.ensures.ok.0
    c.in-Ok.ensures.ok.1 (c.assemble-ended.ensures.written done)

pub returns-in-Err-clause-did : goal.returns-in-Err-clause-did
returns-in-Err-clause-did g c =
    of_unopened g.I.Read.remaining g.O.Write.contents c.args.input.now c.read_source.new.input c.args.output.now c.refuse_source-ended.new.output c.args.source
    c.in_ok-bytes.bytes.items c.refuse_source-ended.result (λ lines. WritesBy g.O.Write.contents c.args.output.now c.refuse_source-ended.new.output (ending_with (image_of lines)) (printed_faults lines) c.args.image)
    c.in-Err.error c.in_ok-bytes.ensures.ok c.in-Err.ensures.err c.refuse_source-ended.ensures
    (writes_short g.O.Write.contents c.args.output.now c.refuse_source-ended.new.output (ending_with (image_of (lines_of c.in_ok-bytes.bytes.items)))
    (printed_faults (lines_of c.in_ok-bytes.bytes.items)) c.args.image c.refuse_source-ended.result)

pub returns-in-Err-clause-written : goal.returns-in-Err-clause-written
returns-in-Err-clause-written g c = λ done.
    absurd (not_done g.O.Write.contents c.args.output.now c.refuse_source-ended.new.output c.in-Err.error c.refuse_source-ended.result c.refuse_source-ended.ensures done)
