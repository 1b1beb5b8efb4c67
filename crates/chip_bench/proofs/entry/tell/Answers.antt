use Rattle.chip_host.specs.Printing.{Prints}
use Rattle.chip_bench.specs.Printing.{printed_table}
use Rattle.chip_host.proofs.OpenedLemmas.{opened_lines, unopened_lines}
use Rattle.chip_bench.proofs.entry.tell.Goals as goal

pub returns-in-Ok : goal.returns-in-Ok
returns-in-Ok g c =
    opened_lines g.O.Write.contents c.args.output.now c.deliver-ended.new.output c.args.bytes.items c.deliver-ended.result
    (λ lines. Prints g.O.Write.contents c.args.output.now c.deliver-ended.new.output (printed_table c.args.given.table c.args.given.is_hex lines))
    c.in-Ok.opened.lines c.in-Ok.ensures.ok.0 c.in-Ok.ensures.ok.1
    (c.deliver-ended.ensures.wanted (printed_table c.args.given.table c.args.given.is_hex c.in-Ok.opened.lines) c.tabulate-answer.ensures)

pub returns-in-Err : goal.returns-in-Err
returns-in-Err g c =
    unopened_lines g.O.Write.contents c.args.output.now c.refuse_source-ended.new.output c.args.bytes.items c.refuse_source-ended.result
    (λ lines. Prints g.O.Write.contents c.args.output.now c.refuse_source-ended.new.output (printed_table c.args.given.table c.args.given.is_hex lines))
    _ c.in-Err.ensures.err c.refuse_source-ended.ensures (λ e same. rw e same)
