use Rattle.std.proofs.Common.{rules, ◌≡◌, ◌∙◌, ap, subst, refl, Err, ℕ, List, arith}
use Rattle.std.proofs.lemmas.Result.{err_from_is_err_and}
use Rattle.chip_trace.specs.Form.{header_lines}
use Rattle.chip_trace.specs.Lines.{newline_ended, trace_lines}
use Rattle.chip_host.specs.Printing.{Prints, printed}
use Rattle.chip_session.specs.Answers.{machine_of}
use Rattle.chip_bench.specs.Tracing.{trace_of}
use Rattle.chip_host.specs.declared.ending.Ending.TheVariants.{Done}
use Rattle.chip_host.specs.declared.ending.Failure.TheVariants as failure
use Rattle.chip_bench.proofs.TraceLemmas.{fewer_left, none_left, short, stream_adds, stream_ends, stream_fails, stream_starts, stream_writes}
use Rattle.chip_bench.proofs.tracing.stream.Goals as goal

pub returns-in_err-push_header_lines : goal.returns-in_err-push_header_lines
returns-in_err-push_header_lines g c =
    let is_short : c.from_residual.result ≡ Err failure.OutOfMemory = search rules in
    short g.O.Write.contents c.args.output.now c.args.output.now _ c.from_residual.result is_short refl

pub loop-is_more-init : goal.loop-is_more-init
loop-is_more-init g c =
    let shown = c.args.shown.now in
    let quirks = c.args.bench.now.session.settings.quirks in
    let items : c.push_header_lines.new.text.items ≡ newline_ended (header_lines shown.form quirks shown.columns) = search rules in
    let lines = c.new-trace.ensures.lines (machine_of c.args.bench.now.session) in
    record {
      session = refl;
      streamed = rw (items, lines) (stream_starts g.O.Write.contents c.args.output.now (header_lines shown.form quirks shown.columns) (trace_lines shown.form shown.columns (machine_of c.args.bench.now.session) shown.from shown.to));
    }

pub returns-in_err-print : goal.returns-in_err-print
returns-in_err-print g c =
    let p = err_from_is_err_and c.from_residual-in_err-print.result c.from_residual-in_err-print.ensures.1 in
    let lines = rw c.loop-is_more.invariant.session at c.in-Ok.ensures.lines in
    let streamed = stream_adds g.O.Write.contents c.args.output.now c.loop-is_more.output (trace_of c.args.bench.now.session c.args.shown.now) _ _ _ _ 256 c.loop-is_more.invariant.streamed lines.added lines.left in
    rw (p.1 ∙ ap (λ e. Err e) p.2) (stream_fails g.O.Write.contents c.args.output.now c.loop-is_more.output c.print.new.output _ _ _ _ streamed (subst (λ (l : List ℕ). Prints g.O.Write.contents c.loop-is_more.output c.print.new.output (printed l Done) (Err c.in_err-print.field-0.0)) c.deref.ensures.value c.in_err-print.ensures))

pub returns-then-not-is_more : goal.returns-then-not-is_more
returns-then-not-is_more g c =
    let lines = rw c.loop-is_more.invariant.session at c.in-Ok.ensures.lines in
    let streamed = stream_adds g.O.Write.contents c.args.output.now c.loop-is_more.output (trace_of c.args.bench.now.session c.args.shown.now) _ _ _ _ 256 c.loop-is_more.invariant.streamed lines.added lines.left in
    let printed = rw c.deref.ensures.value at c.in_ok-print.ensures in
    let written = stream_writes g.O.Write.contents c.args.output.now c.loop-is_more.output c.print.new.output _ _ _ streamed printed.1 in
    (refl, stream_ends g.O.Write.contents c.args.output.now c.print.new.output _ _ written (lines.left ∙ none_left _ 256 _ c.if-not-is_more.true lines.answer))

pub loop-is_more-smaller : goal.loop-is_more-smaller
loop-is_more-smaller g c =
    let lines = c.in-Ok.ensures.lines in
    rw c.in-Ok.ensures.session (fewer_left _ _ 256 _ c.if-not-is_more.false (omega arith) lines.answer lines.left)

pub loop-is_more-preserved : goal.loop-is_more-preserved
loop-is_more-preserved g c =
    let lines = rw c.loop-is_more.invariant.session at c.in-Ok.ensures.lines in
    let streamed = stream_adds g.O.Write.contents c.args.output.now c.loop-is_more.output (trace_of c.args.bench.now.session c.args.shown.now) _ _ _ _ 256 c.loop-is_more.invariant.streamed lines.added lines.left in
    let printed = rw c.deref.ensures.value at c.in_ok-print.ensures in
    record {
      session = c.in-Ok.ensures.session ∙ c.loop-is_more.invariant.session;
      streamed = rw c.clear.ensures.items (stream_writes g.O.Write.contents c.args.output.now c.loop-is_more.output c.print.new.output _ _ _ streamed printed.1);
    }
