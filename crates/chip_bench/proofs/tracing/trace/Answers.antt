use Rattle.std.proofs.lemmas.Result.{err_from_is_err_and}
use Rattle.std.proofs.Common.{rules, ◌≡◌, ◌∙◌, ap, refl, subst, Err, None, Some, List, ℕ, inl, inr}
use Rattle.std.specs.Str.Lines.{lines}
use Rattle.chip_trace.specs.Header.{header_fault}
use Rattle.chip_trace.specs.declared.form.Form.TheVariants.{Fields}
use Rattle.chip_bench.specs.Doing.{ShowsTrace, TracesBeside, shown_by}
use Rattle.chip_bench.specs.Printing.{WithSession}
use Rattle.chip_host.specs.Endings.{IsUnreadWithin}
use Rattle.chip_bench.specs.Tracing.{below_machine, header_of, lines_after}
use Rattle.chip_host.specs.declared.ending.Failure.TheVariants as failure
use Rattle.chip_host.specs.declared.limits.TheConstants.{TRACE_FILE_BYTES}
use Rattle.chip_bench.specs.declared.tracing.Shown.{Shown}
use Rattle.chip_host.proofs.ReadingLemmas.{fails}
use Rattle.chip_bench.proofs.DoingLemmas.{traces, traces_not}
use Rattle.chip_bench.proofs.tracing.trace.Goals as goal

pub returns-in_err-asked : goal.returns-in_err-asked
returns-in_err-asked g c =
    let p = err_from_is_err_and c.from_residual.result c.from_residual.ensures.1 in
    traces_not g.I.Read.remaining g.O.Write.contents c.args.input.now c.read_asked.new.input c.args.output.now c.args.output.now c.args.arguments.now
    _ c.from_residual.result refl (p.1 ∙ ap (λ e. Err e) p.2) c.in_err-asked.ensures.err

pub returns-in_default : goal.returns-in_default
returns-in_default g c =
    let asked = c.in_ok-asked.asked in
    let arguments = c.args.arguments.now in
    let new = c.trace_source.new.output in
    let shown = c.shown_by-shown.ensures ∙ ap (shown_by arguments) c.in_ok-columns.ensures in
    traces g.I.Read.remaining g.O.Write.contents c.args.input.now c.read_asked.new.input c.args.output.now new arguments asked c.trace_source.result
    c.in_ok-asked.ensures.ok
    (rw c.in_default.is
    (subst (λ (s : Shown). WithSession g.O.Write.contents c.args.output.now new asked.settings asked.source.items asked.keys.bytes.items
    (ShowsTrace g.O.Write.contents c.args.output.now new s None) c.trace_source.result) shown c.trace_source.ensures))

pub returns-in_err-trace : goal.returns-in_err-trace
returns-in_err-trace g c =
    let p = err_from_is_err_and c.from_residual-in_err-trace.result c.from_residual-in_err-trace.ensures.1 in
    traces g.I.Read.remaining g.O.Write.contents c.args.input.now c.read_asked.new.input c.args.output.now c.args.output.now c.args.arguments.now
    c.in_ok-asked.asked c.from_residual-in_err-trace.result c.in_ok-asked.ensures.ok
    (rw c.in-Some.is (inr (fails (IsUnreadWithin TRACE_FILE_BYTES c.in-Some.name) _ _ (p.1 ∙ ap (λ e. Err e) p.2) c.in_err-trace.ensures.err, refl)))

pub returns-in-Ok : goal.returns-in-Ok
returns-in-Ok g c =
    let asked = c.in_ok-asked.asked in
    let arguments = c.args.arguments.now in
    let new = c.trace_source-in-Ok.new.output in
    let ended = c.trace_source-in-Ok.result in
    let theirs = lines c.deref.result.now in
    let header = rw c.split_header.ensures.header at c.in-Ok.ensures.named in
    let shown = ap (λ (s : Shown). record s { form = Fields }) c.shown_by.ensures in
    let rest =
    subst (λ (ls : List (List ℕ)). WithSession g.O.Write.contents c.args.output.now new asked.settings asked.source.items asked.keys.bytes.items
    (ShowsTrace g.O.Write.contents c.args.output.now new (record c.shown_by.result { form = Fields }) (Some ls)) ended) c.split_header.ensures.rest c.trace_source-in-Ok.ensures in
    let compared =
    subst (λ (s : Shown). WithSession g.O.Write.contents c.args.output.now new asked.settings asked.source.items asked.keys.bytes.items
    (ShowsTrace g.O.Write.contents c.args.output.now new s (Some (lines_after (below_machine theirs)))) ended) shown rest in
    let beside : TracesBeside g.O.Write.contents c.args.output.now new arguments asked.settings asked.keys.bytes.items asked.source.items c.in-Some.name theirs ended =
    inl (c.in-Ok.columns, header, compared) in
    traces g.I.Read.remaining g.O.Write.contents c.args.input.now c.read_asked.new.input c.args.output.now new arguments asked ended c.in_ok-asked.ensures.ok
    (rw c.in-Some.is (inl (c.in_ok-trace.trace.items, c.in_ok-trace.ensures.ok, rw c.deref.ensures.value at beside)))

pub returns : goal.returns
unfolding header_fault
returns g c =
    let asked = c.in_ok-asked.asked in
    let read : header_fault c.split_header.result.0.now ≡ Some c.in-Err.fault = search rules in
    let fault : header_fault (header_of (below_machine (lines c.deref.result.now))) ≡ Some c.in-Err.fault = rw c.split_header.ensures.header at read in
    let beside : TracesBeside g.O.Write.contents c.args.output.now c.args.output.now c.args.arguments.now asked.settings asked.keys.bytes.items asked.source.items c.in-Some.name
    (lines c.deref.result.now) (Err (failure.BadTrace c.in-Some.name c.in-Err.fault)) = inr (inl (c.in-Err.fault, fault, (refl, refl))) in
    traces g.I.Read.remaining g.O.Write.contents c.args.input.now c.read_asked.new.input c.args.output.now c.args.output.now c.args.arguments.now asked
    (Err (failure.BadTrace c.in-Some.name c.in-Err.fault)) c.in_ok-asked.ensures.ok
    (rw c.in-Some.is (inl (c.in_ok-trace.trace.items, c.in_ok-trace.ensures.ok, rw c.deref.ensures.value at beside)))
