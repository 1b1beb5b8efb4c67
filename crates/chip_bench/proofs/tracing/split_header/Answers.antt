use Rattle.std.proofs.Common.{◌≡◌, ◌∙◌, sym, true, false}
use Rattle.std.specs.Str.Lines.{lines}
use Rattle.chip_trace.specs.Machine.{names_machine}
use Rattle.chip_bench.specs.Tracing.{header_of}
use Rattle.chip_bench.proofs.TraceLemmas.{below_named, below_unnamed}
use Rattle.chip_bench.proofs.tracing.split_header.Goals as goal

pub returns-then-names_machine-clause-header : goal.returns-then-names_machine-clause-header
returns-then-names_machine-clause-header c =
    let named : names_machine (header_of (lines c.args.trace.now)) ≡ true = rw (c.split_line.ensures.first) at (sym c.names_machine.ensures ∙ c.if-names_machine.true) in
    rw (below_named (lines c.args.trace.now) named, sym c.split_line.ensures.rest) c.split_line-then-names_machine.ensures.first

pub returns-then-names_machine-clause-rest : goal.returns-then-names_machine-clause-rest
returns-then-names_machine-clause-rest c =
    let named : names_machine (header_of (lines c.args.trace.now)) ≡ true = rw (c.split_line.ensures.first) at (sym c.names_machine.ensures ∙ c.if-names_machine.true) in
    rw (below_named (lines c.args.trace.now) named, sym c.split_line.ensures.rest) c.split_line-then-names_machine.ensures.rest

pub returns-clause-header : goal.returns-clause-header
returns-clause-header c =
    let unnamed : names_machine (header_of (lines c.args.trace.now)) ≡ false = rw (c.split_line.ensures.first) at (sym c.names_machine.ensures ∙ c.if-names_machine.false) in
    rw (below_unnamed (lines c.args.trace.now) unnamed) c.split_line.ensures.first

pub returns-clause-rest : goal.returns-clause-rest
returns-clause-rest c =
    let unnamed : names_machine (header_of (lines c.args.trace.now)) ≡ false = rw (c.split_line.ensures.first) at (sym c.names_machine.ensures ∙ c.if-names_machine.false) in
    rw (below_unnamed (lines c.args.trace.now) unnamed) c.split_line.ensures.rest
