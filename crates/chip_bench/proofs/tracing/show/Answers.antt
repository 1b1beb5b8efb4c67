use Rattle.std.proofs.Common.{◌∙◌, sym}
use Rattle.std.specs.Prelude.{option_copied, option_map}
use Rattle.std.specs.Str.Lines.{lines}
use Rattle.chip_host.specs.Printing.{printed_faults}
use Rattle.chip_bench.specs.Printing.{unanswered}
use Rattle.chip_bench.specs.Tracing.{IsBeside}
use Rattle.chip_host.proofs.OpenedLemmas.{delivers_such}
use Rattle.chip_bench.proofs.TraceLemmas.{refused_trace}
use Rattle.chip_bench.proofs.tracing.show.Goals as goal

pub returns-in-Some : goal.returns-in-Some
returns-in-Some g c =
    let session = c.args.bench.now.session in
    let why = unanswered c.in-Some.why (printed_faults session.lines) in
    refused_trace g.O.Write.contents c.args.output.now c.deliver.new.output c.args.shown.now (option_map lines (option_copied c.args.theirs)) session
    c.in-Some.why c.deliver.result (sym c.refusal_of.ensures ∙ c.in-Some.is) (c.deliver.ensures.wanted why c.unanswered.ensures.answer)

pub returns-in-Some-theirs : goal.returns-in-Some-theirs
returns-in-Some-theirs g c =
    let session = c.args.bench.now.session in
    let such =
    delivers_such g.O.Write.contents c.args.output.now c.deliver-in-Some-theirs.new.output c.difference.result
    (IsBeside session c.args.shown.now (lines c.in-Some-theirs.theirs.now)) c.deliver-in-Some-theirs.result c.difference.ensures
    c.deliver-in-Some-theirs.ensures.wanted c.deliver-in-Some-theirs.ensures.short in
    rw (c.in-Some-theirs.is, sym c.refusal_of.ensures ∙ c.in_default.is) such

pub returns-in-None : goal.returns-in-None
returns-in-None g c = rw (c.in-None.is, sym c.refusal_of.ensures ∙ c.in_default.is) c.stream.ensures
