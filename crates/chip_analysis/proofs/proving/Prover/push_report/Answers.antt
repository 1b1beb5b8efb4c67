use Rattle.std.proofs.Common.{◌∙◌, [], sym}
use Rattle.std.proofs.lemmas.List.{append-nil}
use Rattle.chip_check.specs.PropertyFaults.{printed_as}
use Rattle.chip_analysis.proofs.ProveLemmas.{reported_by, unasked, unlined}
use Rattle.chip_analysis.proofs.proving.Prover.push_report.Goals as goal

pub returns-then-not-is_asked : goal.returns-then-not-is_asked
returns-then-not-is_asked g c =
    ([], unasked _ c.args.fault.now _ _ (sym c.is_asked.ensures ∙ c.if-not-is_asked.true), sym (append-nil c.args.text.now.items))

pub returns-in_default : goal.returns-in_default
returns-in_default g c = ([], unlined _ c.args.fault.now _ _ c.in_default.ensures.value, sym (append-nil c.args.text.now.items))

pub returns : goal.returns
returns g c =
    let arguments = c.args.self.now.arguments.now in
    let told = rw (c.as_bytes-name.ensures.value) at c.push_property_fault.ensures in
    reported_by (printed_as arguments.is_json arguments.search.source.now) c.args.fault.now c.push_property_fault.result _ _ c.in-Some.line _ c.args.text.now.items
    c.push_property_fault.new.text.items (sym c.is_asked.ensures ∙ c.if-not-is_asked.false) c.in-Some.ensures.value c.text.ensures told
