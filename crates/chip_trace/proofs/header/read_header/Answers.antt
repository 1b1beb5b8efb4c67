use Rattle.std.proofs.Common.{◌∙◌, None, Some, append-nil, ap, arith, cond, inr, map, sym}
use Rattle.chip_trace.specs.declared.header.HeaderError.TheVariants.{TextNotLast}
use Rattle.chip_trace.proofs.Names.{header_is, late_fault, not_a_header, unknown_name}
use Rattle.chip_trace.proofs.header.read_header.Goals as goal

pub returns-then-not-is_header-clause-fault : goal.returns-then-not-is_header-clause-fault
returns-then-not-is_header-clause-fault c = inr (not_a_header c.args.line.now (sym c.if-not-is_header.ensures.value))

pub returns-in_default-column_of-clause-fault : goal.returns-in_default-column_of-clause-fault
returns-in_default-column_of-clause-fault c =
    let none = sym c.column_of.ensures ∙ c.in_default-column_of.is in
    let named = rw (c.in-Some.is, c.first_name.ensures.names, none) at c.loop-left.invariant in
    inr (unknown_name c.args.line.now c.loop-left.columns.items _ c.len.result (sym c.if-not-is_header.ensures.value) named
    (omega (arith, c.loop-left.columns.ok.0, c.len.ensures)))

pub returns-then-has_early_text-clause-fault : goal.returns-then-has_early_text-clause-fault
returns-then-has_early_text-clause-fault c =
    let named = sym (append-nil (map Some c.loop-left.columns.items)) ∙ rw c.in_default.is at c.loop-left.invariant in
    let early = rw c.deref.ensures.value at c.has_early_text.ensures in
    inr (late_fault c.args.line.now c.loop-left.columns.items _ (sym c.if-not-is_header.ensures.value) named early
    ∙ ap (λ b. cond b (Some TextNotLast) None) c.if-has_early_text.true)

pub returns-clause-named : goal.returns-clause-named
returns-clause-named c =
    let named = sym (append-nil (map Some c.loop-left.columns.items)) ∙ rw c.in_default.is at c.loop-left.invariant in
    header_is c.args.line.now c.loop-left.columns.items (sym c.if-not-is_header.ensures.value) named

pub returns-clause-no_fault : goal.returns-clause-no_fault
returns-clause-no_fault c =
    let named = sym (append-nil (map Some c.loop-left.columns.items)) ∙ rw c.in_default.is at c.loop-left.invariant in
    let early = rw c.deref.ensures.value at c.has_early_text.ensures in
    late_fault c.args.line.now c.loop-left.columns.items _ (sym c.if-not-is_header.ensures.value) named early
    ∙ ap (λ b. cond b (Some TextNotLast) None) c.if-has_early_text.false
