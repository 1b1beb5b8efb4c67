use Rattle.std.proofs.Common.{◌≡◌, ◌∷◌, ◌++◌, ◌∙◌, sym}
use Rattle.chip_trace.specs.Line.{field_of, line_of}
use Rattle.chip_trace.specs.inner.Usual.{first_columns}
use Rattle.chip_trace.specs.declared.column.Column.{Column}
use Rattle.chip_trace.proofs.Joined.{joined_more}
use Rattle.chip_trace.proofs.Usual.{line_after}
use Rattle.chip_trace.proofs.line.push_line.Goals as goal

pub returns-in-Some : goal.returns-in-Some
returns-in-Some c =
    let columns : c.args.columns.now ≡ first_columns ++ c.in-Some.others.now = c.in-Some.ensures in
    let whole = line_after c.args.text.now.items c.args.step c.args.machine.now c.args.is_last c.in-Some.others.now in
    rw (columns, ← whole, ← c.reserve.ensures.items, ← c.in_ok-push_first_fields.ensures c.args.is_last) c.push_others.ensures

pub returns : goal.returns
unfolding line_of
returns c =
    let columns : c.args.columns.now ≡ c.in-Some-split_first.first.now ∷ c.in-Some-split_first.others.now = sym c.as_slice.ensures ∙ c.in-Some-split_first.ensures.cases.0 in
    let whole = joined_more 32 (λ (column : Column). field_of column c.args.step c.args.machine.now c.args.is_last) c.args.text.now.items c.in-Some-split_first.first.now c.in-Some-split_first.others.now in
    rw (columns, ← whole, ← c.reserve.ensures.items, ← c.in_ok-push_field.ensures) c.push_others-2.ensures
