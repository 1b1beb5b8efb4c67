use Rattle.std.proofs.Common.{◌≡◌, ◌∷◌, ◌++◌, ◌∙◌, sym}
use Rattle.chip_trace.specs.Json.{json_line_of, json_member}
use Rattle.chip_trace.specs.inner.Usual.{first_columns}
use Rattle.chip_trace.specs.declared.column.Column.{Column}
use Rattle.chip_trace.proofs.Joined.{enclosed_more}
use Rattle.chip_trace.proofs.Usual.{object_after}
use Rattle.chip_trace.proofs.json.push_object.Goals as goal

pub returns-in-Some : goal.returns-in-Some
returns-in-Some c =
    let columns : c.args.columns.now ≡ first_columns ++ c.in-Some.others.now = c.in-Some.ensures in
    let whole = object_after c.args.text.now.items c.args.step c.args.machine.now c.args.is_last c.in-Some.others.now in
    rw (columns, ← whole, ← c.reserve.ensures.items, ← c.in_ok-push_first_members.ensures c.args.is_last) c.push_others.ensures

pub returns : goal.returns
unfolding json_line_of
returns c =
    let columns : c.args.columns.now ≡ c.in-Some-split_first.first.now ∷ c.in-Some-split_first.others.now = sym c.as_slice.ensures ∙ c.in-Some-split_first.ensures.cases.0 in
    let whole = enclosed_more 123 44 125 (λ (column : Column). json_member column c.args.step c.args.machine.now c.args.is_last) c.args.text.now.items c.in-Some-split_first.first.now c.in-Some-split_first.others.now in
    rw (columns, ← whole, ← c.reserve.ensures.items, ← c.in_ok-push_member.ensures) c.push_others-2.ensures
