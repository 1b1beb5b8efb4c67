use Rattle.std.proofs.Common.{◌≡◌, ◌++◌, ◌∷◌, ◌∙◌, sym, ℕ, List, take, take_all, append_assoc, arith, codes}
use Rattle.chip_trace.specs.Columns.{column_name}
use Rattle.chip_trace.proofs.Joined.{joined_more}
use Rattle.chip_trace.proofs.columns.Columns.push_header.Goals as goal

pub returns : goal.returns
returns c =
    let front : List ℕ = c.args.text.now.items ++ codes "# " in
    let all : take c.loop-column.column-index c.in-Some.others.now ≡ c.in-Some.others.now = take_all c.loop-column.column-index c.in-Some.others.now (omega arith) in
    let columns : c.args.self.now ≡ c.in-Some.first.now ∷ c.in-Some.others.now = sym c.self.view_is ∙ sym c.deref.ensures.value ∙ c.in-Some.ensures.cases.0 in
    rw (c.loop-column.invariant, all, c.in_ok-extend_from_slice-2.ensures.items, c.name.ensures, c.in_ok-extend_from_slice.ensures.items, columns)
    (joined_more 32 column_name front c.in-Some.first.now c.in-Some.others.now ∙ append_assoc c.args.text.now.items (codes "# ") _)
