use Rattle.std.proofs.Common.{rules, Result, Ok, Err, OnOk}
use Rattle.chip_explore.proofs.Growth.{ends_erased}
use Rattle.chip_explore.proofs.search.Search.join.Goals as goal

on_ok : {T E P Q : Type 0} (result : Result T E) → (P → Q) → OnOk result P → OnOk result Q
on_ok (Ok value) f holds = f holds
on_ok (Err error) f holds = tt

pub returns-clause-ends : goal.returns-clause-ends
returns-clause-ends c =
    let runner = c.args.self.now.runner in
    on_ok c.join_erased-joined.result
    (ends_erased c.args.setting.now c.args.self.now.members c.join_erased-joined.new.self.members c.join_erased-joined.ensures.adds.goes runner.forgotten c.parts_to_forget-parts.result runner.machine
    c.erase.new.self.machine c.args.step c.requires.fine (c.is_within.ensures (search rules)) c.erase.ensures.alike)
    c.join_erased-joined.ensures.joins
