use Rattle.std.proofs.Common.{rules, ◌≡◌, Result, Ok, Err, OnOk, ap, arith, inr, subst}
use Rattle.chip_explore.specs.declared.members.Members.{Members}
use Rattle.chip_explore.specs.inner.Cover.{Adds, view_of}
use Rattle.chip_explore.proofs.Growth.{goes_up_to, still_at}
use Rattle.chip_explore.proofs.search.Search.join_erased.Goals as goal
use Rattle.chip_explore.proofs.search.Search.join_erased.Goals.{in_default-via-in-None-1, in_default-via-in-Some+in_ok-is_at+else-branch}

whatever : {T E P : Type 0} (result : Result T E) → P → OnOk result P
whatever (Ok value) holds = holds
whatever (Err error) holds = tt

pub returns-then-step-before-clause-joins : goal.returns-then-step-before-clause-joins
returns-then-step-before-clause-joins c =
    whatever c.note_earlier.result
    (inr (record {
      place = c.in-Some.place;
      early = omega (arith, c.lower.ensures.step);
      at = still_at c.args.setting.now (view_of c.args.self.now.members) (view_of c.lower.new.self) c.lower.ensures.goes.extends _ _ _ _ (c.in_ok-is_at.ensures (search rules));
    }))

pub returns-clause-joins : goal.returns-clause-joins
returns-clause-joins c =
    inr (record { place = c.in-Some.place; early = omega arith; at = c.in_ok-is_at.ensures (search rules) })

pub returns-2-clause-joins : goal.returns-2-clause-joins
returns-2-clause-joins c = whatever c.note.result (inr (c.in_ok-add.ensures.joins (search rules)))

pub returns-then-not-branch-clause-adds : goal.returns-then-not-branch-clause-adds
returns-then-not-branch-clause-adds c =
    let p = c.args.setting.now in
    let m = c.args.self.now.members in
    let same : c.in_default.self.1.0 ≡ m =
    elim c.in_default.branch [
      | in_default-via-in-None-1 w ↦ ap (λ there. there.1.0) w.self-is
      | in_default-via-in-Some+in_ok-is_at+else-branch w ↦ ap (λ there. there.1.0) w.self-is
    ] in
    let adds : Adds p m c.add.new.self 1 = subst (λ (m : Members). Adds p m c.add.new.self 1) same c.in_ok-add.ensures.adds in
    goes_up_to p m c.add.new.self _ _ adds.goes c.lower_limit.ensures.goes (omega arith)
