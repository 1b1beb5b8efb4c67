use Rattle.std.proofs.Common.{rules}
use Rattle.chip_explore.proofs.prospect.foreseen_by.Goals as goal

pub returns-then-branch : goal.returns-then-branch
returns-then-branch g c =
    let like = c.in_ok-searched.ensures in
    rw c.of-then-branch.ensures (λ n far.
    rw (← like.searched.begins, ← like.same.rate, ← like.same.allowed, ← like.same.goals) (rw c.of-then-is_whole-2.ensures at (c.in_ok-always_can.ensures.always (search rules) n far)))

pub returns : goal.returns
returns g c = c.in_ok-verdict.ensures (search (rules, c.if-not-verdict.false))
