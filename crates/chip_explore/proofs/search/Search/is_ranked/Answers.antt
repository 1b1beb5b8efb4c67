use Rattle.std.proofs.Common.{rules, inl, inr, arith}
use Rattle.chip_explore.specs.declared.limits.TheConstants.{MOST_QUIET_STEPS}
use Rattle.chip_explore.specs.inner.Cover.{view_of}
use Rattle.chip_explore.specs.inner.Ranks.{rank_at}
use Rattle.chip_explore.proofs.search.Search.is_ranked.Goals as goal

pub returns-in-AtGoals-clause-ranked : goal.returns-in-AtGoals-clause-ranked
returns-in-AtGoals-clause-ranked c = λ yes.
    let ranks = c.args.ranks.now in
    let rank = rank_at ranks c.args.place in
    let arrives = rw c.in-AtGoals.is at c.climb-climb.ensures.way in
    let climbs = c.climb-climb.ensures.path (view_of c.is_at_goals.new.self.members) ranks rank (inl arrives) in
    rw (← c.is_at_goals.ensures.same) (record {
      small = omega (arith, (c.type_inv.ranks c.args.place).fits);
      climbs = c.in_ok-step_from.ensures.path (search rules) ranks rank MOST_QUIET_STEPS (rw c.step-step.ensures at climbs);
    })

pub returns-else-ranks-next-clause-ranked : goal.returns-else-ranks-next-clause-ranked
returns-else-ranks-next-clause-ranked c = λ yes.
    let ranks = c.args.ranks.now in
    let rank = rank_at ranks c.args.place in
    let at = rw (c.in-Some.is, c.in_ok-step_from.ensures.same) at c.in_ok-next-in-Joined.ensures.place in
    let climbs = c.climb-climb.ensures.path (view_of c.is_at_goals.new.self.members) ranks rank
    (inr (record { place = c.in-Some.next; at = at; less = omega (arith, c.if-ranks-next.false) })) in
    rw (← c.is_at_goals.ensures.same) (record {
      small = omega (arith, (c.type_inv.ranks c.args.place).fits);
      climbs = c.in_ok-step_from.ensures.path (search rules) ranks rank MOST_QUIET_STEPS (rw c.step-step.ensures at climbs);
    })
