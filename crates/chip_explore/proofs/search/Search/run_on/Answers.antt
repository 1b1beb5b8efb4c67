use Rattle.std.proofs.Common.{inl, arith}
use Rattle.chip_explore.specs.inner.Cover.{view_of}
use Rattle.chip_explore.proofs.Growth.{goes_more, goes_noted}
use Rattle.chip_explore.proofs.search.Search.run_on.Goals as goal

pub lower_limit-requires : goal.lower_limit-requires
lower_limit-requires c =
    let noted = goes_noted c.args.setting.now c.args.self.now.members c.requires.holds c.run-leg.new.executed c.run-leg.ensures.grows in
    record { holds = noted.holds }

pub lower_limit-requires-in-Wanted : goal.lower_limit-requires-in-Wanted
lower_limit-requires-in-Wanted c =
    let noted = goes_noted c.args.setting.now c.args.self.now.members c.requires.holds c.run-leg.new.executed c.run-leg.ensures.grows in
    record { holds = noted.holds }

pub join-joined-requires-clause-holds : goal.join-joined-requires-clause-holds
join-joined-requires-clause-holds c =
    let noted = goes_noted c.args.setting.now c.args.self.now.members c.requires.holds c.run-leg.new.executed c.run-leg.ensures.grows in
    noted.holds

pub returns-in-Some-clause-adds : goal.returns-in-Some-clause-adds
returns-in-Some-clause-adds c =
    record { goes = goes_noted c.args.setting.now c.args.self.now.members c.requires.holds c.run-leg.new.executed c.run-leg.ensures.grows; few = omega arith }

pub returns-then-is_err-clause-safe : goal.returns-then-is_err-clause-safe
returns-then-is_err-clause-safe c =
    let joined = c.join-joined.ensures.adds.goes in
    let lowered = c.lower_limit-then-is_err.ensures.goes in
    c.run-leg.ensures.path (view_of c.lower_limit-then-is_err.new.self)
    (λ pc h. lowered.extends.executed pc (joined.extends.executed pc h))
    (inl c.lower_limit-then-is_err.ensures.limit)

pub lower_limit-requires-in-Read : goal.lower_limit-requires-in-Read
lower_limit-requires-in-Read c =
    let noted = goes_noted c.args.setting.now c.args.self.now.members c.requires.holds c.run-leg.new.executed c.run-leg.ensures.grows in
    record { holds = noted.holds }

pub returns-then-is_err-clause-adds : goal.returns-then-is_err-clause-adds
returns-then-is_err-clause-adds c =
    let p = c.args.setting.now in
    let m = c.args.self.now.members in
    let noted = goes_noted p m c.requires.holds c.run-leg.new.executed c.run-leg.ensures.grows in
    record { goes = goes_more p m _ _ (goes_more p m _ _ noted c.join-joined.ensures.adds.goes) c.lower_limit-then-is_err.ensures.goes; few = omega arith }
