use Rattle.std.proofs.Common.{rules, arith, below_more}
use Rattle.chip_explore.specs.inner.Cover.{LeadsAs}
use Rattle.chip_explore.specs.inner.Delays.{read_as}
use Rattle.chip_explore.proofs.Growth.{goes_up_to, has_values_in, leads_after, leads_before}
use Rattle.chip_explore.proofs.search.Search.follow_values.Goals as goal

pub follow_as-requires-clause-reads : goal.follow_as-requires-clause-reads
follow_as-requires-clause-reads c =
    has_values_in c.args.setting.now c.args.self.now.members c.loop-value.self.members c.loop-value.invariant.grows.goes
    c.args.place c.requires.there.kept c.args.read c.requires.reads

pub loop-value-preserved : goal.loop-value-preserved
loop-value-preserved c =
    let p = c.args.setting.now in
    let l = c.args.self.now.members in
    let m = c.loop-value.self.members in
    let n = c.follow_as.new.self.members in
    let place = c.args.place in
    let step = c.args.step in
    let before = c.loop-value.invariant in
    let told = c.in_ok-follow_as.ensures in
    record {
      grows = goes_up_to p l m n _ before.grows.goes told.adds.goes (omega arith);
      leads =
          below_more (λ value. LeadsAs p l n place step value) c.loop-value.value
          (λ value below. leads_after (read_as value) p l m n told.adds.goes place step (before.leads value below))
          (leads_before (read_as c.loop-value.value) p l m n before.grows.goes place step c.requires.there.kept (told.leads (search rules)));
    }

pub returns-then-len-most_states-clause-grows : goal.returns-then-len-most_states-clause-grows
returns-then-len-most_states-clause-grows c =
    goes_up_to c.args.setting.now c.args.self.now.members c.loop-value.self.members c.lower_limit.new.self
    _ c.loop-value.invariant.grows.goes c.lower_limit.ensures.goes (omega arith)

pub returns-then-not-branch-clause-grows : goal.returns-then-not-branch-clause-grows
returns-then-not-branch-clause-grows c =
    goes_up_to c.args.setting.now c.args.self.now.members c.loop-value.self.members c.follow_as.new.self.members
    _ c.loop-value.invariant.grows.goes c.in_ok-follow_as.ensures.adds.goes (omega arith)
