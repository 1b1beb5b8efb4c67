use Rattle.std.proofs.Common.{◌≡◌, ◌^◌, arith, true, rules, below_more}
use Rattle.chip_machine.specs.Step.{is_key_down, step_of}
use Rattle.chip_explore.specs.inner.Cover.{Leads, tick_at}
use Rattle.chip_explore.proofs.Growth.{adds_more, goes_up_to, leads_before, leads_after}
use Rattle.chip_explore.proofs.search.Search.follow_each.Goals as goal

pub loop-key-preserved : goal.loop-key-preserved
loop-key-preserved c =
    let p = c.args.setting.now in
    let l = c.args.self.now.members in
    let m = c.loop-key.self.members in
    let n = c.follow.new.self.members in
    let place = c.args.place in
    let step = c.args.step in
    let before = c.loop-key.invariant in
    let told = c.in_ok-follow.ensures in
    let made = rw c.alone.ensures at (told.leads (search rules)) in
    record {
      adds = adds_more p l m n c.loop-key.key 1 before.adds told.adds;
      leads =
          below_more (λ key. is_key_down c.args.choices key ≡ true → Leads p l n place step (2 ^ key)) c.loop-key.key
          (λ key below up. leads_after (λ s. step_of s (2 ^ key) (tick_at p step)) p l m n told.adds.goes place step (before.leads key below up))
          (λ up. leads_before (λ s. step_of s (2 ^ c.loop-key.key) (tick_at p step)) p l m n before.adds.goes place step c.requires.kept made);
    }

pub returns-then-not-branch-clause-adds : goal.returns-then-not-branch-clause-adds
returns-then-not-branch-clause-adds c =
    goes_up_to c.args.setting.now c.args.self.now.members c.loop-key.self.members c.follow.new.self.members
    _ c.loop-key.invariant.adds.goes c.in_ok-follow.ensures.adds.goes (omega arith)

pub returns-clause-leads : goal.returns-clause-leads
returns-clause-leads c = λ _ key below up. c.loop-key.invariant.leads key (omega arith) up
