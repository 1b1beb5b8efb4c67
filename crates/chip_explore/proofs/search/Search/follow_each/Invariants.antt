use Rattle.std.proofs.Common.{◌≡◌, ◌<◌, ◌^◌, ℕ, true}
use Rattle.chip_machine.specs.Step.{is_key_down}
use Rattle.chip_explore.specs.inner.Cover.{Adds, Leads}
use Rattle.chip_explore.proofs.search.Search.follow_each.Given as goal

abbrev pub invariant-loop-key : goal.invariant-loop-key
invariant-loop-key l =
    record {
      adds : Adds l.setting l.fn.self.members l.self.members l.key;
      leads : (key : ℕ) → key < l.key → is_key_down l.choices key ≡ true
          → Leads l.setting l.fn.self.members l.self.members l.place l.step (2 ^ key);
    }
