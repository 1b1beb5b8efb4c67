use Rattle.std.proofs.Common.{◌+◌, ◌<◌, ℕ}
use Rattle.chip_explore.specs.inner.Cover.{GoesUpTo, LeadsAs}
use Rattle.chip_explore.proofs.search.Search.follow_values.Given as goal

abbrev pub invariant-loop-value : goal.invariant-loop-value
invariant-loop-value l =
    record {
      grows : GoesUpTo l.setting l.fn.self.members l.self.members (l.most_states + 1);
      leads : (value : ℕ) → value < l.value → LeadsAs l.setting l.fn.self.members l.self.members l.place l.step value;
    }
