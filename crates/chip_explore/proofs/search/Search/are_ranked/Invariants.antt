use Rattle.std.proofs.Common.{◌≡◌, ◌<◌, ℕ}
use Rattle.chip_explore.specs.inner.Cover.{view_of}
use Rattle.chip_explore.specs.inner.Ranks.{IsRanked}
use Rattle.chip_explore.proofs.search.Search.are_ranked.Given as goal

abbrev pub invariant-loop-place : goal.invariant-loop-place
invariant-loop-place l =
    record {
      same : l.self.members ≡ l.fn.self.members;
      ranked : (place : ℕ) → place < l.place → IsRanked l.setting (view_of l.fn.self.members) l.ranks place;
    }
