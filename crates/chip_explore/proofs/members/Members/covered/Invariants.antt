use Rattle.std.proofs.Common.{◌≡◌, ◌-◌, ◌^◌, ◌<◌, ℕ, false, true, slice_index, slice_index_or}
use Rattle.chip_explore.proofs.members.Members.covered.Given as goal

abbrev pub invariant-loop-place : goal.invariant-loop-place
invariant-loop-place l =
    record {
      below : l.covered < l.self.limit;
      end : l.covered < 2 ^ 64 - 1;
      closed : (j : ℕ) → j < l.place → slice_index l.self.steps.items j < l.covered → slice_index_or l.self.closed.items j false ≡ true;
    }
