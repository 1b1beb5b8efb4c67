use Rattle.std.proofs.Common.{◌≡◌, ◌≤◌, ◌<◌, ℕ, get_or, IsTrue}
use Rattle.chip_session.proofs.image_run.is_same_block.Given as goal

abbrev pub invariant-loop-place : goal.invariant-loop-place
invariant-loop-place l = IsTrue l.same → (i : ℕ) → l.start ≤ i → i < l.place → get_or l.old i 0 ≡ get_or l.new i 0
