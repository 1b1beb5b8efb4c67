use Rattle.std.proofs.Common.{◌≡◌, ◌≤◌, ◌<◌, ◌*◌, ℕ, get_or}
use Rattle.chip_session.proofs.image_run.changed_blocks.Given as goal

-- the blocks compared so far agree before `first` and from `end` on
abbrev pub invariant-loop-block : goal.invariant-loop-block
invariant-loop-block l =
    (l.first ≤ l.rest)
    × ((i : ℕ) → i < 256 * l.block → i < l.first → get_or l.old i 0 ≡ get_or l.new i 0)
    × ((i : ℕ) → i < 256 * l.block → l.end ≤ i → get_or l.old i 0 ≡ get_or l.new i 0)
