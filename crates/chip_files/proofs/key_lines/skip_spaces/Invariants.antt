use Rattle.std.proofs.Common.{◌≡◌, ◌≤◌, length}
use Rattle.chip_files.specs.KeyLines.{skip_spaces}
use Rattle.chip_files.proofs.key_lines.skip_spaces.Given as goal

abbrev pub invariant-loop-rest : goal.invariant-loop-rest
invariant-loop-rest l = (skip_spaces l.rest ≡ skip_spaces l.text) × (length l.rest ≤ length l.text)

abbrev pub decreases-loop-rest : goal.decreases-loop-rest
decreases-loop-rest l = length l.rest
