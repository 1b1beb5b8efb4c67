use Rattle.std.proofs.Common.{◌≡◌, ℕ, ◌<◌, ◌≤◌, ◌/◌, ◌^◌, get_or}
use Rattle.chip_machine.proofs.screen.shift_right.Given as goal

abbrev pub invariant-loop-bits : goal.invariant-loop-bits
invariant-loop-bits l = record {
  moved : (row : ℕ) → row < l.bits-index → get_or l.rows row 0 ≡ get_or l.initial.rows row 0 / 2 ^ l.n;
  ahead : (row : ℕ) → l.bits-index ≤ row → get_or l.rows row 0 ≡ get_or l.initial.rows row 0;
}
