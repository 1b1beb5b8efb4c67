use Rattle.std.proofs.Common.{◌≡◌, ℕ, ◌<◌, ◌≤◌, ◌*◌, ◌%◌, ◌^◌, get_or}
use Rattle.chip_machine.proofs.screen.shift_left.Given as goal

abbrev pub invariant-loop-bits : goal.invariant-loop-bits
invariant-loop-bits l = record {
  moved : (row : ℕ) → row < l.bits-index → get_or l.rows row 0 ≡ get_or l.initial.rows row 0 * 2 ^ l.n % 2 ^ 128;
  ahead : (row : ℕ) → l.bits-index ≤ row → get_or l.rows row 0 ≡ get_or l.initial.rows row 0;
}
