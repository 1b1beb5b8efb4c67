use Rattle.std.specs.Prelude.{◌≡◌, ◌+◌, ◌<◌, ℕ, true, false}
use Rattle.chip_machine.specs.Forgotten.{has_byte, has_part, is_in_row, register_part}
use Rattle.chip_machine.specs.inner.Accesses.{from_or}
use Rattle.chip_machine.proofs.forgotten.Forgotten.with_stored.Given as goal

abbrev pub invariant-loop-place : goal.invariant-loop-place
invariant-loop-place l =
    record {
      parts : (part : ℕ) → has_part l.rest part ≡ has_part l.fn.self part;
      bytes : (k : ℕ) → has_byte l.fn.self k ≡ true → is_in_row l.at l.place k ≡ false → has_byte l.rest k ≡ true;
      stored : (k : ℕ) → k < l.place → has_part l.before (register_part (from_or l.digits_of k)) ≡ true → has_byte l.rest (l.at + k) ≡ true;
    }
