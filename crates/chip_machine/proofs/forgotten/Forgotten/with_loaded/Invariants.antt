use Rattle.std.specs.Prelude.{◌≡◌, ◌+◌, ◌<◌, ℕ, true}
use Rattle.chip_machine.specs.Forgotten.{has_byte, has_part, register_part}
use Rattle.chip_machine.proofs.forgotten.Forgotten.with_loaded.Given as goal

abbrev pub invariant-loop-place : goal.invariant-loop-place
invariant-loop-place l =
    record {
      parts : (part : ℕ) → has_part l.fn.self part ≡ true → has_part l.rest part ≡ true;
      bytes : (k : ℕ) → has_byte l.rest k ≡ has_byte l.fn.self k;
      loaded : (k : ℕ) → k < l.place → has_byte l.fn.self (l.at + k) ≡ true → has_part l.rest (register_part k) ≡ true;
    }
