use Rattle.std.proofs.Common.{◌≡◌, ℕ, ◌*◌, ◌<◌, ◌≤◌, ◌++◌, length, take, drop, get_or}
use Rattle.chip_trace.specs.Digits.{hex_byte, spaced}
use Rattle.chip_trace.proofs.digits.write_spaced_bytes.Given as goal

-- the bytes before the loop's index are written, and spaces are left for the other bytes
abbrev pub invariant-bytes : goal.invariant-bytes
invariant-bytes l = (take (3 * l.i) l.text ++ spaced hex_byte (drop l.i l.bytes) ≡ spaced hex_byte l.bytes)
    × ((k : ℕ) → 3 * l.i ≤ k → k < length l.text → get_or l.text k 0 ≡ 32)
