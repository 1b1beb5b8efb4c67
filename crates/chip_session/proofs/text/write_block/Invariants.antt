use Rattle.std.proofs.Common.{◌≡◌, ℕ, ◌<◌, ◌*◌, ◌/◌, ◌%◌, ◌++◌, length, take, drop, slice_index}
use Rattle.hex.specs.Hex.{encode_lower, lower_digits}
use Rattle.chip_session.specs.declared.text.TheConstants.{BLOCK_BYTES}
use Rattle.chip_session.proofs.text.write_block.Given as goal

-- the high and low digits of the first `i` bytes have been computed
abbrev pub invariant-digits : goal.invariant-digits
invariant-digits l = (length l.high ≡ BLOCK_BYTES) × (length l.low ≡ BLOCK_BYTES)
    × ((k : ℕ) → k < l.i → slice_index l.high k ≡ slice_index lower_digits (slice_index l.bytes k / 16))
    × ((k : ℕ) → k < l.i → slice_index l.low k ≡ slice_index lower_digits (slice_index l.bytes k % 16))

abbrev pub invariant-places : goal.invariant-places
invariant-places l = take (2 * l.i) l.digits ++ encode_lower (drop l.i l.bytes) ≡ encode_lower l.bytes
