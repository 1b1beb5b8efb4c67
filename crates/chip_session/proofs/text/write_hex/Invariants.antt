use Rattle.std.proofs.Common.{◌≡◌, ◌*◌, ◌++◌, take, drop}
use Rattle.hex.specs.Hex.{encode_lower}
use Rattle.chip_session.specs.declared.text.TheConstants.{BLOCK_BYTES}
use Rattle.chip_session.proofs.text.write_hex.Given as goal

abbrev pub invariant-whole : goal.invariant-whole
invariant-whole l = take (2 * (l.block * BLOCK_BYTES)) l.digits ++ encode_lower (drop (l.block * BLOCK_BYTES) l.bytes) ≡ encode_lower l.bytes

abbrev pub invariant-bytes : goal.invariant-bytes
invariant-bytes l = take (2 * l.i) l.digits ++ encode_lower (drop l.i l.bytes) ≡ encode_lower l.bytes
