use Rattle.std.proofs.Common.{◌+◌, ◌*◌, arith, get_or}
use Rattle.hex.specs.Hex.{lower_digits}
use Rattle.hex.proofs.Pairs.{encode_step, encode_done}
use Rattle.chip_session.specs.declared.text.TheConstants.{BLOCK_BYTES}
use Rattle.chip_trace.proofs.DigitLemmas.{pair_is}
use Rattle.chip_session.proofs.TextLemmas.{block_step}
use Rattle.chip_session.proofs.text.write_hex.Goals as goal

pub whole-preserved : goal.whole-preserved
whole-preserved c =
    block_step lower_digits c.args.bytes.now c.whole.digits c.write_block.new.digits _ (c.whole.block * BLOCK_BYTES) ((c.whole.block + 1) * BLOCK_BYTES) (omega arith) c.write_block.ensures
    (omega (arith, c.write_block.auto.digits)) (omega arith) c.whole.invariant

pub bytes-preserved : goal.bytes-preserved
bytes-preserved c =
    let pair = pair_is c.byte_digits.result (get_or c.args.bytes.now c.bytes.i 0) c.byte_digits.ensures in
    encode_step lower_digits c.args.bytes.now c.bytes.digits c.bytes.i _ _ (omega arith) (omega arith) pair.0 pair.1 c.bytes.invariant

pub returns : goal.returns
returns c = encode_done lower_digits _ _ c.bytes.i (omega arith) (omega arith) c.bytes.invariant
