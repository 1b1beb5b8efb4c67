use Rattle.std.proofs.Common.{◌/◌, ◌%◌, ◌∙◌, slice_index, length-set, arith}
use Rattle.hex.specs.Hex.{lower_digits}
use Rattle.hex.proofs.Pairs.{encode_step, encode_done}
use Rattle.chip_session.proofs.TextLemmas.{place_written}
use Rattle.chip_session.proofs.text.write_block.Goals as goal

pub digits-preserved : goal.digits-preserved
digits-preserved c =
    let (high, low, highs, lows) = c.digits.invariant in (
      length-set c.digits.high c.digits.i _ ∙ high,
      length-set c.digits.low c.digits.i _ ∙ low,
      place_written (λ n. slice_index lower_digits (slice_index c.args.bytes.now n / 16)) c.digits.high c.digits.i _ (omega (arith, high)) c.hex_digit.ensures highs,
      place_written (λ n. slice_index lower_digits (slice_index c.args.bytes.now n % 16)) c.digits.low c.digits.i _ (omega (arith, low)) c.hex_digit-in-digits.ensures lows,
    )

pub places-preserved : goal.places-preserved
places-preserved c =
    let (high, low, highs, lows) = c.digits.invariant in
    encode_step lower_digits c.args.bytes.now c.places.digits c.places.i _ _ (omega arith) (omega arith) (highs c.places.i (omega arith)) (lows c.places.i (omega arith)) c.places.invariant

pub returns : goal.returns
returns c = encode_done lower_digits _ _ c.places.i (omega arith) (omega arith) c.places.invariant
