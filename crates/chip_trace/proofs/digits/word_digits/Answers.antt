use Rattle.std.proofs.Common.{refl}
use Rattle.hex.specs.Hex.{encode_with}
use Rattle.chip_trace.proofs.digits.word_digits.Goals as goal

pub returns : goal.returns
unfolding encode_with
returns c = rw (c.byte_digits.ensures, c.byte_digits-2.ensures) refl
