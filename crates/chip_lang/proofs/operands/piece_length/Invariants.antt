use Rattle.std.proofs.Common.{◌≡◌, ◌+◌, not, drop}
use Rattle.std.specs.List.{prefix_len}
use Rattle.chip_lang.specs.Line.{is_sign_of}
use Rattle.chip_lang.proofs.operands.piece_length.Given as goal

abbrev pub invariant-loop-index : goal.invariant-loop-index
invariant-loop-index l = l.index + prefix_len (λ t. not (is_sign_of 44 t)) (drop l.index l.tokens) ≡ prefix_len (λ t. not (is_sign_of 44 t)) l.tokens
