use Rattle.std.proofs.Common.{◌≡◌, ◌+◌, not, drop}
use Rattle.std.specs.List.{prefix_len}
use Rattle.chip_lang.specs.FaultPlace.{is_bad}
use Rattle.chip_lang.proofs.fault_place.leftmost_bad.Given as goal

abbrev pub invariant-loop-index : goal.invariant-loop-index
invariant-loop-index l = l.index + prefix_len (λ t. not (is_bad t)) (drop l.index l.tokens) ≡ prefix_len (λ t. not (is_bad t)) l.tokens
