use Rattle.std.proofs.Common.{◌≡◌, false, slice_index_or}
use Rattle.chip_replay.specs.Mask.{mask}
use Rattle.chip_replay.proofs.keys.mask_of.Given as goal

abbrev pub invariant-loop-key : goal.invariant-loop-key
invariant-loop-key l = l.mask ≡ mask (λ k. slice_index_or l.down k false) l.key
