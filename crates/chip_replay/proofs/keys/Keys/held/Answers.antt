use Rattle.std.proofs.Common.{◌∙◌}
use Rattle.chip_replay.specs.Keys.{held}
use Rattle.chip_replay.proofs.KeyFacts.{mask-same}
use Rattle.chip_replay.proofs.keys.Keys.held.Goals as goal

pub returns : goal.returns
unfolding held
returns c = c.mask_of.ensures ∙ mask-same _ _ 16 c.down_in.ensures.each
