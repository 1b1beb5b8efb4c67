use Rattle.std.proofs.Common.{take}
use Rattle.chip_analysis.specs.Exploring.{AreLeftLines}
use Rattle.chip_analysis.proofs.excluding.Searched.left_text.Given as goal

abbrev pub invariant-loop-one : goal.invariant-loop-one
invariant-loop-one l = AreLeftLines l.causes (take l.one-index l.left) l.text.items
