use Rattle.std.proofs.Common.{take}
use Rattle.chip_asm.specs.inner.Blocks.{AreMarked}
use Rattle.chip_asm.specs.inner.Passes.{IsTally}
use Rattle.chip_asm.proofs.layout.mark_unclosed.Given as goal

abbrev pub invariant-loop-index : goal.invariant-loop-index
invariant-loop-index l = AreMarked l.ended (take l.index l.blocks) l.initial.placements l.placements × IsTally l.placements l.tally
