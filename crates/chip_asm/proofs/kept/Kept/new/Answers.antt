use Rattle.std.proofs.Common.{refl}
use Rattle.chip_asm.proofs.KeptSteps.{kept-none}
use Rattle.chip_asm.proofs.kept.Kept.new.Goals as goal

pub returns-clause-kept : goal.returns-clause-kept
returns-clause-kept c = kept-none _ c.new.ensures.items c.requires c.new-2.ensures c.new-3.ensures.items refl
