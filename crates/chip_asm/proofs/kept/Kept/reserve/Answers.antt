use Rattle.std.proofs.Common.{refl}
use Rattle.chip_asm.proofs.KeptSteps.{filled, kept-moved}
use Rattle.chip_asm.proofs.kept.Kept.reserve.Goals as goal

pub returns-in_err-reserve-2-clause-kept : goal.returns-in_err-reserve-2-clause-kept
returns-in_err-reserve-2-clause-kept c = kept-moved c.args.self.now _ c.requires c.reserve.ensures.items c.reserve-2.ensures.items refl refl refl refl c.requires.image

pub returns-in_err-resize-clause-kept : goal.returns-in_err-resize-clause-kept
returns-in_err-resize-clause-kept c =
    kept-moved c.args.self.now _ c.requires c.reserve.ensures.items c.reserve-2.ensures.items refl refl refl refl (rw c.in_err-resize.ensures.items c.requires.image)

pub returns-in_err-resize-2-clause-kept : goal.returns-in_err-resize-2-clause-kept
returns-in_err-resize-2-clause-kept c =
    kept-moved c.args.self.now _ c.requires c.reserve.ensures.items c.reserve-2.ensures.items refl refl refl refl
    (filled c.args.self.now.image c.resize.new.self _ c.requires.image c.in_ok-resize.ensures.len c.in_ok-resize.ensures.items)

pub returns-clause-kept : goal.returns-clause-kept
returns-clause-kept c =
    kept-moved c.args.self.now _ c.requires c.reserve.ensures.items c.reserve-2.ensures.items refl refl refl refl
    (filled c.args.self.now.image c.resize.new.self _ c.requires.image c.in_ok-resize.ensures.len c.in_ok-resize.ensures.items)
