use Rattle.std.proofs.Common.{◌≡◌, take}
use Rattle.chip_asm.specs.inner.Infos.{AreInfosOf}
use Rattle.chip_asm.specs.inner.Records.{readings_in}
use Rattle.chip_asm.proofs.kept.Kept.numbered_anew.Given as goal

abbrev pub invariant-loop-kept : goal.invariant-loop-kept
invariant-loop-kept l = (l.names.symbols ≡ l.initial.names.symbols) × AreInfosOf l.names.keys l.infos.items (readings_in (take l.kept-index l.self.lines.items))
