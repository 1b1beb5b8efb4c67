use Rattle.std.proofs.Common.{◌≡◌, fold, take}
use Rattle.chip_explore.specs.inner.Kept.{with_byte}
use Rattle.chip_explore.proofs.backdrop.Backdrop.put_bytes.Given as goal

abbrev pub invariant-loop-patch : goal.invariant-loop-patch
invariant-loop-patch l = l.machine ≡ fold with_byte l.fn.machine (take l.patch-index l.self.bytes.items)
