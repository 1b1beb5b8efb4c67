use Rattle.std.proofs.Common.{◌≡◌, fold, take}
use Rattle.chip_explore.specs.inner.Kept.{with_row}
use Rattle.chip_explore.proofs.backdrop.Backdrop.put_rows.Given as goal

abbrev pub invariant-loop-patch : goal.invariant-loop-patch
invariant-loop-patch l = l.rows.items ≡ fold with_row l.base.rows.items (take l.patch-index l.self.rows.items)
