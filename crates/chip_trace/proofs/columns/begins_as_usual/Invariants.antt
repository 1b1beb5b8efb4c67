use Rattle.std.proofs.Common.{◌≡◌, take}
use Rattle.chip_trace.specs.inner.Usual.{first_columns}
use Rattle.chip_trace.proofs.columns.begins_as_usual.Given as goal

abbrev pub invariant-loop-place : goal.invariant-loop-place
invariant-loop-place l = take l.place l.columns ≡ take l.place first_columns
