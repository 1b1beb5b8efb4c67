use Rattle.std.proofs.Common.{◌≡◌, take, fold}
use Rattle.chip_trace.specs.Sums.{fnv_step}
use Rattle.chip_trace.proofs.sums.fnv_after.Given as goal

abbrev pub invariant-loop-byte : goal.invariant-loop-byte
invariant-loop-byte l = l.sum ≡ fold fnv_step l.fn.sum (take l.byte-index l.bytes)
