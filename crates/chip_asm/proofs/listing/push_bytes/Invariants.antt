use Rattle.std.proofs.Common.{◌≡◌, ◌++◌, ◌-◌, ◌*◌, replicate}
use Rattle.chip_asm.specs.Listing.{bytes_shown}
use Rattle.chip_asm.proofs.listing.push_bytes.Given as goal

abbrev pub invariant-loop-index : goal.invariant-loop-index
invariant-loop-index l = l.digits ≡ bytes_shown l.index l.bytes ++ replicate (12 - 2 * l.index) 32
