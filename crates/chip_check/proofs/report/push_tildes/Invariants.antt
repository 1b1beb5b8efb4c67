use Rattle.std.proofs.Common.{◌≡◌, ◌++◌, take}
use Rattle.std.specs.List.{flat_map}
use Rattle.chip_check.specs.Check.{tildes_of}
use Rattle.chip_check.proofs.report.push_tildes.Given as goal

abbrev pub invariant-loop-byte : goal.invariant-loop-byte
invariant-loop-byte l = l.text.items ≡ l.initial.text.items ++ flat_map tildes_of (take l.byte-index l.shown)
