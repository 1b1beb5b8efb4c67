use Rattle.std.proofs.Common.{◌≡◌, ◌++◌, map, take}
use Rattle.chip_check.specs.Quoted.{shown_byte}
use Rattle.chip_check.proofs.quoted.push_run.Given as goal

abbrev pub invariant-loop-byte : goal.invariant-loop-byte
invariant-loop-byte l = l.shown.items ≡ l.initial.shown.items ++ map (shown_byte l.is_text) (take l.byte-index l.run)
