use Rattle.std.proofs.Common.{◌≡◌, ◌++◌, take}
use Rattle.std.specs.List.{flat_map}
use Rattle.chip_check.specs.Check.{hint_line}
use Rattle.chip_check.proofs.report.push_hints.Given as goal

abbrev pub invariant-loop-hint : goal.invariant-loop-hint
invariant-loop-hint l = l.text.items ≡ l.initial.text.items ++ flat_map (hint_line l.is_painted) (take l.hint-index l.hints)
