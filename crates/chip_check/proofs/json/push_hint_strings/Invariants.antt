use Rattle.std.proofs.Common.{◌≡◌, ◌++◌, take}
use Rattle.std.specs.List.{flat_map}
use Rattle.chip_check.specs.Json.{further_hint}
use Rattle.chip_check.proofs.json.push_hint_strings.Given as goal

abbrev pub invariant-loop-hint : goal.invariant-loop-hint
invariant-loop-hint l = l.text.items ≡ l.initial.text.items ++ flat_map further_hint (take l.hint-index l.others)
