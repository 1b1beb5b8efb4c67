use Rattle.std.proofs.Common.{◌≡◌, ◌++◌, ◌∷◌, take}
use Rattle.std.specs.List.{flat_map}
use Rattle.chip_trace.specs.Json.{json_member}
use Rattle.chip_trace.proofs.json.push_others.Given as goal

abbrev pub invariant-loop-column : goal.invariant-loop-column
invariant-loop-column l =
    l.text.items ≡ l.initial.text.items ++ flat_map (λ column. 44 ∷ json_member column l.step l.machine l.is_last) (take l.column-index l.columns)
