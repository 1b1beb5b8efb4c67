use Rattle.std.proofs.Common.{◌≡◌, ◌++◌, drop}
use Rattle.std.specs.List.{join_with_byte}
use Rattle.chip_trace.specs.Machine.{names_in}
use Rattle.chip_trace.proofs.MachineLemmas.{joined_after, values}
use Rattle.chip_trace.proofs.machine_line.push_choices.Given as goal

-- the added names and the remaining names together are all names
abbrev pub invariant-loop-place : goal.invariant-loop-place
invariant-loop-place l =
    l.text.items ++ joined_after l.is_first (names_in (values (drop l.place l.fn.choices)) l.fn.quirks)
    ≡ l.fn.text.items ++ join_with_byte 44 (names_in (values l.fn.choices) l.fn.quirks)
