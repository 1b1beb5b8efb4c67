use Rattle.std.proofs.Common.{◌≡◌, map, take}
use Rattle.chip_asm.specs.LineViews.{line_facts}
use Rattle.chip_warnings.specs.Seen.{seen_of}
use Rattle.chip_warnings.proofs.survey.lines_of.Given as goal

abbrev pub invariant-loop-place : goal.invariant-loop-place
invariant-loop-place l =
    l.lines.items ≡ map (seen_of l.source.lines) (take l.place (line_facts l.source.lines))
