use Rattle.std.proofs.Common.{◌≡◌, take}
use Rattle.std.specs.List.{flat_map}
use Rattle.chip_asm.specs.LineViews.{line_facts}
use Rattle.chip_cover.specs.Marks.{marked_row}
use Rattle.chip_cover.proofs.marks.marked_listing.Given as goal

abbrev pub invariant-loop-place : goal.invariant-loop-place
invariant-loop-place l =
    l.text.items ≡ flat_map (marked_row l.executed) (take l.place (line_facts l.source.lines))
