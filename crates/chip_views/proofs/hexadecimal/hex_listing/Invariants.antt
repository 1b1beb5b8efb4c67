use Rattle.std.proofs.Common.{◌≡◌, take}
use Rattle.std.specs.List.{flat_map}
use Rattle.chip_asm.specs.LineViews.{line_facts}
use Rattle.chip_asm.specs.Listing.{row_by}
use Rattle.chip_views.specs.Hexadecimal.{hex_value}
use Rattle.chip_views.proofs.hexadecimal.hex_listing.Given as goal

abbrev pub invariant-loop-place : goal.invariant-loop-place
invariant-loop-place l =
    l.text.items ≡ flat_map (row_by hex_value) (take l.place (line_facts l.source.lines))
