use Rattle.std.proofs.Common.{◌≡◌, take}
use Rattle.std.specs.Fmt.{signed_decimal}
use Rattle.std.specs.List.{flat_map}
use Rattle.chip_asm.specs.LineViews.{line_facts}
use Rattle.chip_asm.specs.Listing.{row_by}
use Rattle.chip_asm.proofs.source.Source.listing.Given as goal

abbrev pub invariant-loop-place : goal.invariant-loop-place
invariant-loop-place l =
    l.listing.items ≡ flat_map (row_by signed_decimal) (take l.place (line_facts l.self.lines))
