-- The listing of a source with a mark before each executed line (chosen by this project).
--     is_marked        whether a line has bytes, and a step is executed at its address
--     marked_row       the row of a line in the listing, with `+ ` or two spaces before it
--     marked_listing   the marked rows of all lines
use Rattle.std.specs.Prelude.{ℕ, ◌&&◌, Bool, List, ◌++◌, codes, length, nat_lt, if◌then◌else◌}
use Rattle.std.specs.Fmt.{signed_decimal}
use Rattle.std.specs.List.{flat_map}
use Rattle.chip_asm.specs.LineViews.{LineFacts, line_facts}
use Rattle.chip_asm.specs.Listing.{row_by}
use Rattle.chip_explore.specs.Executed.{is_among}

abbrev pub is_marked : (executed : List Bool) → LineFacts → Bool
is_marked executed f = nat_lt 0 (length f.bytes) && is_among executed f.address

abbrev pub marked_row : (executed : List Bool) → LineFacts → List ℕ
marked_row executed f =
    (if is_marked executed f then codes "+ " else codes "  ") ++ row_by signed_decimal f

-- The marked rows of the lines of a source, in order.
unfoldable pub marked_listing : (executed : List Bool) → (lines : List (List ℕ)) → List ℕ
marked_listing executed lines = flat_map (marked_row executed) (line_facts lines)
