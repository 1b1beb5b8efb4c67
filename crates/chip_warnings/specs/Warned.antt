-- The warnings of each line (chosen by this project).
use Rattle.std.specs.Prelude.{ℕ, ◌+◌, ◌%◌, ◌==◌, ◌&&◌, not, Bool, true, false, List, [], ◌∷◌, length, map, filter, is_none, reverse, take, Option, Some, None, slice_get, slice_index_or}
use Rattle.std.specs.List.{flat_map, range_with_len}
use Rattle.std.specs.Borrow.{Bor}
use Rattle.chip_machine.specs.declared.quirks.Quirks.{Quirks}
use Rattle.chip_warnings.specs.declared.asked.Asked.{Asked}
use Rattle.chip_warnings.specs.declared.coverage.Coverage.{Coverage}
use Rattle.chip_warnings.specs.declared.flow.Flow.{Flow}
use Rattle.chip_warnings.specs.declared.flow.Reach.{Reach}
use Rattle.chip_warnings.specs.declared.flow.Reach.TheVariants.{Comes, Never}
use Rattle.chip_warnings.specs.declared.seen.Says.{Says}
use Rattle.chip_warnings.specs.declared.seen.Says.TheVariants.{Rows}
use Rattle.chip_warnings.specs.declared.seen.Seen.{Seen}
use Rattle.chip_warnings.specs.declared.warning.Warning.{Warning}
use Rattle.chip_warnings.specs.declared.warning.WarningCode.{WarningCode}
use Rattle.chip_warnings.specs.declared.warning.WarningCode.TheVariants.{SplitRows, UnusedName, Unreachable, FallsIntoData, JumpsToData, OddAddress, NotInProfile, NeverExecuted, AlwaysZero, Property}
use Rattle.chip_warnings.specs.Seen.{base_of, holds_of, is_code, is_data, is_draw, seen_lines, target_of}
use Rattle.chip_warnings.specs.Instructions.{goes_elsewhere, is_super_instruction, leads_to_one}
use Rattle.chip_warnings.specs.Marked.{Marked, marked_by}
use Rattle.chip_warnings.specs.Reach.{base_before, flow_after, reach_at}
use Rattle.chip_warnings.specs.Warnings.{is_switched_off}

-- ---- each kind of warning at a line, given the flow from the lines above it

abbrev pub is_odd : ℕ → Bool
is_odd n = n % 2 == 1

-- whether a DB at `address` is exactly one byte after a DB with `above` values at `above_at`, and both have an odd
-- number of values
abbrev pub splits_after : (above_at above : ℕ) → (address : ℕ) → Says → Bool
splits_after above_at above address (Rows count) =
    is_odd above && is_odd count && above_at + above + 1 == address
splits_after above_at above address says = false

-- whether an earlier line and this line are both DB with an odd number of values, with exactly one byte between them
abbrev pub splits_from : (above : Says) → (above_at : ℕ) → Seen → Bool
splits_from (Rows above) above_at s = splits_after above_at above s.address s.says
splits_from says above_at s = false

-- whether `splits_from` holds for the last line with bytes and this line
abbrev pub splits_by : (last : Option Seen) → Seen → Bool
splits_by None s = false
splits_by (Some last) s = splits_from last.says last.address s

-- W1: this line and the line above are DB with odd numbers of values; one byte, but no label or ORG, is between them
abbrev pub splits_rows : Flow → Seen → Bool
splits_rows flow s = splits_by flow.last s && not flow.begins && not s.begins

-- whether execution never reaches a place
abbrev pub is_never : Reach → Bool
is_never Never = true
is_never reach = false

-- whether execution reaches a place
abbrev pub is_coming : Reach → Bool
is_coming Comes = true
is_coming reach = false

-- whether no step is ever executed at an address; false if the reachable addresses are unknown
abbrev pub is_never_made : (reachable : Option (Bor (List Bool))) → (address : ℕ) → Bool
is_never_made None address = false
is_never_made (Some reachable) address = not (slice_index_or reachable.now address true)

-- W3: an instruction that neither the lines above nor jumps lead to, and at which no keys, random bytes and
-- speed make the machine execute a step; the program doesn't overwrite its instructions
abbrev pub is_unreachable : (reachable : Option (Bor (List Bool))) → Marked → Flow → Seen → Bool
is_unreachable reachable marked flow s =
    is_code s.says && is_never (reach_at marked.jumped flow s) && not marked.writes_code
    && is_never_made reachable s.address

-- W4: data that execution reaches from the instruction directly before it, which isn't JP, RET or EXIT, in a program
-- that doesn't overwrite its instructions
abbrev pub falls_into_data : Marked → Flow → Seen → Bool
falls_into_data marked flow s =
    is_data s.says && is_coming flow.reach
    && holds_of (λ instr. not (goes_elsewhere instr)) (base_before flow.last s.address)
    && not marked.writes_code

-- W5: a JP or CALL to an address where data begins and where no store may write
abbrev pub jumps_to_data : Marked → Seen → Bool
jumps_to_data marked s =
    holds_of leads_to_one (base_of s.says)
    && marked.data_at (target_of s.says)

-- W6: an instruction at an odd address, unless another instruction is directly before it
abbrev pub is_at_odd_address : Flow → Seen → Bool
is_at_odd_address flow s =
    is_code s.says && is_odd s.address && is_none (base_before flow.last s.address)

-- W7: an instruction that the machine doesn't have
abbrev pub is_not_in_profile : Quirks → Seen → Bool
is_not_in_profile quirks s =
    not quirks.has_super_instructions && holds_of is_super_instruction (base_of s.says)

-- whether a line is an instruction, and no key script executes a step at its address; false if no search was run
abbrev pub is_left_out : Option Coverage → Seen → Bool
is_left_out None s = false
is_left_out (Some coverage) s =
    is_code s.says && not (slice_index_or coverage.executed.now s.address true)

-- whether a line is the first one that draws a random byte
abbrev pub draws_first : Flow → Seen → Bool
draws_first flow s = is_draw s.says && not flow.has_drawn

-- ---- all kinds

-- Whether a line has a warning of a kind. A line has W8 only if it doesn't have W3. A line has W9 only if it is the
-- first line that draws a random byte and no tape is given.
abbrev pub has_warning : Asked → Marked → Flow → Seen → WarningCode → Bool
has_warning asked marked flow s SplitRows = splits_rows flow s
has_warning asked marked flow s UnusedName = s.unused
has_warning asked marked flow s Unreachable = is_unreachable asked.reachable marked flow s
has_warning asked marked flow s FallsIntoData = falls_into_data marked flow s
has_warning asked marked flow s JumpsToData = jumps_to_data marked s
has_warning asked marked flow s OddAddress = is_at_odd_address flow s
has_warning asked marked flow s NotInProfile = is_not_in_profile asked.quirks s
has_warning asked marked flow s NeverExecuted =
    is_left_out asked.coverage s && not (is_unreachable asked.reachable marked flow s)
has_warning asked marked flow s AlwaysZero = draws_first flow s && not asked.has_tape
has_warning asked marked flow s (Property code) = false

-- W1 to W9
abbrev pub kinds : List WarningCode
kinds =
    SplitRows ∷ UnusedName ∷ Unreachable ∷ FallsIntoData ∷ JumpsToData ∷ OddAddress ∷ NotInProfile
    ∷ NeverExecuted ∷ AlwaysZero ∷ []

-- the kinds of the warnings that a line has and that aren't switched off
unfoldable pub kinds_on : Asked → Marked → Flow → Seen → List WarningCode
kinds_on asked marked flow s =
    filter
    (λ kind. not (is_switched_off asked.allowed kind) && has_warning asked marked flow s kind) kinds

-- the kinds of a line's warnings, given the lines above the line; empty if there is no line
abbrev pub kinds_after : Asked → Marked → (above : List Seen) → Option Seen → List WarningCode
kinds_after asked marked above None = []
kinds_after asked marked above (Some s) = kinds_on asked marked (flow_after marked.jumped above) s

-- the kinds of the warnings of the line at index `place`, counted from 0
abbrev pub kinds_at : Asked → (lines : List Seen) → (place : ℕ) → List WarningCode
kinds_at asked lines place =
    kinds_after asked (marked_by lines) (reverse (take place lines)) (slice_get lines place)

-- the kinds of the warnings of a line, each with the line's number, counted from 1
abbrev pub warned_at : Asked → (lines : List Seen) → (place : ℕ) → List (ℕ × WarningCode)
warned_at asked lines place = map (λ kind. (place + 1, kind)) (kinds_at asked lines place)

-- the warnings W1 to W9 of a source, each with the number of its line, in the order of the lines
unfoldable pub warned : Asked → (texts : List (List ℕ)) → List (ℕ × WarningCode)
warned asked texts =
    flat_map (warned_at asked (seen_lines texts)) (range_with_len 0 (length texts))

-- ---- the warnings that are reported

abbrev pub is_property : WarningCode → Bool
is_property (Property code) = true
is_property kind = false

-- the kinds of the given warnings, each with its line number, without the warnings about properties
abbrev pub kinds_told : List Warning → List (ℕ × WarningCode)
kinds_told warnings =
    map (λ (w : Warning). (w.line, w.code)) (filter (λ (w : Warning). not (is_property w.code)) warnings)
