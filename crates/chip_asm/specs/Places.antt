-- The facts about each line of a source, by its place in the list of all lines (Chipper manual; where the manual is
-- silent, chosen by this project): a relation between the lines and the facts about them. Laws state that the facts
-- that `computed/Walk` finds line by line satisfy this relation, and that no other facts do. `before` contains the
-- lines before a line, the first one first.
use Rattle.std.specs.Prelude.{◌≡◌, ℕ, ◌+◌, ◌-◌, ◌<◌, ◌≤◌, ◌⊎◌, ℤ, unsigned_abs, Bool, true, false, not, ◌&&◌, List, [], ◌∷◌, length, take, drop, Option, Some, None, is_some, Result, Ok, Err, if◌then◌else◌, sum_by, count_by, filter_map, slice_get, slice_index, Decides}
use Rattle.std.specs.List.{list_any}
use Rattle.chip_lang.specs.declared.limits.TheConstants.{IMAGE_START}
use Rattle.chip_lang.specs.declared.fault.Fault.{Fault}
use Rattle.chip_lang.specs.declared.fault.Fault.TheVariants.{DefinedTwice, OutOfRange, OrgBelowHere, PastMemory, StrayBranch, UnclosedIf}
use Rattle.chip_lang.specs.Code.{own_bytes}
use Rattle.chip_lang.specs.Line.{Body, Reading, bad, read, fault_if, first_that_holds}
use Rattle.chip_lang.specs.Uses.{name_defined}
use Rattle.chip_symbols.specs.declared.table.Symbol.{Symbol}
use Rattle.chip_symbols.specs.Names.{Name, values_of, is_redefinition}
use Rattle.chip_asm.specs.Layout.{Placed, body_of, is_if, is_else, is_endif, is_else_body, is_side_or_end, is_number, is_origin, is_align, is_align_off_body, takes_effect, symbol_of, holds, has_ended, condition_of, value_at, value_or_zero, full_size, is_negative_space, is_backwards, is_past_end}

-- the line p is at place j, and passes the test
pub record Passes (test : Placed → Bool) (before : List Placed) (j : ℕ) (p : Placed) : Type 0 where
  pub there : slice_get before j ≡ Some p
  pub passes : test p ≡ true

-- the line p at place j fits, and no later line does
pub record IsLast (Fits : ℕ → Placed → Type 0) (j : ℕ) (p : Placed) : Type 0 where
  pub fits : Fits j p
  pub latest : (k : ℕ) (q : Placed) → Fits k q → k ≤ j

-- x is the result of `gives` for the last line that fits; if no line fits, x is `other`
pub record IsFromLast {X : Type 0} (Fits : ℕ → Placed → Type 0) (gives : ℕ → Placed → X)
    (other x : X) : Type 0 where
  pub from_last : (j : ℕ) (p : Placed) → IsLast Fits j p → x ≡ gives j p
  pub from_none : ((j : ℕ) (p : Placed) → Fits j p → ⊥) → x ≡ other

-- blocks

-- The IF line at place j encloses the lines that follow: for each n, the first n lines after it
-- contain at most as many ENDIF lines as IF lines.
pub record Encloses (before : List Placed) (j : ℕ) (opener : Placed) : Type 0 where
  pub there : slice_get before j ≡ Some opener
  pub opens : is_if opener ≡ true
  pub stays_open : (n : ℕ)
      → count_by is_endif (take n (drop (j + 1) before))
      ≤ count_by is_if (take n (drop (j + 1) before))

-- No line before is an active END. An ELSE or ENDIF is active if the last IF that encloses it is
-- active, or if no IF encloses it. Any other line is active if the condition of each IF that
-- encloses it holds on the current side.
pub record IsActive (before : List Placed) (body : Body) : Type 0 where
  pub not_ended : has_ended before ≡ false
  pub side_or_end : is_side_or_end body ≡ true
      → (j : ℕ) (opener : Placed) → IsLast (Encloses before) j opener → opener.active ≡ true
  pub other : is_side_or_end body ≡ false
      → (j : ℕ) (opener : Placed) → Encloses before j opener → holds before opener ≡ true

-- addresses and names

abbrev pub sizes : List Placed → ℕ
sizes = sum_by (λ p. p.size)

-- the address after these lines: the value of the last ORG that takes effect, or else the start of
-- the image, plus the sizes of the lines since
abbrev pub IsAfter : List Placed → ℕ → Type 0
IsAfter before address =
    IsFromLast (Passes is_origin before)
    (λ j org. unsigned_abs org.value + sizes (drop (j + 1) before)) (IMAGE_START + sizes before)
    address

-- the names that these lines define, in line order
abbrev pub names_given : List Placed → List (Name × Symbol)
names_given = filter_map symbol_of

-- faults of the first pass

abbrev pub fault_of_reading : Reading → Option Fault
fault_of_reading (bad fault) = Some fault
fault_of_reading (read label body) = None

abbrev pub fault_in_value : Result ℤ Fault → Option Fault
fault_in_value (Err fault) = Some fault
fault_in_value (Ok value) = None

-- true for an ELSE or ENDIF that no IF encloses, and for an ELSE after another ELSE of the same IF
abbrev pub is_stray : List Placed → Option ℕ → Body → Bool
is_stray before None body = is_side_or_end body
is_stray before (Some number) body =
    is_else_body body && list_any (λ q. is_else q && is_number number q.block) before

-- the possible faults of a line; the first one that applies counts
abbrev pub first_pass_faults : List Placed → Bool → Placed → List (Option Fault)
first_pass_faults before aligning p =
    fault_of_reading p.line
    ∷ fault_if (is_stray before p.block (body_of p.line)) StrayBranch
    ∷ fault_if (is_redefinition (names_given before) (name_defined p.line)) DefinedTwice
    ∷ fault_in_value (value_at (names_given before) (body_of p.line))
    ∷ fault_if (is_negative_space (body_of p.line) p.value) OutOfRange
    ∷ fault_if (is_backwards p.here (body_of p.line) p.value) OrgBelowHere
    ∷ fault_if (is_past_end aligning p.here (body_of p.line) p.value) PastMemory
    ∷ []

-- the facts about a line, given the lines before it
pub record IsPlaced (before : List Placed) (line : Reading) (p : Placed) : Type 0 where
  pub number : p.number ≡ length before + 1
  pub is_line : p.line ≡ line
  -- the last IF line that encloses the line
  pub block : IsFromLast (Encloses before) (λ j opener. Some opener.number) None p.block
  pub condition : p.condition ≡ condition_of (names_given before) (body_of line)
  pub active : Decides p.active (IsActive before (body_of line))
  pub here : IsAfter before p.here
  pub value : p.value ≡ value_or_zero (value_at (names_given before) (body_of line))
  -- whether the last ALIGN that takes effect is not OFF
  pub aligning : Bool
  pub is_aligning : IsFromLast (Passes is_align before)
      (λ j p. not (is_align_off_body (body_of p.line))) true aligning
  pub fault : p.fault ≡ (if p.active then first_that_holds (first_pass_faults before aligning p) else None)
  pub size : p.size
      ≡ (if takes_effect p then full_size aligning p.here (body_of line) p.value else 0)

-- the facts about each line of a source, in line order
pub record ArePlaced (lines : List Reading) (all : List Placed) : Type 0 where
  pub count : length all ≡ length lines
  pub each : (i : ℕ) (line : Reading) (p : Placed)
      → slice_get lines i ≡ Some line → slice_get all i ≡ Some p → IsPlaced (take i all) line p

-- an IF without ENDIF in a whole source: it is active, it encloses any line that would follow, and
-- there is no active END
pub record IsUnclosed (all : List Placed) (i : ℕ) (p : Placed) : Type 0 where
  pub encloses : Encloses all i p
  pub active : p.active ≡ true
  pub not_ended : has_ended all ≡ false

abbrev pub fault_in_code : Result (List ℕ) Fault → Option Fault
fault_in_code (Ok bytes) = None
fault_in_code (Err fault) = Some fault

abbrev pub bytes_in_code : Result (List ℕ) Fault → List ℕ
bytes_in_code (Ok bytes) = bytes
bytes_in_code (Err fault) = []

-- the line's own bytes under these names, or its fault of the second pass
abbrev pub code_with : List (Name × Symbol) → Reading → Result (List ℕ) Fault
code_with names line = own_bytes (body_of line) (values_of names)

-- the line's own bytes under the names of all lines, or its fault of the second pass
abbrev pub code_among : List Placed → Placed → Result (List ℕ) Fault
code_among all p = code_with (names_given all) p.line

-- the image of a whole source, if no line has a fault: the image extends to the address after the
-- last line; the own bytes of each line are at the line's address, followed by zeros up to the
-- line's size; and every address that no line covers contains a zero
pub record IsImage (all : List Placed) (bytes : List ℕ) : Type 0 where
  pub up_to : IsAfter all (IMAGE_START + length bytes)
  pub of_line : (i k : ℕ) (p : Placed) → slice_get all i ≡ Some p → k < p.size
      → slice_index bytes (p.here + k - IMAGE_START)
      ≡ slice_index (bytes_in_code (code_among all p)) k
  pub between : (k : ℕ) → k < length bytes
      → ((i : ℕ) (p : Placed) → slice_get all i ≡ Some p
      → (IMAGE_START + k < p.here) ⊎ (p.here + p.size ≤ IMAGE_START + k))
      → slice_index bytes k ≡ 0

-- the fault of the line at place i of a whole source, if it has one: a line that isn't active has
-- no fault; an active line has the fault of an IF without ENDIF, or else the fault of the first
-- pass, or else the fault of its own bytes
pub record IsFaultOf (all : List Placed) (i : ℕ) (p : Placed) (fault : Option Fault) : Type 0 where
  pub not_active : p.active ≡ false → fault ≡ None
  pub unclosed : IsUnclosed all i p → fault ≡ Some UnclosedIf
  pub first : p.active ≡ true → (IsUnclosed all i p → ⊥) → is_some p.fault ≡ true → fault ≡ p.fault
  pub second : p.active ≡ true → (IsUnclosed all i p → ⊥) → p.fault ≡ None
      → fault ≡ fault_in_code (code_among all p)
