-- The numbers of warnings, sets of warnings, and their places in a source (chosen by this project).
use Rattle.std.specs.Prelude.{ℕ, ◌≡◌, ◌≤◌, ◌+◌, ◌-◌, ◌/◌, ◌%◌, ◌^◌, ◌==◌, ◌++◌, Bool, false, List, [], All, length, slice_index_or}
use Rattle.chip_properties.specs.Faults.{number_of_property_fault}
use Rattle.chip_warnings.specs.declared.warning.Warning.{Warning}
use Rattle.chip_warnings.specs.declared.warning.WarningCode.{WarningCode}
use Rattle.chip_warnings.specs.declared.warning.WarningCode.TheVariants.{SplitRows, UnusedName, Unreachable, FallsIntoData, JumpsToData, OddAddress, NotInProfile, NeverExecuted, AlwaysZero, Property}

-- the letter before a warning's number: P for a property that can't be read, and W for all others
abbrev pub letter_of_warning : WarningCode → ℕ
letter_of_warning (Property code) = 80
letter_of_warning code = 87

-- the number of a warning, W1 to W9 and P1 to P6
abbrev pub number_of_warning : WarningCode → ℕ
number_of_warning SplitRows = 1
number_of_warning UnusedName = 2
number_of_warning Unreachable = 3
number_of_warning FallsIntoData = 4
number_of_warning JumpsToData = 5
number_of_warning OddAddress = 6
number_of_warning NotInProfile = 7
number_of_warning NeverExecuted = 8
number_of_warning AlwaysZero = 9
number_of_warning (Property code) = number_of_property_fault code

-- the index of a warning's bit in a set of warnings: k for Wk, and 9 + k for Pk
abbrev pub bit_of_warning : WarningCode → ℕ
bit_of_warning (Property code) = 9 + number_of_property_fault code
bit_of_warning code = number_of_warning code

-- whether the set of warnings that are switched off contains a warning
abbrev pub is_switched_off : (allowed : ℕ) → WarningCode → Bool
is_switched_off allowed code = allowed / 2 ^ bit_of_warning code % 2 == 1

-- a warning isn't switched off, its line is one of these lines, and its span lies inside that line
pub record StandsIn (allowed : ℕ) (lines : List (List ℕ)) (w : Warning) : Type 0 where
  pub from_one : 1 ≤ w.line
  pub to_last : w.line ≤ length lines
  pub rises : w.span.start ≤ w.span.end
  pub inside : w.span.end ≤ length (slice_index_or lines (w.line - 1) [])
  pub told : is_switched_off allowed w.code ≡ false

-- The following two definitions are used only by the contracts of private functions.

-- a warning isn't switched off, its line has this number, and its span lies inside that line
pub record StandsAt (allowed number : ℕ) (line : List ℕ) (w : Warning) : Type 0 where
  pub there : w.line ≡ number
  pub rises : w.span.start ≤ w.span.end
  pub inside : w.span.end ≤ length line
  pub told : is_switched_off allowed w.code ≡ false

-- the new warnings are the old warnings followed by additional ones, and P holds for each additional warning
pub record Adds (P : Warning → Type 0) (old new : List Warning) : Type 0 where
  pub more : List Warning
  pub are : new ≡ old ++ more
  pub each : All P more
