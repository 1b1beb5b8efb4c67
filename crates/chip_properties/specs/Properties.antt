-- The properties of a source (chosen by this project).
use Rattle.std.specs.Prelude.{◌≡◌, ℕ, Bool, true, ◌==◌, ◌||◌, List, All}
use Rattle.std.specs.List.{list_any}
use Rattle.chip_asm.specs.LineViews.{LineFacts}
use Rattle.chip_properties.specs.declared.fault.PropertyFault.{PropertyFault}
use Rattle.chip_properties.specs.declared.properties.Properties.{Properties}
use Rattle.chip_properties.specs.declared.stated.Stated.{Stated}
use Rattle.chip_properties.specs.Lines.{IsStatedOn, StandsOn, States}

-- whether a property or a fault is reported for the line with a number
abbrev pub is_told : List Stated → List PropertyFault → ℕ → Bool
is_told stated faults number =
    list_any (λ s. s.line == number) stated || list_any (λ fault. fault.line == number) faults

-- the properties and faults reported for lines of a source: one or the other for each line with a property
pub record AreProperties (lines : List (List ℕ)) (found : Properties) : Type 0 where
  pub stated : All (IsStatedOn lines) found.stated.items
  pub faults : All (StandsOn lines) found.faults.items
  pub told : (number start : ℕ) (f : LineFacts) → States lines number start f
      → is_told found.stated.items found.faults.items number ≡ true
