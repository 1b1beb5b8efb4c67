-- The effect of reading one line on the properties (chosen by this project).
use Rattle.std.specs.Prelude.{◌≡◌, ℕ, List, [], ◌∷◌, ◌++◌, Result, Ok, Err}
use Rattle.chip_asm.specs.LineViews.{LineFacts}
use Rattle.chip_properties.specs.declared.fault.PropertyFault.{PropertyFault}
use Rattle.chip_properties.specs.declared.properties.Properties.{Properties}
use Rattle.chip_properties.specs.declared.stated.Stated.{Stated}
use Rattle.chip_properties.specs.Lines.{IsStatedOn, StandsOn, States}

-- a result is the property that the line with a number states, or the line's fault
abbrev pub IsAnswer : List (List ℕ) → ℕ → Result Stated PropertyFault → Type 0
IsAnswer lines number (Ok s) = (s.line ≡ number) × IsStatedOn lines s
IsAnswer lines number (Err fault) = (fault.line ≡ number) × StandsOn lines fault

-- the effect of the line with a number: none if it states nothing, otherwise one more property or fault
pub data IsRead : List (List ℕ) → ℕ → (old new : Properties) → Type 0 where
  nothing : {lines : List (List ℕ)} {number : ℕ} {old new : Properties}
      → ((start : ℕ) (f : LineFacts) → States lines number start f → ⊥)
      → new.stated.items ≡ old.stated.items → new.faults.items ≡ old.faults.items
      → IsRead lines number old new
  a_property : {lines : List (List ℕ)} {number : ℕ} {old new : Properties} {s : Stated}
      → s.line ≡ number → IsStatedOn lines s → new.stated.items ≡ old.stated.items ++ s ∷ []
      → new.faults.items ≡ old.faults.items → IsRead lines number old new
  a_fault : {lines : List (List ℕ)} {number : ℕ} {old new : Properties} {fault : PropertyFault}
      → fault.line ≡ number → StandsOn lines fault → new.stated.items ≡ old.stated.items
      → new.faults.items ≡ old.faults.items ++ fault ∷ [] → IsRead lines number old new
