-- The numbers and the sentences of faults (chosen by this project).
use Rattle.std.specs.Prelude.{ℕ, List, codes}
use Rattle.chip_properties.specs.declared.fault.FaultCode.{FaultCode}
use Rattle.chip_properties.specs.declared.fault.FaultCode.TheVariants.{NothingStated, NoComparison, UndefinedName, OutOfRange, NotAsked, TooMany}

-- the number of a fault, P1 to P6
abbrev pub number_of_property_fault : FaultCode → ℕ
number_of_property_fault NothingStated = 1
number_of_property_fault NoComparison = 2
number_of_property_fault UndefinedName = 3
number_of_property_fault OutOfRange = 4
number_of_property_fault NotAsked = 5
number_of_property_fault TooMany = 6

-- the sentence that describes a fault
unfoldable pub sentence_of_property_fault : FaultCode → List ℕ
sentence_of_property_fault NothingStated =
    codes "a property has always, never, ever or can, a condition or a place"
sentence_of_property_fault NoComparison = codes "a comparison, a value or a place is expected"
sentence_of_property_fault UndefinedName = codes "undefined name"
sentence_of_property_fault OutOfRange = codes "a value out of range"
sentence_of_property_fault NotAsked = codes "this can't be asked"
sentence_of_property_fault TooMany = codes "too many comparisons, terms, properties or parentheses"
