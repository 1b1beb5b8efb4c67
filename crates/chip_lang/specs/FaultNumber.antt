-- The numbers of faults, F1 to F17 (chosen by this project).
use Rattle.std.specs.Prelude.{ℕ}
use Rattle.chip_lang.specs.declared.fault.Fault.{Fault}
use Rattle.chip_lang.specs.declared.fault.Fault.TheVariants.{BadCharacter, UnfinishedString, UnknownWord, WrongOperands, NumberTooLarge, TooDeep, BadName, DefinedTwice, UndefinedName, OutOfRange, DivisionByZero, Overflow, OrgBelowHere, PastMemory, StrayBranch, UnclosedIf, NotInProfile}

abbrev pub number_of_fault : Fault → ℕ
number_of_fault BadCharacter = 1
number_of_fault UnfinishedString = 2
number_of_fault UnknownWord = 3
number_of_fault WrongOperands = 4
number_of_fault NumberTooLarge = 5
number_of_fault TooDeep = 6
number_of_fault BadName = 7
number_of_fault DefinedTwice = 8
number_of_fault UndefinedName = 9
number_of_fault OutOfRange = 10
number_of_fault DivisionByZero = 11
number_of_fault Overflow = 12
number_of_fault OrgBelowHere = 13
number_of_fault PastMemory = 14
number_of_fault StrayBranch = 15
number_of_fault UnclosedIf = 16
number_of_fault NotInProfile = 17
