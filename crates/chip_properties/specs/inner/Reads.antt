-- The result of reading tokens (chosen by this project).
use Rattle.std.specs.Prelude.{◌≡◌, ◌⊎◌, Option, Some, None, Result, Ok, Err}
use Rattle.chip_lang.specs.Value.{Symbols}
use Rattle.chip_symbols.specs.Names.{values_of}
use Rattle.chip_asm.specs.Program.{symbols_of}
use Rattle.chip_properties.specs.declared.fault.Failure.{Failure}
use Rattle.chip_properties.specs.declared.fault.Failure.TheVariants.{OutOfMemory}
use Rattle.chip_properties.specs.declared.reader.Reader.{Reader}

-- the names that have values
abbrev pub symbols_read : Reader → Symbols
symbols_read reader = values_of (symbols_of reader.source.now.lines)

-- the result is the expected one, apart from its place in memory; an error means that memory ran
-- out, or that no result was expected
abbrev pub IsReadAs : {A B : Type 0} → (A → B) → Option B → Result A Failure → Type 0
IsReadAs seen expected (Ok x) = expected ≡ Some (seen x)
IsReadAs seen expected (Err e) = (e ≡ OutOfMemory) ⊎ (expected ≡ None)

abbrev pub IsRead : {A : Type 0} → Option A → Result A Failure → Type 0
IsRead expected result = IsReadAs (λ x. x) expected result
