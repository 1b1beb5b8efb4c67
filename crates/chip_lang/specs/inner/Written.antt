-- The bytes that a function writes.
use Rattle.std.specs.Prelude.{ℕ, List, Result, Ok, Err, take}
use Rattle.chip_lang.specs.declared.fault.Fault.{Fault}

-- the bytes at the front that were written, or the fault
abbrev pub written : List ℕ → Result ℕ Fault → Result (List ℕ) Fault
written bytes (Ok count) = Ok (take count bytes)
written bytes (Err fault) = Err fault
