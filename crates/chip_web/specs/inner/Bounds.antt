-- The line number in a fault is at most the maximum number of lines (chosen by this project).
use Rattle.std.specs.Prelude.{◌≤◌}
use Rattle.chip_asm.specs.declared.limits.TheConstants.{MOST_LINES}
use Rattle.chip_asm.specs.declared.refusal.OpenError.{OpenError}
use Rattle.chip_asm.specs.declared.refusal.OpenError.TheVariants.{LineTooLong}

abbrev pub IsNumbered : OpenError → Type 0
IsNumbered (LineTooLong line) = line ≤ MOST_LINES
IsNumbered error = Unit {0}
