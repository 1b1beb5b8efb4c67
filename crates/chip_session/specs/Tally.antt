-- A reader or a writer, and the number of its failures (chosen by this project).
use Rattle.std.specs.Prelude.{ℕ, ◌&&◌, Bool, true, List, length, nat_lt, nat_eq, Result, Ok, Err, is_err, if◌then◌else◌}
use Rattle.chip_lang.specs.Meter.{one_more}

pub record Tally (T : Type 0) : Type 0 where
  pub inner : T
  pub failures : ℕ

-- the number of failures after a flush that succeeded or failed
abbrev pub failures_after_flush : Bool → ℕ → ℕ
failures_after_flush went_well failures = if went_well then failures else one_more failures

-- a read fails if it returns an error of any kind
abbrev pub failures_after_read : {E : Type 0} → ℕ → Result ℕ E → ℕ
failures_after_read failures result = if is_err result then one_more failures else failures

-- a write fails if it returns an error of any kind, or accepts none of one or more bytes
abbrev pub write_failed : {E : Type 0} → Result ℕ E → List ℕ → Bool
write_failed (Ok count) bytes = nat_eq count 0 && nat_lt 0 (length bytes)
write_failed (Err e) bytes = true

abbrev pub failures_after_write : {E : Type 0} → ℕ → Result ℕ E → List ℕ → ℕ
failures_after_write failures result bytes =
    if write_failed result bytes then one_more failures else failures
