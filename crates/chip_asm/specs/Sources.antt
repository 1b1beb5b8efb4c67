-- A source as contracts see it: the texts of its lines, and the work done so far (chosen by this
-- project).
use Rattle.std.specs.Prelude.{ℕ, List}
use Rattle.chip_lang.specs.declared.meter.Meter.{Meter}

pub record SourceValue : Type 0 where
  pub lines : List (List ℕ)
  pub work : Meter
