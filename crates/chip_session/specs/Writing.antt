-- How much of a text was written, by a writer that counts its failures (chosen by this project).
use Rattle.std.specs.Prelude.{◌≡◌, ℕ, List, Option}
use Rattle.std.specs.Io.KnownBytes.{Appends}
use Rattle.chip_lang.specs.Meter.{one_more}
use Rattle.chip_session.specs.Serving.{BeginsWith}
use Rattle.chip_session.specs.Tally.{Tally}

module _ {W : Type 0} (contents : W → Option (List ℕ)) (old new : Tally W) where
  -- exactly this text was written, and no write failed
  pub record Writes (text : List ℕ) : Type 0 where
    pub appended : Appends (contents old.inner) (contents new.inner) text
    pub no_failure : new.failures ≡ old.failures

  -- a write failed after a prefix of this text was written
  pub record Breaks (text : List ℕ) : Type 0 where
    pub front : List ℕ
    pub begins : BeginsWith text front
    pub appended : Appends (contents old.inner) (contents new.inner) front
    pub counted : new.failures ≡ one_more old.failures
