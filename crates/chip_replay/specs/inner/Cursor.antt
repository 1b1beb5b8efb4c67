-- Proofs, which a reader may skip: the law about the keys that a machine queries.
-- Source: chosen by this project.
use Rattle.std.proofs.Common.{ℕ, ◌≤◌, arith}
use Rattle.chip_replay.specs.inner.Changes.{KnowsKeys}
use Rattle.chip_replay.specs.Keys.{Events}
use Rattle.chip_replay.specs.declared.keys.Holding.{Holding}

-- the keys known at the start of a step are known at the start of a later step
pub knows_later : (events : Events) (s t : ℕ) (h : Holding) → KnowsKeys events s h → s ≤ t
    → KnowsKeys events t h
knows_later events s t h knows l =
    record {
      size = knows.size;
      as_mask = knows.as_mask;
      before = λ r k lr lu lk. knows.before r k (omega arith) lu lk;
    }
