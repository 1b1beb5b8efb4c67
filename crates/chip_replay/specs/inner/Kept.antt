-- The data kept about a run.
-- Source: chosen by this project.
--     IsFirst          the first step below n that passes a test, or `never` if no step passes
--     IsTouched        for each address, a table contains the first step below n that touches it, or
--                      `never`
--     AreCheckpoints   the checkpoints are states of a run
--     is_due           whether the next checkpoint is due within some steps
--     IsNoted          a state is that of a step, and the first touches before that step are recorded
--     IsAt             the current state is that of a step, and the keys at that step are known
--     IsKnown          what is kept is correct, and the first touches are those below a given step
--     IsAhead          what is kept is correct, and the current state is also that of some steps
--     IsRight          what is kept belongs to the run from a start state under the events
use Rattle.std.specs.Prelude.{◌≡◌, ℕ, ◌+◌, ◌*◌, ◌/◌, ◌<◌, ◌≤◌, ◌&&◌, nat_lt, nat_le, Bool, true, List, length, slice_index, slice_index_or, max, IfSome}
use Rattle.chip_machine.specs.Touched.{touched}
use Rattle.chip_replay.specs.Limits.{last_step, memory_size, never}
use Rattle.chip_replay.specs.Run.{run, IsStill}
use Rattle.chip_replay.specs.Keys.{Events, held}
use Rattle.chip_replay.specs.inner.Changes.{KnowsKeys}
use Rattle.chip_replay.specs.declared.keys.Holding.{Holding}
use Rattle.chip_replay.specs.declared.kept.Kept.{Kept}

-- v is the lowest step below n that passes, or `never` if no step passes
pub record IsFirst (p : ℕ → Bool) (n v : ℕ) : Type 0 where
  pub none_before : (s : ℕ) → s < n → p s ≡ true → v ≤ s
  pub passes : v < never → (v < n) × (p v ≡ true)

-- for each address, a table contains the lowest step below n that touches it, or `never`
pub record IsTouched {M : Type 0} (touched : M → ℕ → Bool) (state : ℕ → M) (n : ℕ)
    (table : List ℕ) : Type 0 where
  pub size : length table ≡ memory_size
  pub first : (at : ℕ) → at < memory_size
      → IsFirst (λ s. touched (state s) at) n (slice_index table at)

-- the checkpoints are the first of those due, one every p steps, for the steps of a run below
-- `reach`. If more are due than exist, the state of the last checkpoint, or the start state, is the
-- state of all later steps
pub record AreCheckpoints {M : Type 0} (proper : M → Type 0) (step_of : M → ℕ → Bool → M)
    (state : ℕ → M) (p reach : ℕ) (checkpoints : List M) : Type 0 where
  pub proper_start : proper (state 0)
  pub in_range : reach ≤ last_step
  pub few : length checkpoints ≤ reach / p
  pub each : (i : ℕ) (d : M) → i < length checkpoints
      → slice_index_or checkpoints i d ≡ state ((i + 1) * p)
  pub ends_still : length checkpoints < reach / p
      → IsStill step_of (state (length checkpoints * p))

-- whether the next checkpoint belongs to a step from `at` up to `last`, and the one before it to a step
-- before `at`. There are `count` checkpoints, p steps apart
abbrev pub is_due : ℕ → ℕ → ℕ → ℕ → Bool
is_due p count at last =
    nat_le at ((count + 1) * p) && nat_le ((count + 1) * p) last && nat_lt ((count + 1) * p) (at + p)

-- a state is that of step `at` of a run, and a table contains the first touches of the steps below
-- `at` and of those below `reach`
pub record IsNoted {M : Type 0} (touches : M → List ℕ) (step_of : M → ℕ → Bool → M) (rate : ℕ)
    (start : M) (events : Events) (reach at : ℕ) (now : M) (first_touch : List ℕ) : Type 0 where
  pub current : now ≡ run step_of rate (held events) start at
  pub table : IsTouched (touched touches) (run step_of rate (held events) start)
      (max reach at) first_touch

-- the current state is that of step `at`, which is at most `known`, and the keys at that step are
-- known
pub record IsAt {M : Type 0} (step_of : M → ℕ → Bool → M) (rate : ℕ) (start : M) (events : Events)
    (now : M) (keys : Holding) (known at : ℕ) : Type 0 where
  pub reached : at ≤ known
  pub current : now ≡ run step_of rate (held events) start at
  pub holding : KnowsKeys events at keys

-- the kept data belong to the run from a start state under the events: the checkpoints, the first touches
-- below a step, the current state, and the keys known at its step
pub record IsKnown {M : Type 0} (proper : M → Type 0) (touches : M → List ℕ)
    (step_of : M → ℕ → Bool → M) (rate : ℕ) (start : M) (events : Events) (kept : Kept M)
    (known : ℕ) : Type 0 where
  pub checkpoints : AreCheckpoints proper step_of (run step_of rate (held events) start)
      kept.spacing kept.reach kept.checkpoints.items
  pub table : IsTouched (touched touches) (run step_of rate (held events) start)
      known kept.first_touch.items
  pub current : IfSome kept.current_step
      (IsAt step_of rate start events kept.current kept.holding known)

abbrev pub IsRight : {M : Type 0} → (M → Type 0) → (M → List ℕ) → (M → ℕ → Bool → M) → ℕ → M
    → Events → Kept M → Type 0
IsRight proper touches step_of rate start events kept =
    IsKnown proper touches step_of rate start events kept kept.reach

-- what is kept is correct; the current state is also that of the steps from `at` up to `last`, which
-- isn't later than the next checkpoint; and the first touches include those of the steps below `last`
pub record IsAhead {M : Type 0} (proper : M → Type 0) (touches : M → List ℕ)
    (step_of : M → ℕ → Bool → M) (rate : ℕ) (start : M) (events : Events) (kept : Kept M)
    (at last : ℕ) : Type 0 where
  pub known : IsKnown proper touches step_of rate start events kept (max kept.reach last)
  pub order : at ≤ last
  pub next : at ≤ (kept.reach / kept.spacing + 1) * kept.spacing
  pub current : kept.current ≡ run step_of rate (held events) start at
  pub stays : at < last → IsStill step_of kept.current
