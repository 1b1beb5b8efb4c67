-- A replay as contracts see it, and what a query changes.
-- Source: chosen by this project.
--     History          the start state, the rate, the spacing, the key events, the number of
--                      checkpoints kept, the step up to which the kept run is valid, and the number
--                      of steps executed
--     state_at         the state at a step, computed from the start state and the key events
--     Answered         what a query changes
use Rattle.std.specs.Prelude.{◌≡◌, ℕ, ◌+◌, ◌-◌, ◌*◌, ◌/◌, ◌<◌, ◌≤◌, Bool, min, Result, OnOk, refl}
use Rattle.std.specs.Coded.{Coded, code_by, coded×, coded_ℕ}
use Rattle.chip_replay.specs.Limits.{last_step}
use Rattle.chip_replay.specs.Run.{run}
use Rattle.chip_replay.specs.Keys.{Events, coded_events, held}

pub record History (M : Type 0) : Type 0 where
  pub start : M
  pub rate : ℕ
  -- the number of steps between two checkpoints
  pub spacing : ℕ
  pub keys : Events
  -- the number of checkpoints, including that of step 0
  pub kept : ℕ
  -- the steps below this number were executed under the current start state and key events
  pub reach : ℕ
  -- the number of steps executed; the count stays at 2 ^ 64 - 1 once it reaches that
  pub ran : ℕ

abbrev pub history_code : {M : Type 0} → Coded M → Coded (History M)
history_code {M} c =
    code_by (M × (ℕ × (ℕ × (Events × (ℕ × (ℕ × ℕ))))))
    (coded× c (coded× coded_ℕ
    (coded× coded_ℕ (coded× coded_events (coded× coded_ℕ (coded× coded_ℕ coded_ℕ))))))
    (λ h. (h.start, (h.rate, (h.spacing, (h.keys, (h.kept, (h.reach, h.ran)))))))
    (λ p. record {
      start = p.0;
      rate = p.1.0;
      spacing = p.1.1.0;
      keys = p.1.1.1.0;
      kept = p.1.1.1.1.0;
      reach = p.1.1.1.1.1.0;
      ran = p.1.1.1.1.1.1;
    })
    (λ _. refl)

abbrev pub state_at : {M : Type 0} → (M → ℕ → Bool → M) → History M → ℕ → M
state_at step_of h t = run step_of h.rate (held h.keys) h.start t

-- a query at a step doesn't change the start state, the rate, the spacing or the events. It executes
-- no more steps than those from the last usable checkpoint, and if it succeeds, the kept run reaches
-- the step
pub record Answered {M A E : Type 0} (old new : History M) (step : ℕ)
    (result : Result A E) : Type 0 where
  pub same_start : new.start ≡ old.start
  pub same_rate : new.rate ≡ old.rate
  pub same_spacing : new.spacing ≡ old.spacing
  pub same_keys : new.keys ≡ old.keys
  pub refused : last_step < step → new ≡ old
  pub reach_kept : old.reach ≤ new.reach
  pub reached : OnOk result (step ≤ new.reach)
  pub ran_kept : old.ran ≤ new.ran
  pub steps : OnOk result (new.ran
      ≤ old.ran + (step - old.spacing * (min old.reach step / old.spacing)))
