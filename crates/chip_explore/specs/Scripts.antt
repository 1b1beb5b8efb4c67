-- Key scripts, and states that no script reaches.
-- Source: chosen by this project.
--     IsScript        a key script determines the keys that are down in each step; all are allowed keys
--     Avoids          no key script makes the machine meet the target at a step up to n
--     keys_of         the key events, inserted one after another
--     are_in_order    true if the steps of events never decrease and begin at a step or later, and each
--                     event is for one of the 16 keys
--     PressesOther    under the events, a key that isn't allowed is down before a step
--     IsRefused       the events aren't in order, or press a key that isn't allowed; no other script
--                     is refused
use Rattle.std.specs.Prelude.{◌≡◌, ℕ, ◌<◌, ◌≤◌, ◌⊎◌, ◌&&◌, nat_lt, nat_le, Bool, true, false, None, List, [], ◌∷◌, fold}
use Rattle.std.specs.FinMap as map
use Rattle.chip_machine.specs.Choices.{IsWithin}
use Rattle.chip_machine.specs.State.{State}
use Rattle.chip_machine.specs.Step.{step_of}
use Rattle.chip_replay.specs.Keys.{Events, held}
use Rattle.chip_replay.specs.Run.{run}
use Rattle.chip_explore.specs.Target.{met_in}
use Rattle.chip_explore.specs.declared.script.KeyEvent.{KeyEvent}
use Rattle.chip_explore.specs.declared.target.Target.{Target}

abbrev pub IsScript : ℕ → (ℕ → ℕ) → Type 0
IsScript allowed held = (t : ℕ) → IsWithin allowed (held t)

abbrev pub Avoids : (rate allowed : ℕ) → Target → State → ℕ → Type 0
Avoids rate allowed target start n =
    (held : ℕ → ℕ) → IsScript allowed held →
    (t : ℕ) → t ≤ n → met_in target (run step_of rate held start t) ≡ None

abbrev pub with_event : Events → KeyEvent → Events
with_event events event = map.insert events (record { key = event.key; step = event.step }) event.down

abbrev pub keys_of : List KeyEvent → Events
keys_of events = fold with_event map.empty events

abbrev pub are_in_order : ℕ → List KeyEvent → Bool
are_in_order step [] = true
are_in_order step (event ∷ events) =
    nat_le step event.step && nat_lt event.key 16 && are_in_order event.step events

pub record PressesOther (allowed : ℕ) (events : List KeyEvent) (step : ℕ) : Type 0 where
  pub at : ℕ
  pub before : at < step
  pub other : IsWithin allowed (held (keys_of events) at) → ⊥

abbrev pub IsRefused : (allowed : ℕ) → List KeyEvent → (step : ℕ) → Type 0
IsRefused allowed events step =
    (are_in_order 0 events ≡ false) ⊎ PressesOther allowed events step
