-- Key events, and the keys that are held in a step.
-- Source: COSMAC VIP manual for the 16 keys; this project chose the events.
--     moment_cmp      the order of moments: by key and then by step
--     Events          the key events: down (true) or up, for a step and a key
--     is_down         whether a key is down in a step
--     held            the mask of the 16 keys that are held in a step
--     insert_fault, edit_fault      why an event can't be inserted; why an event can't be replaced
--                                   or deleted
use Rattle.std.specs.Prelude.{ℕ, zero, suc, Bool, false, Option, Some, None, nat_lt, nat_le, is_some, unwrap_or, if◌then◌else◌}
use Rattle.std.specs.declared.cmp.Ordering.{Ordering}
use Rattle.std.specs.Ordering.{nat_cmp, ordering_then}
use Rattle.std.specs.FinMap as map
use Rattle.std.specs.Coded.{Coded, code_by, coded×, coded_ℕ, coded_bool}
use Rattle.std.proofs.Common.{refl}
use Rattle.chip_replay.specs.Limits.{last_step, most_events}
use Rattle.chip_replay.specs.Mask.{mask}
use Rattle.chip_replay.specs.declared.keys.Moment.{Moment}
use Rattle.chip_replay.specs.declared.keys.KeyFault.{KeyFault}
use Rattle.chip_replay.specs.declared.keys.KeyFault.TheVariants.{StepTooLarge, NoSuchKey, EventThere, NoEvent, TooManyEvents}

abbrev pub moment_cmp : Moment → Moment → Ordering
moment_cmp a b = ordering_then (nat_cmp a.key b.key) (nat_cmp a.step b.step)

abbrev pub coded_moment : Coded Moment
coded_moment =
    code_by (ℕ × ℕ) (coded× coded_ℕ coded_ℕ) (λ m. (m.key, m.step))
    (λ p. record { key = p.0; step = p.1 }) (λ _. refl)

abbrev pub Events : Type 0
Events = map.FinMap moment_cmp Bool

abbrev pub coded_events : Coded Events
coded_events = map.code coded_moment coded_bool

-- the event of a key at a step (down or up), if one exists
abbrev pub event_at : Events → ℕ → ℕ → Option Bool
event_at events step key = map.get events (record { key = key; step = step })

-- whether a key is down: its last event up to this step decides, and without such an event the key is
-- up
abbrev pub is_down : Events → ℕ → ℕ → Bool
is_down events key zero = unwrap_or (event_at events 0 key) false
is_down events key (suc step) = unwrap_or (event_at events (suc step) key) (is_down events key step)

-- the mask has key k at bit k
unfoldable pub held : Events → ℕ → ℕ
held events step = mask (λ key. is_down events key step) 16

-- the first refusal that applies, in the order of the tests
abbrev pub insert_fault : Events → ℕ → ℕ → Option KeyFault
insert_fault events step key =
    if nat_lt last_step step then Some StepTooLarge
    else if nat_lt 15 key then Some NoSuchKey
    else if is_some (event_at events step key) then Some EventThere
    else if nat_le most_events (map.len events) then Some TooManyEvents
    else None

abbrev pub edit_fault : Events → ℕ → ℕ → Option KeyFault
edit_fault events step key =
    if nat_lt last_step step then Some StepTooLarge
    else if nat_lt 15 key then Some NoSuchKey
    else if is_some (event_at events step key) then None
    else Some NoEvent
