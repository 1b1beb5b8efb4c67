-- The data kept about the key events, ordered by step.
-- Source: chosen by this project.
--     rank           the number of an event in that order, computed from its step and key
--     IsInOrder      events are in that order, and each has one of the 16 keys
--     IsFirstFrom    an index separates the events before a step from the other events
--     all_events     the events of all pages
--     count_before   the number of events in the pages before a page
--     index_of       the index, among all events, of the event at a position in the pages
--     IsPage         a page is neither empty nor too large
--     IsPlace        a position is that of an event, or lies past all pages
--     HasRoom        an event can be inserted at a position in a page
--     after_events   a table of whether each key is down after the first n events
--     change_at      the event of a key at a step (down or up) in a list of events
--     was_down       whether a key was down before a step's events
--     KnowsKeys      which keys are known to be down at the start of a step
--     SaysTheSame    the two lists of events contain the same events
--     HoldsKeys      which keys are known to be down in a step, and until the next event
use Rattle.std.specs.Prelude.{◌≡◌, ℕ, ◌+◌, ◌*◌, ◌<◌, ◌≤◌, ◌==◌, ◌&&◌, zero, suc, Bool, false, List, [], ◌∷◌, length, take, Option, None, Some, slice_index_or, slice_set, min, if◌then◌else◌}
use Rattle.std.specs.List.{flat_map}
use Rattle.std.specs.Global.{Vec}
use Rattle.chip_replay.specs.Mask.{mask}
use Rattle.chip_replay.specs.Keys.{Events, event_at, is_down}
use Rattle.chip_replay.specs.declared.by_step.Event.{Event}
use Rattle.chip_replay.specs.declared.by_step.Place.{Place}
use Rattle.chip_replay.specs.declared.by_step.TheConstants.{PAGE_EVENTS}
use Rattle.chip_replay.specs.declared.keys.Holding.{Holding}

abbrev pub rank : Event → ℕ
rank e = e.step * 16 + e.key

-- the events are sorted by step and then by key
pub record IsInOrder (events : List Event) : Type 0 where
  pub rising : (i j : ℕ) (d : Event) → i < j → j < length events
      → rank (slice_index_or events i d) < rank (slice_index_or events j d)
  pub keys : (i : ℕ) (d : Event) → i < length events → (slice_index_or events i d).key < 16

-- the events before the index are those before the step
pub record IsFirstFrom (events : List Event) (step place : ℕ) : Type 0 where
  pub at_most : place ≤ length events
  pub before : (i : ℕ) (d : Event) → i < place → (slice_index_or events i d).step < step
  pub after : (i : ℕ) (d : Event) → place ≤ i → i < length events
      → step ≤ (slice_index_or events i d).step

-- the events of all pages, one page after the other
abbrev pub all_events : List (Vec Event) → List Event
all_events pages = flat_map (λ page. page.items) pages

abbrev pub count_before : List (Vec Event) → ℕ → ℕ
count_before pages n = length (all_events (take n pages))

abbrev pub index_of : List (Vec Event) → Place → ℕ
index_of pages place = count_before pages place.page + place.index

abbrev pub IsPage : Vec Event → Type 0
IsPage page = (0 < length page.items) × (length page.items ≤ PAGE_EVENTS)

abbrev pub IsPlace : List (Vec Event) → Place → Type 0
IsPlace pages place =
    (d : Vec Event) → place.page < length pages
    → place.index < length (slice_index_or pages place.page d).items

abbrev pub HasRoom : List (Vec Event) → Place → Type 0
HasRoom pages place = (place.page < length pages)
    × ((d : Vec Event) → (place.index ≤ length (slice_index_or pages place.page d).items)
    × (length (slice_index_or pages place.page d).items < PAGE_EVENTS))

-- each of the first n events sets its key
abbrev pub after_events : List Bool → List Event → ℕ → List Bool
after_events down es zero = down
after_events down [] (suc n) = down
after_events down (e ∷ es) (suc n) = after_events (slice_set down e.key e.down) es n

-- the first event of the key at the step (down or up), if one exists
abbrev pub change_at : List Event → ℕ → ℕ → Option Bool
change_at [] step key = None
change_at (e ∷ es) step key =
    if step == e.step && key == e.key then Some e.down else change_at es step key

abbrev pub was_down : Events → ℕ → ℕ → Bool
was_down events key zero = false
was_down events key (suc step) = is_down events key step

-- the keys that were down before the events of each step from `step` up to `until`, or only of `until`
-- if that isn't later; and the mask of these keys
pub record KnowsKeys (events : Events) (step : ℕ) (h : Holding) : Type 0 where
  pub size : length h.down ≡ 16
  pub as_mask : h.keys ≡ mask (λ k. slice_index_or h.down k false) 16
  pub before : (s k : ℕ) → min step h.until ≤ s → s ≤ h.until → k < 16
      → was_down events k s ≡ slice_index_or h.down k false

pub record HoldsKeys (events : Events) (step : ℕ) (h : Holding) : Type 0 where
  pub within : step < h.until
  pub size : length h.down ≡ 16
  pub as_mask : h.keys ≡ mask (λ k. slice_index_or h.down k false) 16
  pub stays : (s k : ℕ) → step ≤ s → s < h.until → k < 16
      → is_down events k s ≡ slice_index_or h.down k false

-- the events by key and the events by step agree for each key at each step
abbrev pub SaysTheSame : Events → List Event → Type 0
SaysTheSame events in_order = (s k : ℕ) → k < 16 → change_at in_order s k ≡ event_at events s k
