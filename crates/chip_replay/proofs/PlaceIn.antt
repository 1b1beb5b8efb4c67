-- A position in a page, as an index among all events of the pages.
use Rattle.std.proofs.Common.{◌≡◌, ℕ, ◌+◌, ◌-◌, ◌<◌, ◌≤◌, false, List, length, get_or, ap, arith, inl, inr}
use Rattle.std.specs.Global.{Vec}
use Rattle.std.proofs.lemmas.Bool.{cases_lt}
use Rattle.chip_replay.specs.inner.Changes.{rank, all_events, count_before, IsInOrder}
use Rattle.chip_replay.specs.declared.by_step.Event.{Event}
use Rattle.chip_replay.proofs.InOrder.{part_in_order, above_all}
use Rattle.chip_replay.proofs.Pages.{element, count_more, count_within}

module _ (pages : List (Vec Event)) (order : IsInOrder (all_events pages)) (i : ℕ) (page : Vec Event) (within : i < length pages) (read : page ≡ get_or pages i page) where
  pub page_in_order : IsInOrder page.items
  page_in_order =
      part_in_order (all_events pages) order page.items (count_before pages i) (count_within (λ (p : Vec Event). p.items) pages i page within read) (λ j d l. element (λ (p : Vec Event). p.items) pages i page within read j d l)

  -- the index in a page that separates its events at a rank. The events of earlier pages are below that
  -- rank, and the last event of this page isn't
  module _ (wanted j : ℕ) (earlier : (k : ℕ) (d : Event) → k < count_before pages i → rank (get_or (all_events pages) k d) < wanted) (last : (k : ℕ) (d : Event) → i < length pages → count_before pages (i + 1) ≤ k + 1 → k < length (all_events pages) → wanted ≤ rank (get_or (all_events pages) k d)) (some : 0 < length page.items) (es : List Event) (same : es ≡ page.items) (at_most : j ≤ length es) (below : (k : ℕ) (d : Event) → k < j → rank (get_or es k d) < wanted) (above : (k : ℕ) (d : Event) → j ≤ k → k < length es → wanted ≤ rank (get_or es k d)) where
    at : (k : ℕ) (d : Event) → rank (get_or es k d) ≡ rank (get_or page.items k d)
    at k d = ap (λ xs. rank (get_or xs k d)) same

    place_inside : j < length page.items
    place_inside = elim (cases_lt j (length page.items)) [
      | inl a ↦ a
      | inr a ↦ (
          let d : Event = record { step = 0; key = 0; down = false } in
          let n = length page.items - 1 in
          let here = element (λ (p : Vec Event). p.items) pages i page within read n d (omega (arith, some)) in
          let low : rank (get_or es n d) < wanted = below n d (omega (arith, a, some)) in
          let high : wanted ≤ rank (get_or (all_events pages) (count_before pages i + n) d) = last (count_before pages i + n) d within (omega (arith, some, count_more (λ (p : Vec Event). p.items) pages i page within read)) (omega (arith, some, count_within (λ (p : Vec Event). p.items) pages i page within read)) in
          absurd (omega (arith, low, high, ap rank here, at n d)))
    ]

    place_within : count_before pages i + j ≤ length (all_events pages)
    place_within = omega (arith, place_inside, count_within (λ (p : Vec Event). p.items) pages i page within read)

    before_place : (k : ℕ) (d : Event) → k < count_before pages i + j → rank (get_or (all_events pages) k d) < wanted
    before_place k d l = elim (cases_lt k (count_before pages i)) [
      | inl a ↦ earlier k d a
      | inr a ↦ (
          let n = k - count_before pages i in
          let is : k ≡ count_before pages i + n = omega (arith, a) in
          let low : n < j = omega (arith, l, is) in
          omega (arith, below n d low, at n d, ap rank (element (λ (p : Vec Event). p.items) pages i page within read n d (omega (arith, low, place_inside))), ap (λ m. rank (get_or (all_events pages) m d)) is))
    ]

    after_place : (k : ℕ) (d : Event) → count_before pages i + j ≤ k → k < length (all_events pages) → wanted ≤ rank (get_or (all_events pages) k d)
    after_place =
        above_all (all_events pages) order (count_before pages i + j) wanted (λ d. omega (arith, above j d (omega arith) (omega (arith, place_inside, ap length same)), at j d, ap rank (element (λ (p : Vec Event). p.items) pages i page within read j d place_inside)))

    pub placed_in : (j < length page.items) × (count_before pages i + j ≤ length (all_events pages))
        × ((k : ℕ) (d : Event) → k < count_before pages i + j → rank (get_or (all_events pages) k d) < wanted)
        × ((k : ℕ) (d : Event) → count_before pages i + j ≤ k → k < length (all_events pages) → wanted ≤ rank (get_or (all_events pages) k d))
    placed_in = (place_inside, place_within, before_place, after_place)
