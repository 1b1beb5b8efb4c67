-- The indexes at which two images differ, and the lowest entry of a table at these indexes.
use Rattle.std.proofs.Common.{◌≡◌, ◌≢◌, ℕ, ◌+◌, ◌<◌, ◌≤◌, true, false, List, take, drop, length, get_or, slice_index, ◌⊎◌, inl, inr, arith, sym, ap, ◌∙◌, min, below_more, get_or-take, get_or-drop}
use Rattle.std.specs.Prelude.{◌==◌, not}
use Rattle.std.proofs.lemmas.List.{get_or_past}
use Rattle.std.proofs.lemmas.Bool.{cases_lt, false≢true}
use Rattle.std.proofs.lemmas.Bool.Decides.{nat_tests}
use Rattle.chip_machine.specs.State.{differs}

pub different : (old new : List ℕ) (i : ℕ) → slice_index old i ≢ slice_index new i → differs old new i ≡ true
different old new i apart = grind (arith, nat_tests)

pub alike : (old new : List ℕ) (i : ℕ) → slice_index old i ≡ slice_index new i → differs old new i ≡ false
alike old new i same = grind (arith, nat_tests)

pub not_alike : (old new : List ℕ) (i : ℕ) → slice_index old i ≡ slice_index new i → differs old new i ≡ true → ⊥
not_alike old new i same d = false≢true (sym (alike old new i same) ∙ d)

-- at an index past both images, they agree
pub alike_past : (old new : List ℕ) (i : ℕ) → length old ≤ i → length new ≤ i → slice_index old i ≡ slice_index new i
alike_past old new i lo ln = get_or_past old i 0 lo ∙ sym (get_or_past new i 0 ln)

-- a part of a list
pub get_or-part : (xs : List ℕ) (from n i k : ℕ) → k < n → i ≡ from + k → get_or (take n (drop from xs)) k 0 ≡ get_or xs i 0
get_or-part xs from n i k l e = get_or-take n (drop from xs) k 0 l ∙ get_or-drop from xs k 0 ∙ ap (λ j. get_or xs j 0) (sym e)

pub differs-part : (old new : List ℕ) (from n i k : ℕ) → k < n → i ≡ from + k → differs (take n (drop from old)) (take n (drop from new)) k ≡ differs old new i
differs-part old new from n i k l e =
    ap (λ x. not (x == slice_index (take n (drop from new)) k)) (get_or-part old from n i k l e)
    ∙ ap (λ y. not (slice_index old i == y)) (get_or-part new from n i k l e)

-- v is the minimum of `most` and the table's entries at the indexes below n at which the images
-- differ; it is `most`, or an entry at an index below `room`
pub record IsLeast (touch : ℕ → ℕ) (old new : List ℕ) (n room most v : ℕ) : Type 0 where
  pub within : v ≤ most
  pub least : (i : ℕ) → i < n → differs old new i ≡ true → v ≤ touch i
  pub attained : (v ≡ most) ⊎ ((i : ℕ) × (i < room) × (differs old new i ≡ true) × (v ≡ touch i))

-- one more index, at which the images may differ
pub least_more : (touch : ℕ → ℕ) (old new : List ℕ) (i room most v w : ℕ) → i < room → IsLeast touch old new i room most v
    → ((slice_index old i ≢ slice_index new i) × (w ≡ min v (touch i))) ⊎ ((slice_index old i ≡ slice_index new i) × (w ≡ v))
    → IsLeast touch old new (i + 1) room most w
least_more touch old new i room most v w inside before (inl (apart, is)) =
    record {
      within = omega (arith, is, before.within);
      least = below_more _ _ (λ k l d. omega (arith, is, before.least k l d)) (λ d. omega (arith, is));
      attained = elim (cases_lt v (touch i)) [
        | inl a ↦ (let same : w ≡ v = omega (arith, is) in elim before.attained [ inl b ↦ inl (same ∙ b) | inr b ↦ inr (b.0, b.1, b.2, same ∙ b.3) ])
        | inr a ↦ inr (i, inside, different old new i apart, omega (arith, is))
      ];
    }
least_more touch old new i room most v w inside before (inr (same, is)) =
    rw is (record {
      within = before.within;
      least = below_more _ _ before.least (λ d. absurd (not_alike old new i same d));
      attained = before.attained;
    })
