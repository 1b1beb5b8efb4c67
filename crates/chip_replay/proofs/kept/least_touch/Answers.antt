use Rattle.std.proofs.Common.{◌≡◌, ℕ, ◌+◌, ◌-◌, ◌<◌, ◌≤◌, true, List, length, take, drop, min, max, slice_index, inl, inr, arith, refl, sym, ◌∙◌, ◌⊎◌}
use Rattle.std.proofs.lemmas.Bool.{cases_lt}
use Rattle.std.proofs.lemmas.List.{places}
use Rattle.chip_replay.specs.Image.{AgreeOutside}
use Rattle.chip_machine.specs.State.{differs}
use Rattle.chip_replay.specs.Limits.{image_room, image_start}
use Rattle.chip_replay.proofs.Places.{not_alike, get_or-part, differs-part, IsLeast, least_more}
use Rattle.chip_replay.proofs.kept.least_touch.Goals as goal
use Rattle.chip_replay.proofs.kept.least_touch.Goals.{then-byte_at, else-byte_at}

-- the indexes that both images have determine the result for all indexes, up to the first index that
-- only one image has
module _ (table old new : List ℕ) (reach least from to first end shorter n m : ℕ) (agree : AgreeOutside first end old new) (is_from : from ≡ min first to) (is_to : to ≡ min end shorter) (few : shorter ≤ image_room) (same_n : n ≡ to - from) (same_m : m ≡ to - from) where
  so_far : (size : ℕ) → size ≡ to - from → least ≤ reach
      → ((k : ℕ) → differs (take n (drop from old)) (take n (drop from new)) k ≡ true → least ≤ slice_index (take m (drop (image_start + from) table)) k)
      → (least ≡ reach) ⊎ ((k : ℕ) × (k < size) × (differs (take n (drop from old)) (take n (drop from new)) k ≡ true) × (least ≡ slice_index (take m (drop (image_start + from) table)) k))
      → IsLeast (λ k. slice_index table (image_start + k)) old new (max first shorter) image_room reach least
  so_far size is within part attained =
      record {
        within = within;
        least = λ k l d. elim (cases_lt k from) [
          | inl a ↦ absurd (not_alike old new k (agree.before k (omega arith)) d)
          | inr a ↦ elim (cases_lt k to) [
            | inl b ↦ (
                let there : differs (take n (drop from old)) (take n (drop from new)) (k - from) ≡ true = differs-part old new from n k (k - from) (omega arith) (omega arith) ∙ d in
                omega (arith, part (k - from) there, get_or-part table (image_start + from) m (image_start + k) (k - from) (omega arith) (omega arith)))
            | inr b ↦ elim (cases_lt k end) [
              | inl below ↦ absurd (not_alike old new k (agree.before k (omega arith)) d)
              | inr past ↦ absurd (not_alike old new k (agree.after k past) d)
            ]
          ]
        ];
        attained = elim attained [
          | inl e ↦ inl e
          | inr e ↦ (
              let k = e.0 in
              let low : k < n = omega (arith, e.1) in
              inr (
                from + k,
                omega arith,
                sym (differs-part old new from n (from + k) k low refl) ∙ e.2,
                e.3 ∙ get_or-part table (image_start + from) m (image_start + (from + k)) k (omega arith) (omega arith),
              ))
        ];
      }

length-part : (xs : List ℕ) (a n : ℕ) → a + n ≤ length xs → length (take n (drop a xs)) ≡ n
length-part xs a n l = grind (arith, places)

pub loop-i-init : goal.loop-i-init
loop-i-init c =
    let table = c.args.first_touch.now in
    let old = c.args.old.now in
    let new = c.args.new.now in
    let least = c.least_at_changes-least in
    let from = c.min-from.result in
    let to = c.min-to.result in
    let shorter = c.min-shorter.result in
    let n = to - from in
    let m = image_start + to - (image_start + from) in
    let few : shorter ≤ image_room = omega (arith, c.min-shorter.ensures, c.requires.old_fits) in
    let same_m : m ≡ to - from = omega arith in
    let size : length (take m (drop (image_start + from) table)) ≡ to - from = length-part table (image_start + from) m (omega (arith, few, c.requires.table, c.min-to.ensures, c.min-from.ensures)) ∙ same_m in
    rw c.max-i.ensures (so_far table old new c.args.reach least.result from to c.args.first c.args.end shorter n m c.requires.alike c.min-from.ensures c.min-to.ensures few refl same_m
    _ size least.ensures.within least.ensures.least least.ensures.attained)

pub loop-i-preserved : goal.loop-i-preserved
loop-i-preserved c =
    let old = c.args.old.now in
    let new = c.args.new.now in
    let touch = λ (k : ℕ). slice_index c.args.first_touch.now (image_start + k) in
    let i = c.loop-i.i in
    let inside : i < image_room = omega (arith, c.loop-i-test.true, c.min-i-end.ensures, c.max.ensures, c.requires.old_fits, c.requires.new_fits) in
    let more = least_more touch old new i image_room c.args.reach c.loop-i.least c.if-byte_at.least inside c.loop-i.invariant in
    elim c.if-byte_at.branch [
      | then-byte_at w ↦ more (inl (λ same. w.if-byte_at.true (c.byte_at.ensures ∙ same ∙ sym c.byte_at-in-loop-i.ensures), w.least-is ∙ w.min-least.ensures))
      | else-byte_at w ↦ more (inr (sym c.byte_at.ensures ∙ w.if-byte_at.false ∙ c.byte_at-in-loop-i.ensures, w.least-is))
    ]
