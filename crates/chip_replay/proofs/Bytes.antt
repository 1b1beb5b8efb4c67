-- A patched memory, byte by byte.
use Rattle.std.proofs.Common.{◌≡◌, ℕ, ◌+◌, ◌-◌, ◌<◌, ◌≤◌, List, ◌++◌, take, drop, length, get_or, slice_index, refl, sym, ap, ◌∙◌, arith, inl, inr, get_or-take, get_or-drop, length-append, length-take, length-drop}
use Rattle.std.specs.Prelude.{replicate}
use Rattle.std.proofs.lemmas.List.{get_or_append_left, get_or-append_right, get_or_past, get_or-replicate, length-replicate}
use Rattle.std.proofs.lemmas.Bool.{cases_lt, cases_eq}
use Rattle.chip_machine.specs.State.{exchanged}
use Rattle.chip_machine.specs.inner.Exchanged.{chosen, chosen-new, chosen-same, is_exchanged}
use Rattle.chip_replay.specs.Image.{padded, with_image, patched}
use Rattle.chip_replay.specs.Limits.{image_room, image_start, memory_size}

length-padded : (image : List ℕ) → length image ≤ image_room → length (padded image) ≡ image_room
length-padded image l =
    length-append image (replicate (image_room - length image) 0) ∙ ap (λ n. length image + n) (length-replicate {A = ℕ} (image_room - length image) 0) ∙ omega arith

get_or-padded : (image : List ℕ) (i : ℕ) → i < image_room → slice_index (padded image) i ≡ slice_index image i
get_or-padded image i l =
    elim (cases_lt i (length image)) [
      | inl a ↦ get_or_append_left image (replicate (image_room - length image) 0) 0 i a
      | inr a ↦ get_or-append_right image (replicate (image_room - length image) 0) (length image) i 0 refl a
          ∙ get_or-replicate {A = ℕ} (image_room - length image) (i - length image) 0 0 (omega arith) ∙ sym (get_or_past image i 0 a)
    ]

-- if the memory contains the old byte, the new byte is chosen
chosen-there : (old new : ℕ) → chosen old old new ≡ new
chosen-there old new = elim (cases_eq old new) [
  | inl same ↦ chosen-same old old new same ∙ same
  | inr apart ↦ chosen-new old old new apart
]

module _ (old new bytes : List ℕ) (old_fits : length old ≤ image_room) (new_fits : length new ≤ image_room) (is_there : drop image_start bytes ≡ padded old) where
  size : length bytes ≡ memory_size
  size = omega (arith, length-drop image_start bytes, ap length is_there, length-padded old old_fits)

  front : length (take image_start bytes) ≡ image_start
  front = length-take image_start bytes ∙ omega (arith, size)

  is_old : (at i : ℕ) → at < length bytes → at ≡ image_start + i → get_or bytes at 0 ≡ get_or old i 0
  is_old at i l e =
      ap (λ k. get_or bytes k 0) e ∙ sym (get_or-drop image_start bytes i 0) ∙ ap (λ xs. get_or xs i 0) is_there ∙ get_or-padded old i (omega (arith, size))

  is_new : (at i : ℕ) → at < length bytes → at ≡ image_start + i → get_or (take image_start bytes ++ padded new) at 0 ≡ get_or new i 0
  is_new at i l e =
      let place : at - image_start ≡ i = omega arith in
      get_or-append_right (take image_start bytes) (padded new) image_start at 0 front (omega arith)
      ∙ ap (λ k. get_or (padded new) k 0) place ∙ get_or-padded new i (omega (arith, size))

  with_new : take image_start bytes ++ padded new ≡ exchanged bytes image_start old new
  with_new =
      is_exchanged bytes (take image_start bytes ++ padded new) image_start old new
      (length-append (take image_start bytes) (padded new) ∙ omega (arith, front, size, length-padded new new_fits))
      (λ at l low. get_or_append_left (take image_start bytes) (padded new) 0 at (omega (arith, front)) ∙ get_or-take image_start bytes at 0 low)
      (λ at i l e. is_new at i l e ∙ sym (ap (λ x. chosen x (get_or old i 0) (get_or new i 0)) (is_old at i l e) ∙ chosen-there (get_or old i 0) (get_or new i 0)))

-- the patched start contains the new image
pub patched-with_image : {S : Type 0} (old new : List ℕ) (memory : S → List ℕ) (with_memory : S → List ℕ → S) (s : S) → length old ≤ image_room → length new ≤ image_room → drop image_start (memory s) ≡ padded old → patched memory with_memory old new s ≡ with_image memory with_memory new s
unfolding patched
patched-with_image old new memory with_memory s lo ln e = ap (with_memory s) (sym (with_new old new (memory s) lo ln e))
