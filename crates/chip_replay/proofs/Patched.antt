-- Patching bytes that no step touches and then running has the same result as running first and then
-- patching.
use Rattle.std.proofs.Common.{◌≡◌, ℕ, zero, suc, ◌+◌, ◌-◌, ◌<◌, ◌≤◌, Bool, true, false, List, length, get_or, slice_index, slice_index_or, refl, sym, ap, ◌∙◌, arith, inl, inr}
use Rattle.std.specs.Prelude.{All, IsFalse, nat_le, nat_lt, ◌==◌, ◌&&◌, if◌then◌else◌}
use Rattle.std.proofs.lemmas.List.{ext_get_or, get_or_past}
use Rattle.std.proofs.lemmas.List.Folds.{list_any_at}
use Rattle.std.proofs.lemmas.Bool.{and_parts, cases_lt, eq-eqb, false≢true, leb-true, ltb-true}
use Rattle.std.proofs.lemmas.Bool.Decides.{nat_tests}
use Rattle.chip_machine.specs.State.{differ_at, exchanged}
use Rattle.chip_machine.specs.Touched.{touched}
use Rattle.chip_machine.specs.inner.Exchanged.{length-exchanged, get_or-exchanged}
use Rattle.chip_replay.proofs.TracedLaws.{IsTraced}
use Rattle.chip_replay.specs.Frame.{AgreeOff, IsFramed}
use Rattle.chip_machine.specs.Block.{ticks}
use Rattle.chip_replay.specs.Run.{run}
use Rattle.chip_replay.specs.Image.{patched}
use Rattle.chip_machine.specs.State.{differs}
use Rattle.chip_replay.specs.Limits.{image_room, image_start, memory_size}

off_within : (at size : ℕ) (b : Bool) → at < size → (nat_lt at size && b) ≡ false → b ≡ false
off_within at size b l e =
    let test : nat_lt at size ≡ true = grind (arith, nat_tests) in
    sym (ap (λ t. t && b) test) ∙ e

module _ {S : Type 0} (memory : S → List ℕ) (with_memory : S → List ℕ → S) (proper : S → Type 0) (touches : S → List ℕ) (after : S → ℕ → Bool → S) (laws : IsTraced memory with_memory proper touches after) where
  pub run-proper : (rate : ℕ) (held : ℕ → ℕ) (start : S) → proper start → (t : ℕ) → proper (run after rate held start t)
  run-proper rate held start p zero = p
  run-proper rate held start p (suc t) =
      laws.by_step _ (held t) (ticks rate t) (run-proper rate held start p t)

  module _ (old new : List ℕ) where
    -- the next step of a state touches no byte at which the images differ
    abbrev pub AllUntouched : S → Type 0
    AllUntouched s = (i : ℕ) → i < image_room → differs old new i ≡ true → touched touches s (image_start + i) ≡ false

    -- the addresses of the memory at which the images differ
    abbrev changed : ℕ → Bool
    changed at = nat_lt at memory_size && differ_at image_start old new at

    place : (at : ℕ) → changed at ≡ true → (image_start + (at - image_start) ≡ at) × ((at - image_start < image_room) × (differs old new (at - image_start) ≡ true))
    place at e =
        let inside = and_parts (nat_lt at memory_size) (differ_at image_start old new at) e in
        let there = and_parts (nat_le image_start at) (differs old new (at - image_start)) inside.1 in
        let within : at < memory_size = ltb-true at memory_size inside.0 in
        let low : image_start ≤ at = leb-true image_start at there.0 in
        (omega arith, (omega arith, there.1))

    misses : (s : S) → AllUntouched s → All (λ at. IsFalse (changed at)) (touches s)
    misses s u = λ k d l.
        let at = slice_index_or (touches s) k d in
        elim (changed at) as (λ b. changed at ≡ b → b ≡ false) [
          | true ↦ λ e. (
              let there = place at e in
              absurd (false≢true (sym (u (at - image_start) there.1.0 there.1.1) ∙ ap (touched touches s) there.0 ∙ list_any_at (λ a. at == a) (touches s) k d l (eq-eqb at at refl))))
          | false ↦ λ e. refl
        ] refl

    back : (s : S) → memory (patched memory with_memory old new s) ≡ exchanged (memory s) image_start old new
    unfolding patched
    back s = laws.part.read_back s (exchanged (memory s) image_start old new)

    pub patched-proper : (s : S) → proper s → proper (patched memory with_memory old new s)
    unfolding patched
    patched-proper s p =
        laws.changed s (exchanged (memory s) image_start old new) p (length-exchanged (memory s) image_start old new ∙ laws.size s p)

    -- a byte of the memory
    stays : (m : List ℕ) (at : ℕ) → length m ≡ memory_size → changed at ≡ false → get_or m at 0 ≡ get_or (exchanged m image_start old new) at 0
    stays m at size off =
        elim (cases_lt at memory_size) [
          | inl l ↦
              sym (get_or-exchanged m image_start old new at (omega (arith, size))
              ∙ ap (λ b. if b then slice_index new (at - image_start) else slice_index m at) (off_within at memory_size (differ_at image_start old new at) l off))
          | inr l ↦
              get_or_past m at 0 (omega (arith, size))
              ∙ sym (get_or_past (exchanged m image_start old new) at 0 (omega (arith, size, length-exchanged m image_start old new)))
        ]

    goes : (m n : List ℕ) (at : ℕ) → length m ≡ memory_size → length n ≡ memory_size → changed at ≡ true → get_or (exchanged m image_start old new) at 0 ≡ get_or (exchanged n image_start old new) at 0
    goes m n at sm sn on =
        let inside = and_parts (nat_lt at memory_size) (differ_at image_start old new at) on in
        let within : at < memory_size = ltb-true at memory_size inside.0 in
        get_or-exchanged m image_start old new at (omega (arith, sm))
        ∙ ap (λ b. if b then slice_index new (at - image_start) else slice_index m at) inside.1
        ∙ sym (get_or-exchanged n image_start old new at (omega (arith, sn))
        ∙ ap (λ b. if b then slice_index new (at - image_start) else slice_index n at) inside.1)

    agree : (s : S) → proper s → AgreeOff memory with_memory changed s (patched memory with_memory old new s)
    unfolding patched
    agree s p =
        record {
          rest = ap (with_memory s) (back s);
          bytes = λ at off. stays (memory s) at (laws.size s p) off ∙ sym (ap (λ m. slice_index m at) (back s));
        }

    framed : (s : S) (keys : ℕ) (tick : Bool) → proper s → AllUntouched s → IsFramed memory with_memory (λ s. after s keys tick) touches changed s (patched memory with_memory old new s)
    framed s keys tick p u = laws.frame changed keys tick s (patched memory with_memory old new s) p (patched-proper s p) (agree s p) (misses s u)

    pub same_touches : (s : S) → proper s → AllUntouched s → touches (patched memory with_memory old new s) ≡ touches s
    same_touches s p u = (framed s 0 false p u).same_touches

    -- the bytes after the step
    same_bytes : (s : S) (keys : ℕ) (tick : Bool) → proper s → AllUntouched s → memory (after (patched memory with_memory old new s) keys tick) ≡ exchanged (memory (after s keys tick)) image_start old new
    same_bytes s keys tick p u =
        let t = patched memory with_memory old new s in
        let law = framed s keys tick p u in
        let first : length (memory (after s keys tick)) ≡ memory_size = laws.size _ (laws.by_step s keys tick p) in
        let second : length (memory (after t keys tick)) ≡ memory_size = laws.size _ (laws.by_step t keys tick (patched-proper s p)) in
        ext_get_or 0 (memory (after t keys tick)) (exchanged (memory (after s keys tick)) image_start old new)
        (second ∙ sym (length-exchanged (memory (after s keys tick)) image_start old new ∙ first))
        (λ at l. elim (changed at) as (λ b. changed at ≡ b → get_or (memory (after t keys tick)) at 0 ≡ get_or (exchanged (memory (after s keys tick)) image_start old new) at 0) [
          | true ↦ λ on. law.second_keeps at on ∙ ap (λ m. slice_index m at) (back s) ∙ goes (memory s) (memory (after s keys tick)) at (laws.size s p) first on
          | false ↦ λ off. sym (law.still_agree.bytes at off) ∙ stays (memory (after s keys tick)) at first off
        ] refl)

    pub after-patched : (s : S) (keys : ℕ) (tick : Bool) → proper s → AllUntouched s → after (patched memory with_memory old new s) keys tick ≡ patched memory with_memory old new (after s keys tick)
    unfolding patched
    after-patched s keys tick p u =
        sym (framed s keys tick p u).still_agree.rest ∙ ap (with_memory (after s keys tick)) (same_bytes s keys tick p u)

    -- the state of the new run is the patched state of the old run, if no earlier step has touched a
    -- changed byte
    pub run-patched : (rate : ℕ) (held : ℕ → ℕ) (start : S) → proper start → (t : ℕ) → ((r : ℕ) → r < t → AllUntouched (run after rate held start r)) → run after rate held (patched memory with_memory old new start) t ≡ patched memory with_memory old new (run after rate held start t)
    run-patched rate held start p zero u = refl
    run-patched rate held start p (suc t) u =
        let rest : run after rate held (patched memory with_memory old new start) t ≡ patched memory with_memory old new (run after rate held start t) = run-patched rate held start p t (λ r l. u r (omega arith)) in
        ap (λ s. after s (held t) (ticks rate t)) rest
        ∙ after-patched (run after rate held start t) (held t) (ticks rate t) (run-proper rate held start p t) (u t (omega arith))
