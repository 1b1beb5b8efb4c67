-- The replay after the image has changed.
use Rattle.std.proofs.Common.{◌≡◌, ℕ, ◌≤◌, ◌++◌, List, length, take, Option, Some, None, inl, inr, refl, sym, subst, ap, ◌∙◌, IfSome}
use Rattle.std.specs.declared.ops.Range.{Range}
use Rattle.std.proofs.lemmas.List.{take-append-drop}
use Rattle.chip_asm.specs.Program.{AgreesOutside}
use Rattle.chip_lang.specs.declared.limits.TheConstants.{IMAGE_BYTES, IMAGE_START}
use Rattle.chip_machine.specs.declared.quirks.Quirks.{Quirks}
use Rattle.chip_machine.specs.State.{State, with_memory, memory_of}
use Rattle.chip_machine.specs.Start.{start_of, start_core, start_memory}
use Rattle.chip_machine.specs.ImageLaw.{ImageAndZeros, SameBelowTheImage}
use Rattle.chip_replay.specs.History.{History}
use Rattle.chip_replay.specs.Image.{AgreeOutside, with_image, padded}
use Rattle.chip_replay.proofs.Changed.{first_below-le}
use Rattle.chip_session.specs.Kept.{KeptRun, FollowsImage, IsLastImage}
use Rattle.chip_session.specs.Settings.{SessionSettings}
use Rattle.chip_session.specs.inner.InStep.{Replays}

-- the start memory with another image in it is the start memory of that image
other_image : (old new : List ℕ) → ImageAndZeros → SameBelowTheImage → length new ≤ IMAGE_BYTES →
    take IMAGE_START (start_memory old) ++ padded new ≡ start_memory new
other_image old new there below fits =
    ap (λ front. front ++ padded new) (below old new)
    ∙ ap (λ rest. take IMAGE_START (start_memory new) ++ rest) (sym (there new fits))
    ∙ take-append-drop IMAGE_START (start_memory new)

-- a start state into which another image is put is the start state of that image
pub restarted : (old new tape : List ℕ) (quirks : Quirks) → ImageAndZeros → SameBelowTheImage → length new ≤ IMAGE_BYTES →
    with_image memory_of with_memory new (start_of old tape quirks) ≡ start_of new tape quirks
restarted old new tape quirks there below fits =
    ap (λ (memory : List ℕ). let state : State = record { core = start_core tape quirks; memory = memory } in state) (other_image old new there below fits)

pub replays_next : (settings : SessionSettings) (old new : List ℕ) (before after : History State) → Replays settings old before →
    ImageAndZeros → SameBelowTheImage → length new ≤ IMAGE_BYTES →
    after.start ≡ with_image memory_of with_memory new before.start → after.rate ≡ before.rate → after.spacing ≡ before.spacing → Replays settings new after
replays_next settings old new before after kept there below fits start rate spacing =
    record {
      start = start ∙ ap (with_image memory_of with_memory new) kept.start ∙ restarted old new settings.tape settings.quirks there below fits;
      rate = rate ∙ kept.rate;
      spacing = spacing ∙ kept.spacing;
      fits = fits;
    }

-- a run whose last image is the image of the lines follows the lines unchanged
pub follows_same : (image : Option (List ℕ)) (kept : KeptRun) → Some kept.last_image ≡ image → FollowsImage image kept kept
follows_same image kept there = subst (λ (now : Option (List ℕ)). FollowsImage now kept kept) there (record {
  last_image = refl;
  with_image = first_below-le _ kept.reach;
  without_image = tt;
})

-- the range that an edit wrote also bounds the changes relative to the last image
pub outside_written : (before after : Option (List ℕ)) (last : List ℕ) (written : Option (Range ℕ)) → IsLastImage before last
    → IfSome written (λ places. AgreesOutside places.start places.end before after)
    → IfSome written (λ places. IfSome after (AgreeOutside places.start places.end last))
outside_written before after last None is told = tt
outside_written None after last (Some places) is told = absurd told
outside_written (Some old) None last (Some places) is told = tt
outside_written (Some old) (Some new) last (Some places) is told =
    rw (is old refl) (record { before = λ i front. told i (inl front); after = λ i behind. told i (inr behind) })
