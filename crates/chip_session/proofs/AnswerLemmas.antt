-- An answer computed from the kept run is the answer in the definition.
use Rattle.std.proofs.Common.{◌≡◌, ℕ, List, [], Option, Some, None, Ok, false, refl, sym, ap, ◌∙◌}
use Rattle.std.specs.Prelude.{is_none, nat_lt, unwrap_or}
use Rattle.chip_asm.specs.Program.{image_of}
use Rattle.chip_machine.specs.Start.{start_of}
use Rattle.chip_machine.specs.State.{State}
use Rattle.chip_machine.specs.Step.{step_of}
use Rattle.chip_replay.specs.Keys.{held}
use Rattle.chip_replay.specs.Limits.{last_step}
use Rattle.chip_replay.specs.Run.{run}
use Rattle.chip_session.specs.declared.picture.PictureForm.{PictureForm}
use Rattle.chip_session.specs.declared.question.StateQuestion.{StateQuestion}
use Rattle.chip_session.specs.Kept.{KeptRun, session_on, IsLastImage, machine_after}
use Rattle.chip_session.specs.Pictures.{picture_by, picture_of_image}
use Rattle.chip_session.specs.Answers.{state_answer, step_refusal, unless_refused, answer_at, machine_at, machine_of}

-- the states of the kept run are those of the session's machine
pub same_machine : (lines : List (List ℕ)) (kept : KeptRun) (image : List ℕ) → kept.last_image ≡ image → machine_after kept ≡ machine_at (session_on lines kept) image
unfolding machine_at
same_machine lines kept image is =
    let machine : List ℕ → ℕ → State = λ bytes step. run step_of kept.settings.rate (held kept.keys) (start_of bytes kept.settings.tape kept.settings.quirks) step in
    ap machine is

same_state : (lines : List (List ℕ)) (kept : KeptRun) (image : List ℕ) (step : ℕ) → kept.last_image ≡ image →
    machine_after kept step ≡ machine_at (session_on lines kept) image step
same_state lines kept image step is = ap (λ state. state step) (same_machine lines kept image is)

-- the case in which the lines have an image
pub machine_is : (lines : List (List ℕ)) (kept : KeptRun) → IsLastImage (image_of lines) kept.last_image → is_none (image_of lines) ≡ false →
    machine_after kept ≡ machine_of (session_on lines kept)
machine_is lines kept last some =
    let image : List ℕ = unwrap_or (image_of lines) [] in
    same_machine lines kept image (last image (some_is (image_of lines) some))
  where
    some_is : (o : Option (List ℕ)) → is_none o ≡ false → o ≡ Some (unwrap_or o [])
    some_is None e = cc
    some_is (Some x) e = refl

pub is_answer : (lines : List (List ℕ)) (kept : KeptRun) (image : Option (List ℕ)) (asked : StateQuestion) (step : ℕ) (bytes : List ℕ) →
    IsLastImage image kept.last_image → is_none image ≡ false → step_refusal asked step ≡ None →
    bytes ≡ state_answer asked (machine_after kept step) →
    answer_at (session_on lines kept) asked step image ≡ Ok bytes
is_answer lines kept None asked step bytes is some fits answer = cc
is_answer lines kept (Some image) asked step bytes is some fits answer =
    ap (λ refusal. unless_refused refusal (state_answer asked (machine_at (session_on lines kept) image step))) fits
    ∙ ap (λ b. Ok b) (ap (state_answer asked) (sym (same_state lines kept image step (is image refl))) ∙ sym answer)

pub is_picture : (lines : List (List ℕ)) (kept : KeptRun) (image : Option (List ℕ)) (form : PictureForm) (step : ℕ) (bytes : List ℕ) →
    IsLastImage image kept.last_image → is_none image ≡ false → nat_lt last_step step ≡ false →
    bytes ≡ picture_by form (machine_after kept step) →
    picture_of_image (session_on lines kept) form step image ≡ Ok bytes
is_picture lines kept None form step bytes is some fits picture = cc
is_picture lines kept (Some image) form step bytes is some fits picture =
    rw fits (ap (λ b. Ok b) (ap (picture_by form) (sym (same_state lines kept image step (is image refl))) ∙ sym picture))
