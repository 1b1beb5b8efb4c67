-- The picture of the screen at a step, which depends only on the lines, the key events and the
-- settings of the session (chosen by this project).
use Rattle.std.specs.Prelude.{ℕ, List, nat_lt, Option, Some, None, Result, Ok, Err, if◌then◌else◌}
use Rattle.chip_asm.specs.Program.{image_of}
use Rattle.chip_machine.specs.State.{State}
use Rattle.chip_replay.specs.Limits.{last_step}
use Rattle.chip_views.specs.Bitmap.{pbm_of, scaled_pbm_of}
use Rattle.chip_views.specs.Picture.{picture_of}
use Rattle.chip_views.specs.Png.{png_of, scaled_png_of}
use Rattle.chip_session.specs.Answers.{machine_at}
use Rattle.chip_session.specs.Session.{Session}
use Rattle.chip_session.specs.declared.picture.PictureForm.{PictureForm}
use Rattle.chip_session.specs.declared.picture.PictureForm.TheVariants as form
use Rattle.chip_session.specs.declared.refusal.Refusal.{Refusal}
use Rattle.chip_session.specs.declared.refusal.Refusal.TheVariants.{NoImage, StepPastLast}

-- the picture of a state's screen
abbrev pub picture_by : PictureForm → State → List ℕ
picture_by (form.Text letters) s = picture_of letters s
picture_by form.Bitmap s = pbm_of s
picture_by form.Png s = png_of s
picture_by (form.ScaledBitmap scale) s = scaled_pbm_of scale s
picture_by (form.ScaledPng scale) s = scaled_png_of scale s

abbrev pub picture_of_image : Session → PictureForm → ℕ → Option (List ℕ) → Result (List ℕ) Refusal
picture_of_image session form step None = Err NoImage
picture_of_image session form step (Some image) =
    if nat_lt last_step step then Err StepPastLast
    else Ok (picture_by form (machine_at session image step))

-- the bytes of the picture, or the first refusal that applies
abbrev pub picture_asked : Session → PictureForm → ℕ → Result (List ℕ) Refusal
picture_asked session form step = picture_of_image session form step (image_of session.lines)
