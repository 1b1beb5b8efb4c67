-- The output of `list`, `syms`, `run` and `picture`, and the effects of a session (chosen by this project).
use Rattle.std.specs.Prelude.{◌≡◌, ◌⊎◌, ℕ, Bool, true, false, List, ◌++◌, Option, Some, None, Result, Ok, Err}
use Rattle.chip_asm.specs.Lines.{open_fault}
use Rattle.chip_asm.specs.Program.{image_of, symbols_of}
use Rattle.chip_asm.specs.Listing.{listing_of}
use Rattle.chip_session.specs.Answers.{answer_to, listing_text, symbols_text}
use Rattle.chip_session.specs.KeyFile.{key_fault, session_under}
use Rattle.chip_session.specs.Refusals.{refusal_code}
use Rattle.chip_session.specs.Session.{Session, session_of}
use Rattle.chip_session.specs.Settings.{SessionSettings}
use Rattle.chip_session.specs.Tally.{Tally}
use Rattle.chip_session.specs.Text.{full_stop}
use Rattle.chip_session.specs.Transcript.{refused}
use Rattle.chip_views.specs.Hexadecimal.{hex_listing, hex_symbols}
use Rattle.chip_host.specs.declared.ending.Ending.{Ending}
use Rattle.chip_host.specs.declared.ending.Ending.TheVariants.{Done, Faulty}
use Rattle.chip_host.specs.declared.ending.Failure.{Failure}
use Rattle.chip_bench.specs.declared.output.Table.{Table}
use Rattle.chip_bench.specs.declared.output.Table.TheVariants.{Listing, Symbols}
use Rattle.chip_host.specs.declared.ending.Failure.TheVariants as failure
use Rattle.chip_session.specs.Pictures.{picture_asked}
use Rattle.chip_session.specs.declared.picture.PictureForm.{PictureForm}
use Rattle.chip_session.specs.declared.question.Question.TheVariants.{Registers, Screen}
use Rattle.chip_session.specs.declared.refusal.Refusal.{Refusal}
use Rattle.chip_session.specs.declared.refusal.Refusal.TheVariants.{NoImage}
use Rattle.chip_host.specs.Printing.{Printed, printed, printed_faults, ending_with, IfOpens}

-- `list` and `syms`, with values in decimal or in hexadecimal; if the source has no image, `syms`
-- prints the faults instead of the symbols
abbrev pub table_with : Option (List ℕ) → Table → (is_hex : Bool) → List (List ℕ) → Printed
table_with image Listing false lines = printed (listing_text (listing_of lines)) (ending_with image)
table_with image Listing true lines = printed (listing_text (hex_listing lines)) (ending_with image)
table_with (Some image) Symbols false lines = printed (symbols_text (symbols_of lines)) Done
table_with (Some image) Symbols true lines =
    printed (hex_symbols (symbols_of lines) ++ full_stop) Done
table_with None Symbols is_hex lines = printed_faults lines

abbrev pub printed_table : Table → (is_hex : Bool) → List (List ℕ) → Printed
printed_table table is_hex lines = table_with (image_of lines) table is_hex lines

-- the output for a refused question: the faults if there is no image, otherwise the code of the refusal
abbrev pub unanswered : Refusal → Printed → Printed
unanswered NoImage faults = faults
unanswered why faults = printed (refused (refusal_code why)) Faulty

abbrev pub answer_or_why : Result (List ℕ) Refusal → Printed → Printed
answer_or_why (Ok answer) faults = printed answer Done
answer_or_why (Err why) faults = unanswered why faults

abbrev pub both_answers : Result (List ℕ) Refusal → Result (List ℕ) Refusal
    → Result (List ℕ) Refusal
both_answers (Ok registers) (Ok screen) = Ok (registers ++ screen)
both_answers (Ok registers) (Err why) = Err why
both_answers (Err why) screen = Err why

-- `run`: the answers to both questions, or the reason why there are none
abbrev pub printed_run : Session → ℕ → Printed
printed_run session step =
    answer_or_why (both_answers (answer_to session (Registers step))
    (answer_to session (Screen step))) (printed_faults session.lines)

-- `picture`: the picture, or the reason why there is none
abbrev pub printed_picture : Session → ℕ → PictureForm → Printed
printed_picture session step form =
    answer_or_why (picture_asked session form step) (printed_faults session.lines)

module _ {W : Type 0} (contents : W → Option (List ℕ)) (old new : Tally W) where
  -- The effects of a command if all key events can be added. Otherwise nothing was printed, and the
  -- failure contains the number of the first refused line and its code.
  abbrev pub UnlessRefused : Option (ℕ × List ℕ) → (Did : Result Ending Failure → Type 0)
      → Result Ending Failure → Type 0
  UnlessRefused None Did result = Did result
  UnlessRefused (Some line) Did (Err (failure.BadKeys name number code)) =
      (line ≡ (number, code.0.now)) × (new ≡ old)
  UnlessRefused (Some line) Did _ = ⊥

  -- The effects of a command on the session of a source with these settings, under the key events
  -- of a file. If the source doesn't open, the command prints why. If a line of the key file is
  -- refused, the failure names the first such line. If memory ran out, nothing was printed.
  abbrev pub WithSession : SessionSettings → (source keys : List ℕ)
      → (Session → Result Ending Failure → Type 0) → Result Ending Failure → Type 0
  WithSession settings source keys Did result =
      IfOpens contents old new (open_fault source)
      (UnlessRefused (key_fault (session_of settings source) keys)
      (Did (session_under (session_of settings source) keys))) result
      ⊎ ((result ≡ Err failure.OutOfMemory) × (new ≡ old))
