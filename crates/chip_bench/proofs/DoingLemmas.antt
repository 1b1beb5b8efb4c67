-- The effects of each command, derived from the effects of its steps.
use Rattle.std.proofs.Common.{◌≡◌, inl, inr, ℕ, Bool, true, false, List, [], ◌++◌, append_assoc, Option, Some, None, Err, refl, sym, ◌∙◌, ap, subst}
use Rattle.std.specs.Prelude.{MatchOption}
use Rattle.std.specs.Borrow.{Bor}
use Rattle.chip_asm.specs.Lines.{lines_of, open_fault}
use Rattle.chip_asm.specs.Program.{image_of}
use Rattle.chip_host.specs.Reading.{AsSource, Declined, IsImageRefused, IsSourceUnread, IsAsked, IsGiven, IsNotGiven, IsNotTaken, IsTaken, IsUnasked}
use Rattle.chip_bench.specs.Doing.{Assembles, Debugs, Does, IsExplanation, IsUnexplained, Pictures, PicturesBy, PrintsTable, Runs, Tells, Traces, TracesBy, WritesBy}
use Rattle.chip_host.specs.Endings.{IsUnsettled, Outcome}
use Rattle.chip_pages.specs.Pages.{IsExplained}
use Rattle.chip_host.specs.Printing.{IfOpens, Printed, Prints, ending_with, printed, printed_faults}
use Rattle.chip_bench.specs.Printing.{WithSession, printed_picture, printed_run}
use Rattle.chip_arguments.specs.declared.command_line.PictureArguments.{PictureArguments}
use Rattle.chip_bench.specs.Running.{AnswersScript}
use Rattle.chip_session.specs.Settings.{SessionSettings}
use Rattle.chip_host.specs.SettingArguments.{settings_asked}
use Rattle.chip_session.specs.Session.{Session}
use Rattle.chip_session.specs.Tally.{Tally}
use Rattle.chip_arguments.specs.declared.command_line.CommandLine.{CommandLine}
use Rattle.chip_arguments.specs.declared.command_line.RunArguments.{RunArguments}
use Rattle.chip_arguments.specs.declared.command_line.SettingArguments.{SettingArguments}
use Rattle.chip_arguments.specs.declared.command_line.TraceArguments.{TraceArguments}
use Rattle.chip_host.specs.declared.ending.Ending.TheVariants.{Done}
use Rattle.chip_host.specs.declared.ending.Failure.{Failure}
use Rattle.chip_host.specs.declared.ending.Failure.TheVariants as failure
use Rattle.chip_host.specs.declared.reading.AskedRun.{AskedRun}
use Rattle.chip_session.specs.declared.server.ServeError.TheVariants as fault
use Rattle.chip_bench.proofs.RunningLemmas.{stays_put}
use Rattle.chip_host.proofs.ReadingLemmas.{Unsettles, fails, given_else, given_then, unsettles, source_unread, asked_then, asked_not}
use Rattle.chip_host.proofs.OpenedLemmas.{refused}

module _ {R W : Type 0} (remaining : R → Option (List ℕ)) (contents : W → Option (List ℕ)) (in_old in_new : Tally R) (out_old out_new : Tally W) where
  -- a session on the bytes of a file
  pub debugs_file : (source : Option (Bor (List ℕ))) (is_image : Bool) (name : Bor (List ℕ)) (arguments : SettingArguments) (settings : SessionSettings)
      (bytes text : List ℕ) (ended : Outcome) → source ≡ Some name → settings_asked arguments ≡ Some settings → IsTaken is_image name bytes text →
      AnswersScript remaining contents settings text in_old in_new out_old out_new ended →
      Debugs remaining contents in_old in_new out_old out_new source is_image arguments ended
  debugs_file source is_image name arguments settings bytes text ended some asked taken script =
      rw (some, asked) (inl (inl (bytes, by_kind is_image taken)))
    where
      by_kind : (is_image : Bool) → IsTaken is_image name bytes text →
          AsSource is_image name ((in_new ≡ in_old) × (out_new ≡ out_old))
          (λ source. AnswersScript remaining contents settings source in_old in_new out_old out_new) bytes ended
      by_kind false is = rw is script
      by_kind true (inl (short, is)) = inl (short, rw is script)
      by_kind true (inr (none, _)) = absurd none

  pub does_it : (takes_color : Bool) (asked other : CommandLine) (ended : Outcome) → asked ≡ other →
      Does remaining contents in_old in_new out_old out_new takes_color other ended → Does remaining contents in_old in_new out_old out_new takes_color asked ended
  does_it takes_color asked other ended e did =
      subst (λ (line : CommandLine). Does remaining contents in_old in_new out_old out_new takes_color line ended) (sym e) did

module _ {R W : Type 0} (remaining : R → Option (List ℕ)) (contents : W → Option (List ℕ)) (input : Tally R) (output : Tally W) where
  -- the settings of the session can't be built
  pub debugs_unsettled : (source : Option (Bor (List ℕ))) (is_image : Bool) (arguments : SettingArguments) (ended : Outcome) (why : Failure) → ended ≡ Err why →
      Unsettles (settings_asked arguments) why → Debugs remaining contents input input output output source is_image arguments ended
  debugs_unsettled None is_image arguments ended why e u = by_asked (settings_asked arguments) u
    where
      by_asked : (asked : Option SessionSettings) → Unsettles asked why →
          MatchOption asked (Declined remaining input input (output ≡ output) IsUnsettled ended)
          (λ settings. AnswersScript remaining contents settings [] input input output output ended)
      by_asked None u = unsettles remaining input input (output ≡ output) refl None (λ settings ended. ⊥) ended why e refl u
      by_asked (Some settings) (inl m) = (Err fault.OutOfMemory, (e ∙ ap (λ f. Err f) m, stays_put remaining contents settings input output))
      by_asked (Some settings) (inr b) = absurd (let n : Some settings ≡ None = b.1 in cc)
  debugs_unsettled (Some name) is_image arguments ended why e u = unsettles remaining input input (output ≡ output) refl (settings_asked arguments) _ ended why e refl u

  -- the file is an image that is refused
  pub debugs_refused : (source : Option (Bor (List ℕ))) (is_image : Bool) (name : Bor (List ℕ)) (arguments : SettingArguments) (settings : SessionSettings)
      (bytes : List ℕ) (ended : Outcome) (why : Failure) → ended ≡ Err why → source ≡ Some name → settings_asked arguments ≡ Some settings →
      IsNotTaken is_image name bytes why → Debugs remaining contents input input output output source is_image arguments ended
  debugs_refused source is_image name arguments settings bytes ended why e some asked refused =
      rw (some, asked) (inl (inl (bytes, by_kind is_image refused)))
    where
      by_kind : (is_image : Bool) → IsNotTaken is_image name bytes why →
          AsSource is_image name ((input ≡ input) × (output ≡ output))
          (λ source. AnswersScript remaining contents settings source input input output output) bytes ended
      by_kind false is = absurd is
      by_kind true (inl (short, is)) = absurd is
      by_kind true (inr (is, _)) = inr (fails (IsImageRefused name bytes) ended why e is, (refl, refl))

-- there is a page about the code, or there is none
pub explained : (code : Option (Bor (List ℕ))) (name : Bor (List ℕ)) (text : List ℕ) → code ≡ Some name → IsExplained name.now (Some text) →
    IsExplanation code (printed text Done)
explained code name text is found = rw is (found, refl)

pub unexplained : (code : Option (Bor (List ℕ))) (name : Bor (List ℕ)) → code ≡ Some name → IsExplained name.now None →
    IsUnexplained code (failure.NoPage name)
unexplained code name is found = rw is (inr (found, refl))

pub three_parts : (t₀ t₁ t₂ t₃ a b c d : List ℕ) → t₀ ≡ [] → t₁ ≡ t₀ ++ a → t₂ ≡ t₁ ++ b → b ≡ d → t₃ ≡ t₂ ++ c → t₃ ≡ a ++ (d ++ c)
three_parts t₀ t₁ t₂ t₃ a b c d e₀ e₁ e₂ e e₃ =
    e₃ ∙ ap (λ t. t ++ c) (e₂ ∙ ap (λ t. t ++ b) (e₁ ∙ ap (λ t. t ++ a) e₀)) ∙ regrouped a b c ∙ ap (λ t. a ++ (t ++ c)) e
  where
    regrouped : (a b c : List ℕ) → (([] ++ a) ++ b) ++ c ≡ a ++ (b ++ c)
    regrouped a b c = simp append_assoc

module _ {R W : Type 0} (remaining : R → Option (List ℕ)) (contents : W → Option (List ℕ)) (in_old in_new : Tally R) (output : Tally W) where
  -- the source can't be read
  pub tells_not : (printed_by : List (List ℕ) → Printed) (is_image : Bool) (source : Bor (List ℕ)) (ended : Outcome) (why : Failure) → ended ≡ Err why →
      IsNotGiven remaining in_old in_new is_image source why → Tells remaining contents in_old in_new output output printed_by is_image source ended
  tells_not printed_by is_image source ended why e w =
      given_else remaining in_old in_new (output ≡ output) is_image source (PrintsTable contents output output printed_by) ended refl why e w

  pub assembles_unread : (source name : Bor (List ℕ)) (ended : Outcome) (why : Failure) → ended ≡ Err why → IsSourceUnread in_old in_new source why →
      Assembles remaining contents in_old in_new output output source name ended
  assembles_unread source name ended why e w =
      source_unread remaining in_old in_new (output ≡ output) refl source
      (λ bytes. IfOpens contents output output (open_fault bytes) (WritesBy contents output output (ending_with (image_of (lines_of bytes))) (printed_faults (lines_of bytes)) name)) ended why e w

  -- the arguments of `run` can't be read
  pub runs_not : (arguments : RunArguments) (ended : Outcome) (why : Failure) → ended ≡ Err why → IsUnasked remaining in_old in_new arguments why →
      Runs remaining contents in_old in_new output output arguments ended
  runs_not arguments ended why e is =
      asked_not remaining in_old in_new (output ≡ output) arguments
      (λ settings keys source. WithSession contents output output settings source keys (λ session. Prints contents output output (printed_run session arguments.steps))) ended refl why e is

module _ {R W : Type 0} (remaining : R → Option (List ℕ)) (contents : W → Option (List ℕ)) (in_old in_new : Tally R) (old new : Tally W) where
  pub tells : (printed_by : List (List ℕ) → Printed) (is_image : Bool) (source : Bor (List ℕ)) (bytes : List ℕ) (ended : Outcome) →
      IsGiven remaining in_old in_new is_image source bytes → PrintsTable contents old new printed_by bytes ended →
      Tells remaining contents in_old in_new old new printed_by is_image source ended
  tells printed_by is_image source bytes ended given did =
      given_then remaining in_old in_new (new ≡ old) is_image source (PrintsTable contents old new printed_by) ended bytes given did

  pub runs : (arguments : RunArguments) (asked : AskedRun) (ended : Outcome) → IsAsked remaining in_old in_new arguments asked →
      WithSession contents old new asked.settings asked.source.items asked.keys.bytes.items (λ session. Prints contents old new (printed_run session arguments.steps)) ended →
      Runs remaining contents in_old in_new old new arguments ended
  runs arguments asked ended is did =
      asked_then remaining in_old in_new (new ≡ old) arguments
      (λ settings keys source. WithSession contents old new settings source keys (λ session. Prints contents old new (printed_run session arguments.steps))) ended asked is did

module _ {R W : Type 0} (remaining : R → Option (List ℕ)) (contents : W → Option (List ℕ)) (in_old in_new : Tally R) (old new : Tally W) where
  pub traces : (arguments : TraceArguments) (asked : AskedRun) (ended : Outcome) → IsAsked remaining in_old in_new arguments.run asked →
      TracesBy contents old new arguments arguments.against asked.settings asked.keys.bytes.items asked.source.items ended →
      Traces remaining contents in_old in_new old new arguments ended
  traces arguments asked ended is did =
      asked_then remaining in_old in_new (new ≡ old) arguments.run (TracesBy contents old new arguments arguments.against) ended asked is did

  pub traces_not : (arguments : TraceArguments) (why : Failure) (ended : Outcome) → new ≡ old → ended ≡ Err why → IsUnasked remaining in_old in_new arguments.run why →
      Traces remaining contents in_old in_new old new arguments ended
  traces_not arguments why ended same e is =
      asked_not remaining in_old in_new (new ≡ old) arguments.run (TracesBy contents old new arguments arguments.against) ended same why e is

abbrev pub Pictured : {W : Type 0} → (contents : W → Option (List ℕ)) → (old new : Tally W) → PictureArguments → Session → Outcome → Type 0
Pictured contents old new arguments session =
    PicturesBy contents old new (printed_picture session arguments.run.steps) arguments.ascii arguments.scale arguments.bitmap arguments.png

module _ {R W : Type 0} (remaining : R → Option (List ℕ)) (contents : W → Option (List ℕ)) (in_old in_new : Tally R) (old new : Tally W)
    (arguments : PictureArguments) (ended : Outcome) where
  abbrev WithPicture : SessionSettings → List ℕ → List ℕ → Outcome → Type 0
  WithPicture settings keys source = WithSession contents old new settings source keys (Pictured contents old new arguments)

  -- the arguments of `picture` were read, and then the picture was shown
  pub pictures : (asked : AskedRun) → IsAsked remaining in_old in_new arguments.run asked →
      WithSession contents old new asked.settings asked.source.items asked.keys.bytes.items (Pictured contents old new arguments) ended →
      Pictures remaining contents in_old in_new old new arguments ended
  pictures asked is did = asked_then remaining in_old in_new (new ≡ old) arguments.run WithPicture ended asked is did

  -- the arguments of `picture` couldn't be read
  pub pictures_not : (why : Failure) → new ≡ old → ended ≡ Err why → IsUnasked remaining in_old in_new arguments.run why →
      Pictures remaining contents in_old in_new old new arguments ended
  pictures_not why same e is = asked_not remaining in_old in_new (new ≡ old) arguments.run WithPicture ended same why e is
