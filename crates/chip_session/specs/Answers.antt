-- The answer to each question, which depends only on the lines, the key events and the settings of
-- the session (chosen by this project).
use Rattle.std.specs.Prelude.{ℕ, ◌+◌, ◌*◌, Bool, false, List, [], ◌∷◌, ◌++◌, nat_lt, unwrap_or, if◌then◌else◌, codes, Option, Some, None, Result, Ok, Err}
use Rattle.std.specs.List.{flat_map}
use Rattle.std.specs.Fmt.{decimal, signed_decimal}
use Rattle.chip_lang.specs.declared.limits.TheConstants.{MEMORY_BYTES}
use Rattle.chip_lang.specs.declared.fault.Fault.{Fault}
use Rattle.chip_lang.specs.FaultNumber.{number_of_fault}
use Rattle.chip_symbols.specs.declared.table.Symbol.{Symbol}
use Rattle.chip_asm.specs.Program.{image_of, symbols_of, faults_of}
use Rattle.chip_asm.specs.Listing.{listing_of}
use Rattle.chip_machine.specs.State.{State}
use Rattle.chip_machine.specs.Start.{start_of}
use Rattle.chip_machine.specs.Step.{step_of}
use Rattle.chip_replay.specs.Limits.{last_step}
use Rattle.chip_replay.specs.Keys.{held}
use Rattle.chip_replay.specs.Run.{run}
use Rattle.chip_session.specs.Session.{Session}
use Rattle.chip_session.specs.MachineAnswers.{registers_of, memory_line, screen_of, disassembly_of}
use Rattle.chip_session.specs.Text.{full_stop, hex_line}
use Rattle.chip_session.specs.declared.refusal.Refusal.{Refusal}
use Rattle.chip_session.specs.declared.refusal.Refusal.TheVariants.{NoImage, StepPastLast, AddressPastEnd}
use Rattle.chip_session.specs.declared.question.Question.{Question}
use Rattle.chip_session.specs.declared.question.Question.TheVariants.{Image, Symbols, Listing, Faults, Registers, Memory, Screen, Disassembly}
use Rattle.chip_session.specs.declared.question.StateQuestion.{StateQuestion}
use Rattle.chip_session.specs.declared.question.StateQuestion.TheVariants as state

abbrev pub image_answer : Option (List ℕ) → Result (List ℕ) Refusal
image_answer None = Err NoImage
image_answer (Some bytes) = Ok (hex_line bytes)

-- a line for a symbol: its name, its value and its line number
abbrev pub symbol_line : List ℕ × Symbol → List ℕ
symbol_line named =
    named.0 ++ codes " " ++ signed_decimal named.1.value ++ codes " " ++ decimal named.1.line
    ++ 10 ∷ []

abbrev pub symbols_text : List (List ℕ × Symbol) → List ℕ
symbols_text symbols = flat_map symbol_line symbols ++ full_stop

-- a line for a fault: the number of the faulty line, and the fault's code
abbrev pub fault_line : ℕ × Fault → List ℕ
fault_line numbered =
    decimal numbered.0 ++ codes " F" ++ decimal (number_of_fault numbered.1) ++ 10 ∷ []

abbrev pub faults_text : List (ℕ × Fault) → List ℕ
faults_text faults = flat_map fault_line faults ++ full_stop

abbrev pub listing_text : List ℕ → List ℕ
listing_text listing = listing ++ full_stop

-- the step that a question is about, if there is one
abbrev pub step_asked : Question → Option ℕ
step_asked (Registers step) = Some step
step_asked (Memory step at count) = Some step
step_asked (Screen step) = Some step
step_asked (Disassembly step at count) = Some step
step_asked _ = None

-- whether the requested bytes reach past the end of memory
abbrev pub asks_past_end : StateQuestion → Bool
asks_past_end (state.Memory at count) = nat_lt MEMORY_BYTES (at + count)
asks_past_end (state.Disassembly at count) = nat_lt MEMORY_BYTES (at + 2 * count)
asks_past_end _ = false

-- the answer to a question about a state
abbrev pub state_answer : StateQuestion → State → List ℕ
state_answer state.Registers s = registers_of s
state_answer (state.Memory at count) s = memory_line s at count
state_answer state.Screen s = screen_of s
state_answer (state.Disassembly at count) s = disassembly_of s at count

-- the machine with this image after a number of steps from step 0, under the session's key events
-- and settings
unfoldable pub machine_at : Session → List ℕ → ℕ → State
machine_at session image step =
    run step_of session.settings.rate (held session.keys)
    (start_of image session.settings.tape session.settings.quirks) step

-- the machine at each step, started with the session's image, or with the empty image if there is none
abbrev pub machine_of : Session → ℕ → State
machine_of session = machine_at session (unwrap_or (image_of session.lines) [])

-- the first refusal that applies to a question about a step, if there is one
abbrev pub step_refusal : StateQuestion → ℕ → Option Refusal
step_refusal asked step =
    if nat_lt last_step step then Some StepPastLast
    else if asks_past_end asked then Some AddressPastEnd
    else None

abbrev pub unless_refused : Option Refusal → List ℕ → Result (List ℕ) Refusal
unless_refused (Some why) bytes = Err why
unless_refused None bytes = Ok bytes

-- the answer to a question about a step of the run of the image
abbrev pub answer_at : Session → StateQuestion → ℕ → Option (List ℕ) → Result (List ℕ) Refusal
answer_at session asked step None = Err NoImage
answer_at session asked step (Some image) =
    unless_refused (step_refusal asked step) (state_answer asked (machine_at session image step))

-- the bytes that answer a question, or the first refusal that applies
abbrev pub answer_to : Session → Question → Result (List ℕ) Refusal
answer_to session Image = image_answer (image_of session.lines)
answer_to session Symbols = Ok (symbols_text (symbols_of session.lines))
answer_to session Listing = Ok (listing_text (listing_of session.lines))
answer_to session Faults = Ok (faults_text (faults_of session.lines))
answer_to session (Registers step) = answer_at session state.Registers step (image_of session.lines)
answer_to session (Memory step at count) =
    answer_at session (state.Memory at count) step (image_of session.lines)
answer_to session (Screen step) = answer_at session state.Screen step (image_of session.lines)
answer_to session (Disassembly step at count) =
    answer_at session (state.Disassembly at count) step (image_of session.lines)
