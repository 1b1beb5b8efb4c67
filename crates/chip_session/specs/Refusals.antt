-- The codes of refusals (chosen by this project).
use Rattle.std.specs.Prelude.{ℕ, Bool, true, false, List, codes}
use Rattle.chip_asm.specs.declared.refusal.Refusal.{Refusal as SourceRefusal}
use Rattle.chip_asm.specs.declared.refusal.Refusal.TheVariants as source
use Rattle.chip_replay.specs.declared.keys.KeyFault.{KeyFault}
use Rattle.chip_replay.specs.declared.keys.KeyFault.TheVariants as key
use Rattle.chip_session.specs.declared.refusal.Refusal.{Refusal}
use Rattle.chip_session.specs.declared.refusal.Refusal.TheVariants as refusal

-- the code of a refused edit of a line; the program never prints N10 or Q4
abbrev pub source_code : SourceRefusal → List ℕ
source_code source.NoSuchLine = codes "N1"
source_code source.TextTooLong = codes "N2"
source_code source.TooManyLines = codes "N3"
source_code source.LineBreak = codes "N4"
source_code source.OutOfMemory = codes "N10"

-- the code of a refused edit of a key event
abbrev pub key_code : KeyFault → List ℕ
key_code key.StepTooLarge = codes "N5"
key_code key.NoSuchKey = codes "N6"
key_code key.EventThere = codes "N7"
key_code key.NoEvent = codes "N8"
key_code key.TooManyEvents = codes "N9"
key_code key.OutOfMemory = codes "N10"

-- the code of a refusal
abbrev pub refusal_code : Refusal → List ℕ
refusal_code (refusal.Source why) = source_code why
refusal_code (refusal.Keys why) = key_code why
refusal_code refusal.NoImage = codes "Q1"
refusal_code refusal.StepPastLast = codes "Q2"
refusal_code refusal.AddressPastEnd = codes "Q3"
refusal_code refusal.AnswerMemory = codes "Q4"

-- whether a refusal is due to a lack of memory
abbrev pub is_for_memory : Refusal → Bool
is_for_memory (refusal.Source source.OutOfMemory) = true
is_for_memory (refusal.Keys key.OutOfMemory) = true
is_for_memory refusal.AnswerMemory = true
is_for_memory why = false
