-- The last lines of `prove` by the numbers that the code has (chosen by this project).
use Rattle.std.specs.Prelude.{Bool, ℕ, List, codes, option_map}
use Rattle.chip_analysis.specs.Proving.{counts_text}
use Rattle.chip_analysis.specs.declared.counts.Counts.{Counts}
use Rattle.chip_analysis.specs.declared.progress.Bound.{Bound}
use Rattle.chip_analysis.specs.declared.progress.Bound.TheVariants.{Seconds, Memory, States}

-- the name of a bound, as JSON has it
abbrev pub word_of : Bound → List ℕ
word_of Seconds = codes "seconds"
word_of Memory = codes "memory"
word_of States = codes "states"

abbrev pub counts_of : (is_json : Bool) (name : List ℕ) → Counts → List ℕ
counts_of is_json name counts =
    counts_text is_json name counts.facts counts.states counts.is_short (option_map word_of counts.bound)
