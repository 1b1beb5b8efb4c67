use Rattle.std.proofs.Common.{ℕ, ◌-◌, ◌<◌, ◌+◌, ◌*◌}
use Rattle.chip_lang.specs.Decoding.{decode_of}
use Rattle.chip_machine.specs.State.{State}
use Rattle.chip_machine.specs.Step.{effect_of_word, perform}
use Rattle.chip_facts.specs.Sets.{Holds}
use Rattle.chip_facts.specs.inner.Tables.{IsAllowed}
use Rattle.chip_facts.specs.inner.Transfer.{IsAt}
use Rattle.chip_facts.proofs.table.Table.has_words.Given as goal

abbrev pub invariant-loop-low : goal.invariant-loop-low
invariant-loop-low l = (low : ℕ) → low < l.low → Holds l.lows low → (s : State) → IsAt l.before s → (keys : ℕ)
    → IsAllowed l.self l.before.quirks l.before.pc (perform keys s (effect_of_word (decode_of (l.high * 256 + low)) s.core))

abbrev pub decreases-loop-low : goal.decreases-loop-low
decreases-loop-low l = 256 - l.low
