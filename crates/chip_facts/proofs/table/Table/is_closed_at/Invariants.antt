use Rattle.std.proofs.Common.{ℕ, ◌-◌, ◌<◌, ◌+◌, ◌*◌}
use Rattle.chip_lang.specs.Decoding.{decode_of}
use Rattle.chip_machine.specs.State.{State}
use Rattle.chip_machine.specs.Step.{effect_of_word, perform}
use Rattle.chip_facts.specs.Sets.{Holds}
use Rattle.chip_facts.specs.inner.Tables.{IsAllowed}
use Rattle.chip_facts.specs.inner.Transfer.{IsAt}
use Rattle.chip_facts.proofs.table.Table.is_closed_at.Given as goal

abbrev pub invariant-loop-high : goal.invariant-loop-high
invariant-loop-high l = (high : ℕ) → high < l.high → Holds l.highs high → (low : ℕ) → low < 256 → Holds l.lows low → (s : State) → IsAt l.before s → (keys : ℕ)
    → IsAllowed l.self l.before.quirks l.before.pc (perform keys s (effect_of_word (decode_of (high * 256 + low)) s.core))

abbrev pub decreases-loop-high : goal.decreases-loop-high
decreases-loop-high l = 256 - l.high
