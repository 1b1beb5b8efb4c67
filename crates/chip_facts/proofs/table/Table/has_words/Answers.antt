use Rattle.std.proofs.Common.{◌+◌, ◌*◌, ℕ}
use Rattle.chip_lang.specs.Decoding.{decode_of}
use Rattle.chip_machine.specs.State.{State}
use Rattle.chip_machine.specs.Step.{effect_of_word, perform}
use Rattle.chip_facts.specs.inner.Tables.{IsAllowed}
use Rattle.chip_facts.specs.inner.Transfer.{IsAt}
use Rattle.chip_facts.proofs.BitSets.{below_next}
use Rattle.chip_facts.proofs.table.Table.has_words.Goals as goal

pub loop-low-preserved : goal.loop-low-preserved
loop-low-preserved c =
    below_next c.args.lows.now
    (λ low. (s : State) → IsAt c.args.before.now s → (keys : ℕ) → IsAllowed c.args.self.now c.args.before.now.quirks c.args.before.now.pc (perform keys s (effect_of_word (decode_of (c.args.high * 256 + low)) s.core)))
    c.loop-low.low c.next-low-in-loop-low.result c.next-low-in-loop-low.ensures.none c.loop-low.invariant (c.in_ok-has_word.ensures c.if-not-branch.false)
