use Rattle.std.proofs.Common.{◌≡◌, ◌≤◌, ◌<◌, ◌+◌, ◌*◌, ◌∙◌, ℕ, Bool, get_or, sym, subst, arith, if◌then◌else◌}
use Rattle.std.proofs.lemmas.Bool.{le-ltb}
use Rattle.std.proofs.lemmas.List.{get_or_append_left}
use Rattle.chip_lang.specs.Decoding.{decode_of}
use Rattle.chip_machine.specs.declared.stop.Stop.TheVariants as cause
use Rattle.chip_machine.specs.Step.{Stops, effect_of_word, perform, word_at}
use Rattle.chip_facts.specs.Sets.{Holds}
use Rattle.chip_facts.specs.inner.Steps.{IsAround, byte_at}
use Rattle.chip_facts.specs.inner.Tables.{IsAllowed}
use Rattle.chip_machine.specs.State.{State}
use Rattle.chip_facts.specs.inner.Transfer.{IsAt}
use Rattle.chip_facts.proofs.BitSets.{below_next}
use Rattle.chip_facts.proofs.table.Table.is_closed_at.Goals as goal

pub loop-high-preserved : goal.loop-high-preserved
loop-high-preserved c =
    below_next c.block-highs.result
    (λ high. (low : ℕ) → low < 256 → Holds c.block-lows.result low → (s : State)
    → IsAt (record { memory = c.deref.result; quirks = c.args.quirks; pc = c.args.row.now.pc; frames = c.deref-2.result; known = c.args.row.now.known }) s → (keys : ℕ)
    → IsAllowed c.args.self.now c.args.quirks c.args.row.now.pc (perform keys s (effect_of_word (decode_of (high * 256 + low)) s.core)))
    c.loop-high.high c.next-high-in-loop-high.result c.next-high-in-loop-high.ensures.none c.loop-high.invariant (c.in_ok-has_words.ensures c.if-not-branch.false)

pub returns : goal.returns
returns c = λ _ s lies around keys.
    let inside : s.core.pc ≤ 4094 = omega (arith, lies.pc_is, c.if-pc-gt-LAST_WORD.false) in
    let high : ℕ = get_or s.memory s.core.pc 0 in
    let low : ℕ = get_or s.memory (s.core.pc + 1) 0 in
    let high-is : byte_at s s.core.pc ≡ high = get_or_append_left s.memory s.core.flags 0 s.core.pc (omega (arith, around.size, inside)) in
    let low-is : byte_at s (s.core.pc + 1) ≡ low = get_or_append_left s.memory s.core.flags 0 (s.core.pc + 1) (omega (arith, around.size, inside)) in
    let high-small : high < 256 = subst (λ n. n < 256) high-is (around.small s.core.pc) in
    let low-small : low < 256 = subst (λ n. n < 256) low-is (around.small (s.core.pc + 1)) in
    let row-pc : s.core.pc ≡ c.args.row.now.pc = lies.pc_is in
    let high-there : Holds c.args.self.now.memory.items (256 * c.args.row.now.pc + high) =
    subst (λ n. Holds c.args.self.now.memory.items (256 * c.args.row.now.pc + n)) high-is
    (subst (λ p. Holds c.args.self.now.memory.items (256 * p + byte_at s s.core.pc)) row-pc (around.bytes s.core.pc (omega (arith, inside)))) in
    let low-there : Holds c.args.self.now.memory.items (256 * (c.args.row.now.pc + 1) + low) =
    subst (λ n. Holds c.args.self.now.memory.items (256 * (c.args.row.now.pc + 1) + n)) low-is
    (subst (λ p. Holds c.args.self.now.memory.items (256 * (p + 1) + byte_at s (s.core.pc + 1))) row-pc (around.bytes (s.core.pc + 1) (omega (arith, inside)))) in
    let high-found : Holds c.block-highs.result high =
    c.block-highs.ensures high high-small ∙ subst (λ words. Holds words (256 * c.args.row.now.pc + high)) (sym c.deref-3.ensures.value) high-there in
    let low-found : Holds c.block-lows.result low =
    c.block-lows.ensures low low-small ∙ subst (λ words. Holds words (256 * (c.args.row.now.pc + 1) + low)) (sym c.deref-4.ensures.value) low-there in
    subst (λ (b : Bool). IsAllowed c.args.self.now c.args.quirks s.core.pc (perform keys s (if b then Stops cause.PcOutOfRange else effect_of_word (decode_of (word_at s.memory s.core.pc)) s.core)))
    (sym (le-ltb 4094 s.core.pc inside))
    (subst (λ p. IsAllowed c.args.self.now c.args.quirks p (perform keys s (effect_of_word (decode_of (word_at s.memory s.core.pc)) s.core))) (sym row-pc)
    (c.loop-high.invariant high (omega (arith, high-small, c.loop-high-test.false)) high-found low low-small low-found s
    (record {
      pc = row-pc;
      frames_are = lies.frames_are ∙ sym c.deref-2.ensures.value;
      known = lies.known;
      around = subst (λ m. IsAround m c.args.quirks s) (sym c.deref.ensures.value) around;
    }) keys))
