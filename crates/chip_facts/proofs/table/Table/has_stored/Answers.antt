use Rattle.std.proofs.Common.{◌≡◌, ◌<◌, ◌+◌, ◌*◌, ℕ, [], get_or, sym, subst, arith, rules, length}
use Rattle.chip_facts.specs.Sets.{Holds}
use Rattle.chip_facts.proofs.BitSets.{below_next, holds_inside}
use Rattle.chip_facts.proofs.table.Table.has_stored.Goals as goal

pub loop-from-preserved : goal.loop-from-preserved
loop-from-preserved c =
    below_next c.args.stored.now.at
    (λ from. (place byte : ℕ) → place < length c.args.stored.now.values.items → Holds (get_or c.args.stored.now.values.items place []) byte
    → (byte < 256) × Holds c.args.self.now.memory.items (256 * (from + place) + byte))
    c.loop-from.from c.next-from-in-loop-from.result c.next-from-in-loop-from.ensures.none c.loop-from.invariant
    (λ place byte few value. c.loop-place.invariant place byte (omega (arith, few, c.loop-place-test.false, c.len-place-end.ensures)) value)

pub returns : goal.returns
returns c = λ _ at byte is.
    let size : length c.args.stored.now.at ≡ 65 = search rules in
    subst (λ n. (byte < 256) × Holds c.args.self.now.memory.items (256 * n + byte)) (sym is.is_at)
    (c.loop-from.invariant is.from (omega (arith, holds_inside c.args.stored.now.at is.from is.among, size, c.loop-from-test.false)) is.among is.place byte is.few is.value)
