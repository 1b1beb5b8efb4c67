use Rattle.std.proofs.Common.{◌<◌, ◌+◌, ◌*◌, ◌∙◌, sym, subst, arith}
use Rattle.chip_facts.specs.Sets.{Holds}
use Rattle.chip_facts.proofs.BitSets.{holds_inside}
use Rattle.chip_facts.proofs.table.Table.has_bytes.Goals as goal

pub returns-then-at-lt-BYTES : goal.returns-then-at-lt-BYTES
returns-then-at-lt-BYTES c = λ within b h.
    let small : b < 256 = omega (arith, holds_inside c.args.values.now b h, c.told-values) in (
      small,
      subst (λ words. Holds words (256 * c.args.at + b)) c.deref.ensures.value (sym (c.block.ensures b small) ∙ c.is_within.ensures within b h),
    )
