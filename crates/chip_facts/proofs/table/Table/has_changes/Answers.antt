use Rattle.std.proofs.Common.{◌<◌, ◌+◌, ◌*◌, ℕ, IfSome, Option, sym, subst}
use Rattle.chip_facts.specs.Sets.{Holds}
use Rattle.chip_facts.specs.inner.Steps.{IsStored}
use Rattle.chip_facts.specs.declared.outcome.Stored.{Stored}
use Rattle.chip_facts.proofs.table.Table.has_changes.Goals as goal

pub returns-in-Some : goal.returns-in-Some
returns-in-Some c = λ h.
    subst (λ (o : Option Stored). IfSome o (λ st. (at byte : ℕ) → IsStored st at byte → (byte < 256) × Holds c.args.self.now.memory.items (256 * at + byte))) (sym c.in-Some.is)
    (c.has_stored.ensures h)
