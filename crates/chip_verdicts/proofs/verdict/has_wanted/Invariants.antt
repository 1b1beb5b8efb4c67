use Rattle.std.proofs.Common.{◌≡◌, ℕ, ◌<◌, false, get_or}
use Rattle.chip_explore.specs.Causes.{is_wanted}
use Rattle.chip_facts.specs.declared.table.Left.{Left}
use Rattle.chip_verdicts.proofs.verdict.has_wanted.Given as goal

abbrev pub invariant-loop-one : goal.invariant-loop-one
invariant-loop-one l = (k : ℕ) (d : Left) → k < l.one-index → is_wanted l.causes (get_or l.left k d).stop ≡ false
