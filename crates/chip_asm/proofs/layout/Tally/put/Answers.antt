use Rattle.std.proofs.Common.{arith, ◌∙◌, ◌≡◌, ◌≤◌, ap, false, get_or, sym, true}
use Rattle.std.proofs.lemmas.List.Sums.{get_or-le-sum_by}
use Rattle.chip_asm.specs.declared.layout.Tally.{Tally}
use Rattle.chip_asm.specs.inner.Placements.{count_of, is_pending, nothing}
use Rattle.chip_asm.proofs.LinesByPlace.{count-few, one-fault, tally-set}
use Rattle.chip_asm.proofs.layout.Tally.put.Goals.{then-is_pending, else-is_pending}
use Rattle.chip_asm.proofs.layout.Tally.put.Goals as goal

pub overflow_add-self : goal.overflow_add-self
overflow_add-self c =
    let same : c.if-is_pending.self.faults ≡ c.args.self.now.faults = elim c.if-is_pending.branch [ then-is_pending w ↦ ap (λ (t : Tally). t.faults) w.self-is | else-is_pending w ↦ ap (λ (t : Tally). t.faults) w.self-is ] in
    omega (arith, same, c.requires.tally.counted, count-few c.args.placements.now, one-fault c.args.new, c.well_formed)

pub returns-clause-tally : goal.returns-clause-tally
returns-clause-tally c =
    let was = c.args.placements.now in
    let t = c.requires.tally in
    let least : count_of (get_or was c.args.at nothing) ≤ c.args.self.now.faults = omega (arith, t.counted, get_or-le-sum_by count_of was c.args.at nothing c.requires.there) in
    elim c.if-is_pending.branch [
      | then-is_pending w ↦
          rw w.self-is (tally-set was c.args.self.now _ c.args.at c.args.new nothing t c.requires.there (omega arith) (omega arith) (omega arith) (omega (arith, t.within)) (λ waits. (omega arith, omega arith)))
      | else-is_pending w ↦
          rw w.self-is
          (tally-set was c.args.self.now _ c.args.at c.args.new nothing t c.requires.there (omega arith) (omega arith) (omega arith) t.within
          (λ waits. absurd (let never : false ≡ true = sym w.if-is_pending.false ∙ c.is_pending.ensures ∙ ap is_pending waits in cc)))
    ]
