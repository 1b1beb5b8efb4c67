use Rattle.std.proofs.Common.{◌==◌, ℕ, Bool, List, not, Any, MatchOption, refl, subst, sym, if◌then◌else◌}
use Rattle.chip_machine.specs.State.{Core}
use Rattle.chip_machine.specs.Step.{reg, skip_if}
use Rattle.chip_facts.specs.inner.Knowing.{second_of}
use Rattle.chip_facts.specs.inner.Steps.{IsNext}
use Rattle.chip_facts.specs.inner.Transfer.{IsCalm}
use Rattle.chip_facts.specs.declared.operation.Operation.TheVariants as op
use Rattle.chip_facts.proofs.Following.{either_way, where_other, where_same}
use Rattle.chip_facts.proofs.Outcomes.{meets_some}
use Rattle.chip_facts.proofs.transfer.Before.skips.Goals as goal

pub returns : goal.returns
returns c = λ s at keys.
    let frames : List ℕ = c.args.self.now.frames.now in
    let first : ℕ = reg s.core c.args.x in
    let second : ℕ = second_of c.args.second.now s.core in
    let test : Bool = first == second in
    let new : Core = skip_if (if c.args.if_same then test else not test) s.core in
    let calm : IsCalm s.core new = record { same_flags = refl; tape_is = refl; quirks_are = refl; stop_is = refl } in
    meets_some frames c.leads.result s new c.leads.ensures.stored calm
    (subst (λ successors. Any (IsNext frames new) successors.items) (sym c.leads.ensures.next)
    (subst (Any (IsNext frames new)) (sym c.in_ok-next.ensures)
    (either_way c.args.self.now new op.Compare first second c.compared-other.result c.compared-same.result (c.compared-other.ensures.small s at)
    (λ zero. subst (λ skips. MatchOption c.compared-other.result ⊥ (IsNext frames (skip_if skips s.core))) (sym (where_other test c.args.if_same zero)) (c.compared-other.ensures.is s at zero))
    (λ one. subst (λ skips. MatchOption c.compared-same.result ⊥ (IsNext frames (skip_if skips s.core))) (sym (where_same test c.args.if_same one)) (c.compared-same.ensures.is s at one)))))
