use Rattle.std.proofs.Common.{ℕ, List, Any, MatchOption, refl, subst, sym}
use Rattle.chip_machine.specs.State.{Core}
use Rattle.chip_machine.specs.Step.{next, reg, with_flag}
use Rattle.chip_facts.specs.inner.Knowing.{second_of}
use Rattle.chip_facts.specs.inner.Operations.{value_of, flag_of}
use Rattle.chip_facts.specs.inner.Steps.{IsNext}
use Rattle.chip_facts.specs.inner.Transfer.{IsCalm}
use Rattle.chip_facts.proofs.Following.{either_way}
use Rattle.chip_facts.proofs.Outcomes.{meets_some}
use Rattle.chip_facts.proofs.transfer.Before.arithmetic.Goals as goal

pub returns : goal.returns
returns c = λ s at keys.
    let frames : List ℕ = c.args.self.now.frames.now in
    let first : ℕ = reg s.core c.args.x in
    let second : ℕ = second_of c.args.second.now s.core in
    let value : ℕ = value_of c.args.operation first second in
    let new : Core = next (with_flag c.args.x value (flag_of c.args.operation first second) s.core) in
    let calm : IsCalm s.core new = record { same_flags = refl; tape_is = refl; quirks_are = refl; stop_is = refl } in
    meets_some frames c.leads.result s new c.leads.ensures.stored calm
    (subst (λ successors. Any (IsNext frames new) successors.items) (sym c.leads.ensures.next)
    (subst (Any (IsNext frames new)) (sym c.in_ok-next.ensures)
    (either_way c.args.self.now new c.args.operation first second c.flagged-zero.result c.flagged-one.result (c.flagged-zero.ensures.small s at)
    (λ zero. subst (λ f. MatchOption c.flagged-zero.result ⊥ (IsNext frames (next (with_flag c.args.x value f s.core)))) (sym zero) (c.flagged-zero.ensures.is s at zero))
    (λ one. subst (λ f. MatchOption c.flagged-one.result ⊥ (IsNext frames (next (with_flag c.args.x value f s.core)))) (sym one) (c.flagged-one.ensures.is s at one)))))
