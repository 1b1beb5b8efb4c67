use Rattle.std.proofs.Common.{◌≡◌, ◌+◌, ◌∙◌, ℕ, List, Any, inl, inr, refl, sym, arith, subst}
use Rattle.std.proofs.lemmas.Bool.{cases_lt}
use Rattle.std.proofs.lemmas.List.Quantifiers.{Any-push}
use Rattle.chip_machine.specs.State.{Core}
use Rattle.chip_machine.specs.Step.{effect, go_to, reg}
use Rattle.chip_facts.specs.inner.Steps.{IsNext, Meets}
use Rattle.chip_facts.specs.inner.Transfer.{IsCalm}
use Rattle.chip_facts.proofs.BitSets.{not_there}
use Rattle.chip_facts.proofs.Outcomes.{any_more, meets_some}
use Rattle.chip_facts.proofs.transfer.Before.jumps_offset.Goals as goal
use Rattle.chip_facts.proofs.transfer.Before.jumps_offset.Goals.{then-contains+in_ok-push, else-contains}
use Rattle.std.proofs.Common.{Ok}

pub loop-v-preserved : goal.loop-v-preserved
loop-v-preserved c = λ s at below.
    let x : ℕ = c.offset_number-x.result in
    let v : ℕ = reg s.core x in
    let frames : List ℕ = c.args.self.now.frames.now in
    let new : Core = go_to (c.args.address + v) s.core in
    elim (cases_lt v c.loop-v.v) [
      | inl before ↦
          let found = c.loop-v.invariant s at before in
          elim c.if-contains.branch [
            | then-contains+in_ok-push w ↦
                subst (λ vec. Any (IsNext frames new) vec.items) (sym w.next-is)
                (subst (Any (IsNext frames new)) (sym w.in_ok-push.ensures.items) (any_more (IsNext frames new) c.loop-v.next.items w.jumped.result found))
            | else-contains w ↦ subst (λ vec. Any (IsNext frames new) vec.items) (sym w.next-is) found
          ]
      | inr here ↦
          let is : v ≡ c.loop-v.v = omega (arith, here, below) in
          let one = at.known.each x c.offset_number-x.ensures.range in
          elim c.if-contains.branch [
            | then-contains+in_ok-push w ↦
                subst (λ vec. Any (IsNext frames new) vec.items) (sym w.next-is)
                (subst (Any (IsNext frames new)) (sym w.in_ok-push.ensures.items)
                (Any-push (IsNext frames new) c.loop-v.next.items w.jumped.result
                (subst (λ n. IsNext frames (go_to (c.args.address + n) s.core) w.jumped.result) (sym is) (w.jumped.ensures s at is))))
            | else-contains w ↦
                absurd (not_there c.block-values.result c.loop-v.v v _ c.contains.ensures w.if-contains.false (sym is) (c.block-values.ensures v one.small ∙ one.among))
          ]
    ]

pub returns : goal.returns
unfolding effect
returns c = λ s at keys.
    let x : ℕ = c.offset_number-x.result in
    let frames : List ℕ = c.args.self.now.frames.now in
    let one = at.known.each x c.offset_number-x.ensures.range in
    let new : Core = go_to (c.args.address + reg s.core x) s.core in
    let calm : IsCalm s.core new = record { same_flags = refl; tape_is = refl; quirks_are = refl; stop_is = refl } in
    subst (λ y. Meets frames c.leads.result s (Ok (record s { core = go_to (c.args.address + reg s.core y) s.core }))) (sym (c.offset_number-x.ensures.number s.core at.around.same))
    (meets_some frames c.leads.result s new c.leads.ensures.stored calm
    (subst (λ vec. Any (IsNext frames new) vec.items) (sym c.leads.ensures.next) (c.loop-v.invariant s at (omega (arith, one.small, c.loop-v-test.false)))))
