use Rattle.std.proofs.Common.{Bool, true, false, refl, Ok}
use Rattle.chip_machine.specs.Step.{skip_if}
use Rattle.chip_facts.specs.inner.Steps.{Meets}
use Rattle.chip_facts.proofs.Following.{is_past}
use Rattle.chip_facts.proofs.Outcomes.{meets_first, meets_second, ok_two}
use Rattle.chip_facts.proofs.transfer.Before.asks_key.Goals as goal

pub returns : goal.returns
returns c = ok_two c.to_either.result _ _ _ c.to_either.ensures.next c.to_either.ensures.stored (λ out next stored test s at keys.
    let way : (b : Bool) → Meets c.args.self.now.frames.now out s (Ok (record s { core = skip_if b s.core })) = λ b. elim b as (λ b. Meets c.args.self.now.frames.now out s (Ok (record s { core = skip_if b s.core }))) [
      | true ↦ meets_second c.args.self.now.frames.now out s (skip_if true s.core) _ _ next stored
          (record { same_flags = refl; tape_is = refl; quirks_are = refl; stop_is = refl })
          (is_past c.args.self.now s 4 c.past-skipped.result c.args.self.now.known (skip_if true s.core) at c.past-skipped.ensures.pc c.past-skipped.ensures.known c.past-skipped.ensures.way refl refl at.known)
      | false ↦ meets_first c.args.self.now.frames.now out s (skip_if false s.core) _ _ next stored
          (record { same_flags = refl; tape_is = refl; quirks_are = refl; stop_is = refl })
          (is_past c.args.self.now s 2 c.past-next.result c.args.self.now.known (skip_if false s.core) at c.past-next.ensures.pc c.past-next.ensures.known c.past-next.ensures.way refl refl at.known)
    ] in way (test keys s.core))
