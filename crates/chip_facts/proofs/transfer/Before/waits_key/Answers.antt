use Rattle.std.proofs.Common.{◌<◌, ℕ, Option, Some, None, IfSome, refl, Ok, find, arith}
use Rattle.std.specs.List.{range_with_len}
use Rattle.chip_machine.specs.Step.{effect, take_key, is_key_down, next, with_reg}
use Rattle.chip_facts.specs.inner.Steps.{Meets}
use Rattle.chip_facts.proofs.Changes.{found_below}
use Rattle.chip_facts.proofs.Following.{is_past}
use Rattle.chip_facts.proofs.Outcomes.{meets_first, meets_second, ok_two, calm_same}
use Rattle.chip_facts.proofs.transfer.Before.waits_key.Goals as goal

pub returns : goal.returns
unfolding effect
returns c = ok_two c.to_either.result _ _ _ c.to_either.ensures.next c.to_either.ensures.stored (λ out next-is stored s at keys.
    let way : (k : Option ℕ) → IfSome k (λ n. n < 16) → Meets c.args.self.now.frames.now out s (Ok (record s { core = take_key k c.args.x s.core })) =
    λ k. elim k as (λ k. IfSome k (λ n. n < 16) → Meets c.args.self.now.frames.now out s (Ok (record s { core = take_key k c.args.x s.core }))) [
      | None ↦ λ _. meets_first c.args.self.now.frames.now out s s.core _ _ next-is stored (calm_same s.core)
          (is_past c.args.self.now s 0 c.past-waiting.result c.args.self.now.known s.core at c.past-waiting.ensures.pc c.past-waiting.ensures.known c.past-waiting.ensures.way (omega arith) refl at.known)
      | Some n ↦ λ small. meets_second c.args.self.now.frames.now out s (next (with_reg c.args.x n s.core)) _ _ next-is stored
          (record { same_flags = refl; tape_is = refl; quirks_are = refl; stop_is = refl })
          (is_past c.args.self.now s 2 c.past-next.result c.with-known.result (next (with_reg c.args.x n s.core)) at c.past-next.ensures.pc c.past-next.ensures.known c.past-next.ensures.way refl refl
          (c.with-known.ensures s.core n at.known (c.up_to.ensures n (omega (arith, small)))))
    ] in
    way (find (is_key_down keys) (range_with_len 0 16)) (found_below (is_key_down keys) 0 16 16 refl))
