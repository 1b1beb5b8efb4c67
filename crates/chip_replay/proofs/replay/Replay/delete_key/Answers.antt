use Rattle.std.proofs.Common.{ap, ◌∙◌}
use Rattle.chip_replay.specs.Keys.{is_down, Events}
use Rattle.chip_replay.proofs.KeyFacts.{is_down-remove}
use Rattle.chip_replay.proofs.replay.Replay.delete_key.Goals as goal

pub invariant_of-self-2 : goal.invariant_of-self-2
invariant_of-self-2 g c =
    let was = c.self.inside in
    let right = c.forget.ensures.right was.rate was.start was.keys c.delete.new.self c.self.invariant.2
    (λ s l k. ap (λ (e : Events). is_down e k s) c.in_ok-delete.ensures.ok ∙ is_down-remove was.keys c.args.step c.args.key s l k) in
    (c.self.invariant.0, rw c.forget.ensures.others c.self.invariant.1, right)
