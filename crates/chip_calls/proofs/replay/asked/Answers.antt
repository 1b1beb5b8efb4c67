use Rattle.std.proofs.Common.{ℕ, drop, ap, ◌∙◌}
use Rattle.std.proofs.lemmas.List.{drop-replicate}
use Rattle.chip_calls.specs.Toy.{ToyState}
use Rattle.chip_replay.specs.History.{History}
use Rattle.chip_replay.specs.Limits.{image_start, memory_size}
use Rattle.chip_calls.proofs.replay.asked.Goals as goal

pub returns-in-Ok : goal.returns-in-Ok
returns-in-Ok c =
    ap (λ (s : ToyState). drop image_start s.bytes) (c.at.follows.holds-at-none.same_start ∙ ap (λ (h : History ToyState). h.start) c.in_ok-replay.ensures ∙ c.in_ok-toy.ensures)
    ∙ drop-replicate {X = ℕ} image_start memory_size 0
