use Rattle.std.proofs.Common.{◌≡◌, ◌∙◌, ap, replicate, slice_index, refl, false, rules}
use Rattle.std.proofs.lemmas.List.{get_or-replicate}
use Rattle.chip_replay.specs.Limits.{memory_size, never}
use Rattle.chip_replay.specs.Mask.{mask}
use Rattle.chip_replay.proofs.ByStep.{knows_none}
use Rattle.chip_replay.proofs.kept.Kept.new.Goals as goal

pub returns-clause-never : goal.returns-clause-never
returns-clause-never g c = λ at l.
    let filled : c.in_ok-first_touch.first_touch.items ≡ replicate memory_size never = search rules in
    ap (λ xs. slice_index xs at) filled ∙ get_or-replicate memory_size at never 0 l

pub returns-clause-holding : goal.returns-clause-holding
unfolding mask
returns-clause-holding g c = λ events.
    knows_none events 0 _ refl refl refl (λ k l. get_or-replicate 16 k false false l)
