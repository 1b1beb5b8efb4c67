use Rattle.std.proofs.Common.{◌≡◌, ℕ, List, replicate, ap, rules}
use Rattle.chip_calls.specs.Toy.{ToyState}
use Rattle.chip_replay.specs.Limits.{memory_size}
use Rattle.chip_calls.proofs.toy.Toy.new.Goals as goal

pub returns : goal.returns
returns c =
    let filled : c.in_ok-vec.field-0.items ≡ replicate memory_size 0 = search rules in
    ap (λ (xs : List ℕ). let t : ToyState = record { bytes = xs; counter = 0; sum = 0 } in t) filled
