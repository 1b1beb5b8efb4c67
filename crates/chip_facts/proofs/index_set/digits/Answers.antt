use Rattle.std.proofs.Common.{◌≡◌, ◌≤◌, ◌+◌, ◌*◌, ◌%◌, min, subst, sym, arith}
use Rattle.std.proofs.lemmas.Nat.{mul-le}
use Rattle.chip_facts.specs.Sets.{Holds}
use Rattle.chip_facts.proofs.index_set.digits.Goals as goal

pub returns : goal.returns
returns c = λ b small h.
    let low : b % 16 ≤ 15 = omega arith in
    let most : c.args.size * (b % 16) ≤ c.args.size * 15 = mul-le c.args.size (b % 16) c.args.size 15 (omega arith) low in
    let is : min (c.args.first + c.args.size * (b % 16)) 4096 ≡ c.args.first + c.args.size * (b % 16) = omega (arith, c.requires, most) in
    subst (Holds c.loop-b.set) (sym is) (c.loop-b.invariant b (omega arith) h)
