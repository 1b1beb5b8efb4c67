use Rattle.std.proofs.Common.{◌≡◌, ◌/◌, ◌<◌, length, rules, inl, inr, arith}
use Rattle.std.proofs.lemmas.Bool.{cases_lt}
use Rattle.chip_facts.proofs.BitSets.{or_keeps, or_there}
use Rattle.chip_facts.proofs.byte_set.unite.Goals as goal

pub loop-i-preserved : goal.loop-i-preserved
loop-i-preserved c =
    let size : length c.loop-i.set ≡ 4 = search rules in
    let inside : c.loop-i.i < length c.loop-i.set = omega (arith, size) in
    record {
      others = λ b h. or_keeps c.loop-i.set c.loop-i.i _ b inside (c.loop-i.invariant.others b h);
      there = λ b below h.
          elim (cases_lt (b / 64) c.loop-i.i) [
            | inl before ↦ or_keeps c.loop-i.set c.loop-i.i _ b inside (c.loop-i.invariant.there b before h)
            | inr here ↦
                let is : b / 64 ≡ c.loop-i.i = omega (arith, here, below) in
                or_there c.loop-i.set c.args.other.now c.loop-i.i b inside is h
          ];
    }
