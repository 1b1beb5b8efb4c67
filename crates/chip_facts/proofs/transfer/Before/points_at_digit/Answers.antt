use Rattle.std.proofs.Common.{◌≤◌, ◌<◌, ◌+◌, ◌*◌, ◌%◌, ◌∙◌, ℕ, refl, arith}
use Rattle.std.proofs.lemmas.Nat.{mul-le}
use Rattle.std.proofs.lemmas.Result.{IfOk-weaker}
use Rattle.chip_machine.specs.Step.{next, reg, with_index}
use Rattle.chip_facts.proofs.transfer.Before.points_at_digit.Goals as goal

pub returns : goal.returns
returns c = IfOk-weaker c.on.result _ _ (λ out gives s at keys.
    let n : ℕ = reg s.core c.args.x in
    let one = at.known.each c.args.x c.values.ensures.range in
    let low : n % 16 ≤ 15 = omega arith in
    let most : c.args.size * (n % 16) ≤ c.args.size * 15 = mul-le c.args.size (n % 16) c.args.size 15 (omega arith) low in
    let i : ℕ = c.args.first + c.args.size * (n % 16) in
    let small : i < 65536 = omega (arith, c.requires.room, most) in
    gives s (next (with_index i s.core)) at (record {
      pc_is = refl;
      frames_stay = refl;
      calm = record { same_flags = refl; tape_is = refl; quirks_are = refl; stop_is = refl };
      then_known = c.with_index-known.ensures s.core i at.known small (c.digits.ensures n one.small (c.values.ensures.each n one.small ∙ one.among));
    })) c.on.ensures
