use Rattle.std.proofs.Common.{◌≤◌, length, arith}
use Rattle.std.proofs.Math.Nat.{pow-le-pow_right}
use Rattle.chip_session.proofs.command.numeral.Goals as goal

pub value_of-requires-clause-room : goal.value_of-requires-clause-room
value_of-requires-clause-room c =
    let shorter : length c.args.digits.now ≤ c.args.most = omega arith in
    omega (arith, pow-le-pow_right {n = c.args.base} (omega arith) shorter)
