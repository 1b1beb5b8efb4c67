use Rattle.std.proofs.Common.{◌<◌, arith}
use Rattle.std.proofs.lemmas.Nat.{div_below}
use Rattle.chip_views.proofs.bitmap.bit_at.Goals as goal

pub is_seen-requires : goal.is_seen-requires
is_seen-requires c =
    let some : 0 < c.args.scale = omega (arith, c.requires.0) in (
      div_below c.args.column c.args.scale 128 some (omega (arith, c.requires.0)),
      div_below c.args.row c.args.scale 64 some (omega (arith, c.requires.1)),
    )
