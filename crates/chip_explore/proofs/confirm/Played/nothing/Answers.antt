use Rattle.std.proofs.Common.{refl}
use Rattle.chip_explore.proofs.Played.{none_played}
use Rattle.chip_explore.proofs.confirm.Played.nothing.Goals as goal

pub returns : goal.returns
returns c = none_played c.args.events.now _ c.requires refl refl refl refl
