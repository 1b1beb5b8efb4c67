use Rattle.chip_machine.proofs.BitLemmas.{lights_around}
use Rattle.chip_machine.proofs.sprite.around.Goals as goal

pub returns : goal.returns
returns c = λ column on_screen. lights_around c.args.columns c.args.start column c.ranges.columns.fits c.requires on_screen
