use Rattle.std.proofs.Common.{◌∙◌}
use Rattle.chip_check.proofs.KnownNames.{lookup-listed}
use Rattle.chip_check.proofs.known.Known.find.Goals as goal

pub returns-in-Some : goal.returns-in-Some
returns-in-Some c = c.in-Some.ensures.value ∙ lookup-listed c.args.self.now.symbols.entries c.args.name.now

pub returns-in-None : goal.returns-in-None
returns-in-None c = c.in-None.ensures.value ∙ lookup-listed c.args.self.now.symbols.entries c.args.name.now
