use Rattle.chip_facts.proofs.BitSets.{put_there, put_keeps}
use Rattle.chip_facts.proofs.bits.insert.Goals as goal

pub returns-clause-there : goal.returns-clause-there
returns-clause-there c = put_there c.args.words.now c.args.n c.requires

pub returns-clause-others : goal.returns-clause-others
returns-clause-others c = put_keeps c.args.words.now c.args.n c.requires
