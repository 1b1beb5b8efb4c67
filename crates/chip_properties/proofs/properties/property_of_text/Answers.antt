use Rattle.chip_symbols.specs.Names.{values_of}
use Rattle.chip_asm.specs.Program.{symbols_of}
use Rattle.chip_properties.specs.Tokens.{property_tokens}
use Rattle.chip_properties.proofs.SoundProperties.{kind_kept, text_states}
use Rattle.chip_properties.proofs.CompleteProperties.{text_refused}
use Rattle.chip_properties.proofs.properties.property_of_text.Goals as goal

pub returns-clause-kind : goal.returns-clause-kind
returns-clause-kind c =
    kind_kept (values_of (symbols_of c.args.source.now.lines)) c.args.kind (property_tokens c.args.text.now) c.read.result c.read.ensures.stated

pub returns-clause-stated : goal.returns-clause-stated
returns-clause-stated c =
    text_states (values_of (symbols_of c.args.source.now.lines)) c.args.kind (property_tokens c.args.text.now) c.read.result c.read.ensures.stated

pub returns-clause-refused : goal.returns-clause-refused
returns-clause-refused c =
    text_refused (values_of (symbols_of c.args.source.now.lines)) c.args.kind (property_tokens c.args.text.now) c.read.result c.read.ensures.refused
