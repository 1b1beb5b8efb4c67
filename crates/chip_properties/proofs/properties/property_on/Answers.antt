use Rattle.chip_properties.proofs.Told.{answered, refused}
use Rattle.chip_properties.proofs.properties.property_on.Goals as goal

pub returns-then-has_room : goal.returns-then-has_room
returns-then-has_room c =
    answered c.args.source.now.lines c.args.number c.args.start c.args.line.now c.read.result c.requires.there c.requires.begins
    (rw (c.address.ensures.value, c.text.ensures) at c.read.ensures.stated) (rw c.text.ensures at c.read.ensures.stands)
    (rw (c.address.ensures.value, c.text.ensures) at c.read.ensures.refused)

pub returns : goal.returns
returns c =
    refused c.args.source.now.lines c.args.number c.args.start c.args.line.now c.in_ok-fault.fault c.requires.there c.requires.begins
    (rw c.text-2.ensures at c.in_ok-fault.ensures) (c.requires.room c.if-has_room.false)
