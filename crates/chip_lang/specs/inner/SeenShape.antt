-- The shape of a line as contracts see it, without the places of its parts in memory (chosen by
-- this project).
use Rattle.std.specs.Option.{option_copied}
use Rattle.chip_lang.specs.declared.shape.Shape.{Shape as Line_shape}
use Rattle.chip_lang.specs.declared.shape.Shape.TheVariants.{Definition, Statement}
use Rattle.chip_lang.specs.Line.{Shape, definition, statement}

-- the shape that a value of the program represents
abbrev pub seen_shape : Line_shape → Shape
seen_shape (Definition name value) = definition name.now value.now
seen_shape (Statement label tokens) = statement (option_copied label) tokens.now
