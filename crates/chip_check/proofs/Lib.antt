pub mod AnswerPieces
pub mod LinesLeft
pub mod KnownNames
pub mod OperandSpans
pub mod TextsInOrder
pub mod Pieces
pub mod TokenPlaces
pub mod UnopenedHelp
