-- Definitions and proofs that a reader may skip. How a state is stored: Codes, Stored. How many bytes a
-- row accesses: Accesses. The promises of the functions that execute a step: Performs. A sprite
-- described only by its bytes: SpriteBytes. Lists of numbers as masks: Masks. The set of what is
-- forgotten as a number: Packed. The part of a text before its first comma: FirstPart. The keys that an
-- instruction can distinguish: KeyRows. Memory after bytes are written or exchanged: Overwritten,
-- Exchanged. The frame law, and that a step preserves that a state is proper: FrameTheorem. The last
-- three prove laws that the trait of the crate above requires.
pub mod Accesses
pub mod Codes
pub mod Exchanged
pub mod FirstPart
pub mod FrameTheorem
pub mod KeyRows
pub mod Masks
pub mod Overwritten
pub mod Packed
pub mod Performs
pub mod SpriteBytes
pub mod Stored
