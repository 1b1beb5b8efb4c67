-- The definitions of the machine, in these files:
--   Points    the screen as the set of its lit pixels
--   Sprite    the pixels that a sprite covers
--   Scroll    the lit pixels moved down, right or left
--   Digits    the shapes of the digits
--   Profile   the profiles and their quirks
--   QuirkList the quirks by the names that users write
--   State     the state of the machine
--   Start     the state before the first step
--   Step      the table of the instructions, one step, and the addresses that it touches
--   Touched   whether a step touches an address
--   Keyless   which steps depend on the keys, and the law about those that don't
--   Choices   which keys the next step can distinguish
--   Forgotten which parts of a state a step reads and sets
--   Relevant  the parts of a state that later steps depend on
--   Restored  a machine restored from its parts
--   Block     several steps, one after the other
--   Frame     the frame law
--   ImageLaw  the place of the image in the memory at the start
--   Limits    the size of the memory and where the image begins
--   Numbers   the numbers of stop causes and of start errors
--   inner     how a state is stored, and proofs of the laws that a trait in the crate above
--             requires; a reader may skip these
pub mod Block
pub mod Choices
pub mod Digits
pub mod Forgotten
pub mod Frame
pub mod ImageLaw
pub mod Keyless
pub mod Limits
pub mod Numbers
pub mod Points
pub mod Profile
pub mod QuirkList
pub mod Relevant
pub mod Restored
pub mod Scroll
pub mod Sprite
pub mod Start
pub mod State
pub mod Step
pub mod Touched
pub mod inner
