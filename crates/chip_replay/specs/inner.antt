-- The data kept about a run (Kept) and about the key events ordered by step (Changes); the machine's
-- frame law in the form that the trait requires (MachineFrame); and the law that keys known at a step
-- are known at later steps (Cursor).
pub mod Changes
pub mod Cursor
pub mod Kept
pub mod MachineFrame
