-- The parts of tokens between separators (Separated), and the property that tokens state (Reading).
pub mod Reading
pub mod Separated
