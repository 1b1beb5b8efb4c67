pub mod Steps
pub mod Types
