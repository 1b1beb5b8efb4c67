pub mod Placed
pub mod Names
pub mod Lines
pub mod Flags
pub mod Told
pub mod Flows
