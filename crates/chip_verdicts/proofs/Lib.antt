pub mod Excluding
pub mod Reaching
pub mod Sums
pub mod Values
