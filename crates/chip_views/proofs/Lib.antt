pub mod DataLines
pub mod WordLayout
pub mod TextLines
pub mod ImageText
pub mod Parts
