-- Parts of tokens (Parts), the result of reading tokens (Reads), and the effect of lines (Told).
pub mod Parts
pub mod Reads
pub mod Told
