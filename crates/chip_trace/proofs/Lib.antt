pub mod DigitLemmas
mod Joined
mod RowBytes
mod Usual
mod TraceLemmas
mod Comparing
mod LinesLemmas
mod Names
mod MachineLemmas
