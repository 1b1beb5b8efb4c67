-- The meaning of private contracts: the values and results that are possible in the states of a row.
pub mod Possible
