-- Definitions for private contracts: the sets that arguments ask for, what `check --cover` takes as executed,
-- what `explore` wrote to a file, what `prove` prints, and its last lines.
pub mod Sets
pub mod Covering
pub mod Written
pub mod Proofs
pub mod Counts
