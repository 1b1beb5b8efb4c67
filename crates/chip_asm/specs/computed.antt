-- Functions that compute what the manual states as a relation. Public laws state that the two agree
-- in both directions.
pub mod Walk
