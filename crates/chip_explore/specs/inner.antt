-- States as their differences from a base (Kept), states whose delay timer is a bound (Delays), the
-- states in which a property can be evaluated (Known), the states that a search keeps and the facts
-- about them (Cover), ranks of the kept states (Ranks), the start and the answers of a search
-- (Told), and the number of events of a script that were applied (Played).
pub mod Cover
pub mod Kept
pub mod Delays
pub mod Known
pub mod Ranks
pub mod Told
pub mod Played
