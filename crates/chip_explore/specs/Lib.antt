-- The promises of a search over all key scripts.
-- Source: chosen by this project.
--     Causes       sets of stop causes
--     Property     properties of a state, which an author states about a game
--     Target       the states that a search looks for
--     Scripts      key scripts, and states that no script reaches
--     Prospects    whether goals can be reached from each state that a player can reach
--     Executed     the addresses at which a machine executes steps
--     Answers      the meaning of each answer
--     Speeds       answers that hold for all speeds of the timers
--     OneOf        what an answer for several properties implies for each of them
--     inner        the states that the search keeps, and why they show that no script reaches the target;
--                  a reader may skip these files
pub mod Causes
pub mod Property
pub mod Target
pub mod Scripts
pub mod Prospects
pub mod Executed
pub mod Answers
pub mod Speeds
pub mod OneOf
pub mod inner
