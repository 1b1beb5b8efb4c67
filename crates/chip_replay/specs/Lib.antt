-- The definitions behind the contracts of a replay.
-- Source: chosen by this project, except for the key events and the run, which follow the keys and
-- timers of the COSMAC VIP manual.
--     Limits       the last step, the spacing of the checkpoints, and the maximum number of events
--     Frame        two states that agree except at some bytes, and the results of the same step
--                  from both states
--     Run          the state after some steps
--     Image        an image in the memory, and the first step that a change of the image affects
--     Mask         the keys that are down as one number
--     Keys         key events, the keys that they hold down, and why an edit of them is refused
--     History      a replay as contracts see it, and what a query changes
--     inner        what is kept of a run and of the key events, what private functions promise, and
--                  laws in the form that the trait requires; a reader may skip these
pub mod Limits
pub mod Frame
pub mod Run
pub mod Image
pub mod Mask
pub mod Keys
pub mod History
pub mod inner
