-- The definitions behind the exports of a session (chosen by this project).
--     Answering  the effects and the results of `session_answer` and `session_read`
--     Opening    the requested settings, and the number that `session_open` returns
--     Owned      what an owner of a session owns
--     inner      definitions of private contracts
pub mod Answering
pub mod Opening
pub mod Owned
pub mod inner
