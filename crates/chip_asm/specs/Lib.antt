-- The definitions of whole sources. They are part of the trusted base.
--     Lines        the lines of a source, and whether it opens
--     Edits        when an edit is refused
--     Layout       terms for a line: its statement, the name that it defines, the bytes that it takes
--     Places       the facts about each line: whether it is active, its address, its fault
--     Program      names, faults and image of a source
--     LineViews    the facts that a source reports about each line
--     Listing      the listing
--     Work         the lines that are encoded again because of an edit
--     Sources      a source as contracts see it
--     computed     functions that compute the facts that Places states as a relation; laws state
--                  that the two agree
--     inner        definitions for private functions; no public clause cites them, and a reader may
--                  skip them
pub mod Edits
pub mod Layout
pub mod LineViews
pub mod Lines
pub mod Listing
pub mod Places
pub mod Program
pub mod Sources
pub mod Work
pub mod computed
pub mod inner
