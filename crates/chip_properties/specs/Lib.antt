-- The language of `;!` lines.
-- Source: chosen by this project.
--     Words           the words of the language
--     SeenProperty    properties, apart from the places of their parts in memory
--     Tokens          the tokens of a property
--     Language        which tokens are a property, and what the property states
--     Nesting         nested parentheses and brackets
--     Lines           the lines that state properties
--     Properties      the properties of a source
--     Faults          the numbers of faults
--     computed        the property that tokens state, found step by step; a law states that it is the
--                     property of Language
--     inner           definitions for private functions; no public clause cites it
pub mod Faults
pub mod Language
pub mod Lines
pub mod Nesting
pub mod Properties
pub mod SeenProperty
pub mod Tokens
pub mod Words
pub mod computed
pub mod inner
