-- How faulty lines and the answers to properties are printed (chosen by this project).
--     Answer    the answer to a property
--     Check     the faults and warnings of a source as compilers print them
--     Json      the faults and warnings of a source as JSON
--     Place     the place of a fault in a source
--     PropertyFaults    the properties that can't be read
--     Quoted    the quoted line of a finding
--     Unopened  the reason why a source doesn't open, as text and as JSON
--     inner     text or JSON, and the names that help looks up; no public clause cites it, so you may skip it
pub mod Answer
pub mod Check
pub mod Json
pub mod Place
pub mod PropertyFaults
pub mod Quoted
pub mod Unopened
pub mod inner
