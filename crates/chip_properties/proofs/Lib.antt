-- Lemmas.
--     Ends      tokens that end with a sign; bytes without the blanks at the end
--     Pieces    tokens between separators
--     Loops     a sum and a condition, piece by piece
--     Sound, SoundSums, SoundProperties     everything found is allowed by the grammar
--     Complete, CompleteSums, CompleteProperties     everything allowed by the grammar is found
--     Told      the properties and faults after reading line by line
mod Complete
mod CompleteProperties
mod CompleteSums
mod Ends
mod Loops
mod Pieces
mod Sound
mod SoundProperties
mod SoundSums
mod Told
