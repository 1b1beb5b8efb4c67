-- The text that `licences` prints (chosen by this project): a constant with the text of the file
-- THIRD-PARTY.
use Rattle.std.specs.Prelude.{ℕ, List}
use Rattle.chip_pages.specs.declared.licences.TheConstants.{LICENCES}

abbrev pub licences_text : List ℕ
licences_text = LICENCES.now
