use Rattle.std.proofs.Common.{◌≡◌, drop, map}
use Rattle.chip_lang.specs.Named.{find_word}
use Rattle.chip_lang.specs.inner.Keywords.{row_of}
use Rattle.chip_lang.proofs.keyword.find_in.Given as goal

abbrev pub invariant-loop-text : goal.invariant-loop-text
invariant-loop-text l = find_word (map row_of (drop l.text-index l.rows)) l.word ≡ find_word (map row_of l.rows) l.word
