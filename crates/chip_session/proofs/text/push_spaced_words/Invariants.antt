use Rattle.std.proofs.Common.{◌≡◌, ◌++◌, take}
use Rattle.chip_trace.specs.Digits.{hex_word, spaced}
use Rattle.chip_session.proofs.text.push_spaced_words.Given as goal

abbrev pub invariant-loop-word : goal.invariant-loop-word
invariant-loop-word l = l.out.items ≡ l.initial.out.items ++ spaced hex_word (take l.word-index l.words)
