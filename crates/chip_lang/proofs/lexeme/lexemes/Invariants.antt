use Rattle.std.proofs.Common.{◌≡◌, ◌≤◌, ◌-◌, ◌++◌, length, drop, map}
use Rattle.chip_lang.specs.computed.Tokens.{tokens_from}
use Rattle.chip_lang.specs.Line.{lexeme_of, lexemes_of}
use Rattle.chip_lang.proofs.lexeme.lexemes.Given as goal

abbrev pub invariant-loop-token : goal.invariant-loop-token
invariant-loop-token l =
    (l.place ≤ length l.line)
    × (l.lexemes.items ++ map (lexeme_of l.line) (tokens_from l.place 0 (drop l.place l.line)) ≡ lexemes_of l.line)

abbrev pub decreases-loop-token : goal.decreases-loop-token
decreases-loop-token l = length l.initial.line - l.place
