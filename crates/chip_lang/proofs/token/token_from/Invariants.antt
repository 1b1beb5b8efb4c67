use Rattle.std.proofs.Common.{◌≡◌, ◌≤◌, ◌-◌, length, drop}
use Rattle.chip_lang.specs.computed.Tokens.{tokens_from}
use Rattle.chip_lang.proofs.token.token_from.Given as goal

abbrev pub invariant-loop-place : goal.invariant-loop-place
invariant-loop-place l =
    (l.place ≤ length l.line) × (l.from ≤ l.place)
    × (tokens_from l.from 0 (drop l.from l.line) ≡ tokens_from l.place 0 (drop l.place l.line))

abbrev pub decreases-loop-place : goal.decreases-loop-place
decreases-loop-place l = length l.initial.line - l.place
