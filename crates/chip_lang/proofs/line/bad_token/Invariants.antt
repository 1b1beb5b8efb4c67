use Rattle.std.proofs.Common.{◌≡◌, drop}
use Rattle.chip_lang.specs.Line.{bad_token}
use Rattle.chip_lang.proofs.line.bad_token.Given as goal

abbrev pub invariant-loop-token : goal.invariant-loop-token
invariant-loop-token l = bad_token (drop l.token-index l.tokens) ≡ bad_token l.tokens
