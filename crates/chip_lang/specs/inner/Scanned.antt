-- The tokens that are still to be read in a line.
use Rattle.std.specs.Prelude.{ℕ, List, [], ◌∷◌, Option, Some, None, drop}
use Rattle.chip_lang.specs.declared.token.Token.{Token}
use Rattle.chip_lang.specs.computed.Tokens.{tokens_from}

-- a token of a line and the tokens after it, or none
abbrev pub with_rest : List ℕ → Option Token → List Token
with_rest line None = []
with_rest line (Some t) = t ∷ tokens_from t.end 0 (drop t.end line)
