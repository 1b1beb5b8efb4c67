-- The tokens of a line, found byte by byte (chosen by this project). A law states that Scan allows
-- this list and no other.
use Rattle.std.specs.Prelude.{ℕ, zero, suc, ◌+◌, ◌-◌, ◌==◌, if◌then◌else◌, List, [], ◌∷◌}
use Rattle.chip_lang.specs.declared.token.Token.{Token}
use Rattle.chip_lang.specs.Token.{is_blank, token_at}

-- The tokens in the bytes from a place on. The first `skip` bytes belong to the token before.
abbrev pub tokens_from : (place skip : ℕ) → List ℕ → List Token
tokens_from place skip [] = []
tokens_from place (suc skip) (b ∷ bytes) = tokens_from (place + 1) skip bytes
tokens_from place zero (b ∷ bytes) =
    if is_blank b then tokens_from (place + 1) zero bytes
    else (if b == 59 then []
    else (record { kind = (token_at b bytes).0; start = place; end = place + (token_at b bytes).1 }
    ∷ tokens_from (place + 1) ((token_at b bytes).1 - 1) bytes))

-- the tokens of a line
abbrev pub tokens_of : List ℕ → List Token
tokens_of line = tokens_from 0 0 line
