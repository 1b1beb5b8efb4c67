-- A bound on the names of a line: each token has at least one byte, and few tokens are names.
use Rattle.std.proofs.Common.{◌≡◌, ℕ, zero, suc, ◌+◌, ◌*◌, ◌-◌, ◌≤◌, ◌==◌, if◌then◌else◌, List, [], ◌∷◌, length, arith}
use Rattle.std.proofs.lemmas.Bool.{cond_both}
use Rattle.std.proofs.lemmas.List.{length-map}
use Rattle.chip_lang.specs.declared.token.Token.{Token}
use Rattle.chip_lang.specs.Token.{is_blank, token_at}
use Rattle.chip_lang.specs.computed.Tokens.{tokens_from, tokens_of}
use Rattle.chip_lang.specs.Line.{lexeme_of, lexemes_of, Reading, reading_of}
use Rattle.chip_lang.specs.Uses.{names_used}
use Rattle.chip_lang.proofs.ReadBody.{tokens_used_few}

-- each token has at least one byte
tokens_few : (place skip : ℕ) (bytes : List ℕ) → length (tokens_from place skip bytes) ≤ length bytes
tokens_few place skip [] = omega arith
tokens_few place (suc skip) (b ∷ bytes) = omega (arith, tokens_few (place + 1) skip bytes)
tokens_few place zero (b ∷ bytes) =
    let here : Token = record { kind = (token_at b bytes).0; start = place; end = place + (token_at b bytes).1 } in
    let later = tokens_from (place + 1) ((token_at b bytes).1 - 1) bytes in
    let few : List Token → Type 0 = λ ts. length ts ≤ suc (length bytes) in
    cond_both (is_blank b) (tokens_from (place + 1) zero bytes) (if b == 59 then [] else here ∷ later) few (λ _. omega (arith, tokens_few (place + 1) zero bytes))
    (λ _. cond_both (b == 59) [] (here ∷ later) few (λ _. omega arith) (λ _. omega (arith, tokens_few (place + 1) ((token_at b bytes).1 - 1) bytes)))

lexemes_few : (line : List ℕ) → length (lexemes_of line) ≤ length line
lexemes_few line = omega (arith, length-map (tokens_of line) (lexeme_of line), tokens_few 0 0 line)

pub names_bound : (line : List ℕ) → 2 * length (names_used (reading_of line)) ≤ length line
unfolding reading_of
names_bound line = omega (arith, lexemes_few line, (tokens_used_few (lexemes_of line)).0)

pub names_bound_of : (line : List ℕ) (r : Reading) → r ≡ reading_of line → 2 * length (names_used r) ≤ length line
names_bound_of line r e = rw e (names_bound line)
