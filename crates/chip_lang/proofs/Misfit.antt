-- The number of tokens in the pieces between commas.
use Rattle.std.proofs.Common.{◌≡◌, ℕ, zero, suc, ◌+◌, ◌<◌, inl, inr, List, [], ◌∷◌, length, drop, refl, ap, ◌∙◌, arith, length-drop}
use Rattle.std.proofs.lemmas.Bool.{cases_lt}
use Rattle.std.proofs.lemmas.List.{length-take-le}
use Rattle.chip_lang.specs.declared.lexeme.Lexeme.{Lexeme}
use Rattle.chip_lang.specs.Line.{pieces}
use Rattle.chip_lang.proofs.Pieces.{before_comma, cut_at_comma, no_comma}

-- the number of tokens in pieces, with a comma after each piece
abbrev pub joined : List (List Lexeme) → ℕ
joined [] = 0
joined (p ∷ ps) = length p + 1 + joined ps

joined_within : (fuel : ℕ) (ts : List Lexeme) → length ts < fuel → joined (pieces ts) ≡ length ts + 1
joined_within zero ts h = absurd (omega arith)
joined_within (suc fuel) ts h =
    let n : ℕ = before_comma ts in
    elim (cases_lt n (length ts)) [
      | inl some ↦
          (let rest = joined_within fuel (drop (n + 1) ts) (omega (arith, length-drop (n + 1) ts)) in
          ap joined (cut_at_comma ts n refl some) ∙ omega (arith, rest, some, length-drop (n + 1) ts, length-take-le n ts (omega arith)))
      | inr none ↦ (ap joined (no_comma ts n refl none) ∙ omega arith)
    ]

pub joined_pieces : (ts : List Lexeme) → joined (pieces ts) ≡ length ts + 1
joined_pieces ts = joined_within (suc (length ts)) ts (omega arith)
