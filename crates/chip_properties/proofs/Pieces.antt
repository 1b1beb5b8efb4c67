-- Tokens between separators.
use Rattle.std.proofs.Common.{◌≡◌, ℕ, zero, suc, ◌+◌, ◌<◌, ◌==◌, Bool, true, false, List, [], ◌∷◌, length, take, drop, Option, Some, None, refl, sym, ap, add-one, arith}
use Rattle.std.specs.Prelude.{◌&&◌}
use Rattle.chip_lang.specs.declared.lexeme.Lexeme.{Lexeme}
use Rattle.chip_properties.specs.declared.part.Part.{Part}
use Rattle.chip_properties.specs.declared.separator.Separator.{Separator}
use Rattle.chip_properties.specs.Nesting.{level_after}
use Rattle.chip_properties.specs.computed.Separated.{separates, count_before, before_first, after_first, tail_of, with_front, pieces, pieces_in}

tail_suc : (ts : List Lexeme) (n : ℕ) → n < length ts → tail_of (drop n ts) ≡ Some (drop (suc n) ts)
tail_suc [] n h = absurd (omega arith)
tail_suc (t ∷ ts) zero h = refl
tail_suc (t ∷ ts) (suc n) h = tail_suc ts n (omega arith)

pub tail_after : (ts : List Lexeme) (n : ℕ) → n < length ts → Some (drop (n + 1) ts) ≡ tail_of (drop n ts)
tail_after ts n h = rw add-one (sym (tail_suc ts n h))

-- the pieces are the tokens before the first separator, followed by the pieces of the tokens after it
abbrev Split : Separator → ℕ → List Lexeme → Type 0
Split s depth ts =
    pieces s depth ts ≡ take (count_before s depth ts) ts ∷ pieces_in s (tail_of (drop (count_before s depth ts) ts))

split_step : (s : Separator) (depth : ℕ) (t : Lexeme) (ts : List Lexeme) (b : Bool) → (depth == 0 && separates s t) ≡ b
    → Split s (level_after depth t) ts → Split s depth (t ∷ ts)
split_step s depth t ts true e h = rw e refl
split_step s depth t ts false e h = rw (e, add-one (count_before s (level_after depth t) ts)) (ap (with_front t) h)

split : (s : Separator) (ts : List Lexeme) (depth : ℕ) → Split s depth ts
split s [] depth = refl
split s (t ∷ ts) depth = split_step s depth t ts (depth == 0 && separates s t) refl (split s ts (level_after depth t))

pub pieces_split : (s : Separator) (ts : List Lexeme) → pieces s 0 ts ≡ before_first s ts ∷ pieces_in s (after_first s ts)
pieces_split s ts = split s ts 0

-- the number of tokens left to split
abbrev pub left_in : Option Part → ℕ
left_in None = 0
left_in (Some part) = length part.tokens.now + 1
