-- Tokens before, between and after separators outside of parentheses and brackets, found token by token
-- (chosen by this project).
use Rattle.std.specs.Prelude.{ℕ, ◌+◌, ◌==◌, ◌&&◌, ◌||◌, Bool, if◌then◌else◌, List, [], ◌∷◌, Option, Some, None, codes, drop, take, option_map}
use Rattle.chip_lang.specs.declared.lexeme.Lexeme.{Lexeme}
use Rattle.chip_lang.specs.Line.{is_the, is_sign_of}
use Rattle.chip_properties.specs.Nesting.{level_after}
use Rattle.chip_properties.specs.declared.separator.Separator.{Separator}
use Rattle.chip_properties.specs.declared.separator.Separator.TheVariants.{Place, And, Or, Relation, Plus, Times, Comma}

-- whether a token is a separator of a kind
abbrev pub separates : Separator → Lexeme → Bool
separates Place t = is_the (codes "HERE") t || is_the (codes "AT") t
separates And t = is_the (codes "AND") t
separates Or t = is_the (codes "OR") t
separates Relation t = is_sign_of 61 t || is_sign_of 60 t || is_sign_of 62 t
separates Plus t = is_sign_of 43 t
separates Times t = is_sign_of 42 t
separates Comma t = is_sign_of 44 t

-- the number of tokens before the first separator, given the number of open parentheses and brackets
abbrev pub count_before : Separator → ℕ → List Lexeme → ℕ
count_before separator depth [] = 0
count_before separator depth (t ∷ ts) =
    if depth == 0 && separates separator t then 0
    else count_before separator (level_after depth t) ts + 1

abbrev pub before_first : Separator → List Lexeme → List Lexeme
before_first separator ts = take (count_before separator 0 ts) ts

abbrev pub from_first : Separator → List Lexeme → List Lexeme
from_first separator ts = drop (count_before separator 0 ts) ts

-- the tokens after the first one, if there is one
abbrev pub tail_of : List Lexeme → Option (List Lexeme)
tail_of [] = None
tail_of (t ∷ ts) = Some ts

abbrev pub after_first : Separator → List Lexeme → Option (List Lexeme)
after_first separator ts = tail_of (from_first separator ts)

-- the tokens before a closing sign, if the tokens end with it
abbrev pub ended : ℕ → List Lexeme → Option (List Lexeme)
ended close [] = None
ended close (t ∷ []) = if is_sign_of close t then Some [] else None
ended close (t ∷ u ∷ ts) = option_map (λ front. t ∷ front) (ended close (u ∷ ts))

-- the tokens between two signs, if the tokens begin and end with these signs
abbrev pub enclosed : ℕ → ℕ → List Lexeme → Option (List Lexeme)
enclosed first last [] = None
enclosed first last (t ∷ ts) = if is_sign_of first t then ended last ts else None

-- pieces with one more token at the front of the first piece
abbrev pub with_front : Lexeme → List (List Lexeme) → List (List Lexeme)
with_front t [] = (t ∷ []) ∷ []
with_front t (p ∷ ps) = (t ∷ p) ∷ ps

-- the tokens before, between and after all separators
abbrev pub pieces : Separator → ℕ → List Lexeme → List (List Lexeme)
pieces separator depth [] = [] ∷ []
pieces separator depth (t ∷ ts) =
    if depth == 0 && separates separator t then [] ∷ pieces separator 0 ts
    else with_front t (pieces separator (level_after depth t) ts)

-- the pieces of the tokens after a separator, if there are any
abbrev pub pieces_in : Separator → Option (List Lexeme) → List (List Lexeme)
pieces_in separator None = []
pieces_in separator (Some ts) = pieces separator 0 ts
