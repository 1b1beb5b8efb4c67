-- Nested parentheses and brackets (chosen by this project).
use Rattle.std.specs.Prelude.{ℕ, ◌+◌, ◌-◌, ◌||◌, Bool, true, false, if◌then◌else◌, nat_lt, List, [], ◌∷◌}
use Rattle.chip_lang.specs.declared.limits.TheConstants.{OPEN_PARENTHESES}
use Rattle.chip_lang.specs.declared.lexeme.Lexeme.{Lexeme}
use Rattle.chip_lang.specs.Line.{is_sign_of}

-- the number of open parentheses and brackets after a token
abbrev pub level_after : ℕ → Lexeme → ℕ
level_after depth t =
    if is_sign_of 40 t || is_sign_of 91 t then depth + 1
    else (if is_sign_of 41 t || is_sign_of 93 t then depth - 1 else depth)

-- whether more than OPEN_PARENTHESES are open at once
abbrev pub is_deep : ℕ → List Lexeme → Bool
is_deep depth [] = false
is_deep depth (t ∷ ts) =
    if nat_lt OPEN_PARENTHESES (level_after depth t) then true else is_deep (level_after depth t) ts
