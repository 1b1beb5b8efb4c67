-- Too few tokens to open too many parentheses.
use Rattle.std.proofs.Common.{◌≡◌, ℕ, ◌+◌, ◌≤◌, ◌||◌, Bool, true, false, if◌then◌else◌, nat_lt, List, [], ◌∷◌, length, refl, arith}
use Rattle.std.proofs.lemmas.Bool.{le-ltb}
use Rattle.chip_lang.specs.declared.limits.TheConstants.{OPEN_PARENTHESES}
use Rattle.chip_lang.specs.declared.lexeme.Lexeme.{Lexeme}
use Rattle.chip_lang.specs.Line.{is_sign_of, too_deep}

-- after these counts, the tokens are too few to open too many parentheses
abbrev pub Few : ℕ → ℕ → List Lexeme → Type 0
Few opened closed ts = opened + length ts ≤ closed + OPEN_PARENTHESES

after_one : (opens closes : Bool) (opened closed : ℕ) (ts : List Lexeme) → opened + 1 + length ts ≤ closed + OPEN_PARENTHESES →
    ((o c : ℕ) → Few o c ts → too_deep o c ts ≡ false) →
    (nat_lt ((if closes then closed + 1 else closed) + OPEN_PARENTHESES) (if opens then opened + 1 else opened)
    || too_deep (if opens then opened + 1 else opened) (if closes then closed + 1 else closed) ts) ≡ false
after_one true true opened closed ts few go =
    rw (le-ltb (closed + 1 + OPEN_PARENTHESES) (opened + 1) (omega arith)) (go (opened + 1) (closed + 1) (omega arith))
after_one true false opened closed ts few go =
    rw (le-ltb (closed + OPEN_PARENTHESES) (opened + 1) (omega arith)) (go (opened + 1) closed (omega arith))
after_one false true opened closed ts few go =
    rw (le-ltb (closed + 1 + OPEN_PARENTHESES) opened (omega arith)) (go opened (closed + 1) (omega arith))
after_one false false opened closed ts few go =
    rw (le-ltb (closed + OPEN_PARENTHESES) opened (omega arith)) (go opened closed (omega arith))

within : (opened closed : ℕ) (ts : List Lexeme) → Few opened closed ts → too_deep opened closed ts ≡ false
within opened closed [] few = refl
within opened closed (t ∷ ts) few = after_one (is_sign_of 40 t) (is_sign_of 41 t) opened closed ts (omega arith) (λ o c h. within o c ts h)

pub not_deep : (ts : List Lexeme) → length ts ≤ OPEN_PARENTHESES → too_deep 0 0 ts ≡ false
not_deep ts few = within 0 0 ts (omega arith)
