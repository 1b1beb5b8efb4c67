-- Tokens that end with a sign, and bytes without the blanks at their end.
use Rattle.std.proofs.Common.{◌≡◌, ℕ, suc, ◌+◌, Bool, true, false, if◌then◌else◌, List, [], ◌∷◌, ◌++◌, drop, reverse, Some, None, refl, sym, ◌∙◌, ap, arith}
use Rattle.std.specs.Prelude.{option_map}
use Rattle.std.specs.List.{prefix_len}
use Rattle.std.proofs.lemmas.List.{reverse-append, reverse-reverse}
use Rattle.chip_lang.specs.declared.lexeme.Lexeme.{Lexeme}
use Rattle.chip_lang.specs.Line.{is_sign_of}
use Rattle.chip_lang.specs.Token.{is_blank}
use Rattle.chip_properties.specs.computed.Separated.{ended, enclosed}
use Rattle.chip_properties.specs.Lines.{without_blanks}

front_put : (t : Lexeme) (front : List Lexeme) (b : Bool)
    → option_map (λ more. t ∷ more) (if b then Some front else None) ≡ (if b then Some (t ∷ front) else None)
front_put t front true = refl
front_put t front false = refl

ended_put : (end : ℕ) (t : Lexeme) (front : List Lexeme) (last : Lexeme)
    → ended end (front ++ last ∷ []) ≡ (if is_sign_of end last then Some front else None)
    → ended end (t ∷ (front ++ last ∷ [])) ≡ (if is_sign_of end last then Some (t ∷ front) else None)
ended_put end t [] last h = ap (λ o. option_map (λ more. t ∷ more) o) h ∙ front_put t [] (is_sign_of end last)
ended_put end t (u ∷ front) last h =
    ap (λ o. option_map (λ more. t ∷ more) o) h ∙ front_put t (u ∷ front) (is_sign_of end last)

pub ended_by : (end : ℕ) (front : List Lexeme) (last : Lexeme)
    → ended end (front ++ last ∷ []) ≡ (if is_sign_of end last then Some front else None)
ended_by end [] last = refl
ended_by end (t ∷ front) last = ended_put end t front last (ended_by end front last)

-- the tokens between the first token and the last
pub enclosed_by : (begin end : ℕ) (first : Lexeme) (inside : List Lexeme) (last : Lexeme) (ts rest : List Lexeme) (a b : Bool)
    → ts ≡ first ∷ rest → rest ≡ inside ++ last ∷ [] → is_sign_of begin first ≡ a → is_sign_of end last ≡ b
    → enclosed begin end ts ≡ (if a then (if b then Some inside else None) else None)
enclosed_by begin end first inside last ts rest a b e h p q = rw (e, h, ended_by end inside last, p, q) refl

one_more : (n : ℕ) → 1 + n ≡ suc n
one_more n = omega arith

-- a blank at the end is removed
blank_first : (b : ℕ) (bytes : List ℕ) (is : Bool) → is_blank b ≡ is
    → without_blanks (b ∷ bytes) ≡ (if is then without_blanks bytes else b ∷ bytes)
blank_first b bytes true e = rw e (ap (λ n. drop n (b ∷ bytes)) (one_more (prefix_len is_blank bytes)))
blank_first b bytes false e = rw e refl

pub trimmed_more : (front : List ℕ) (last : ℕ) (bytes : List ℕ) → bytes ≡ front ++ last ∷ [] → is_blank last ≡ true
    → reverse (without_blanks (reverse bytes)) ≡ reverse (without_blanks (reverse front))
trimmed_more front last bytes e h =
    rw (e, reverse-append front (last ∷ [])) (ap reverse (blank_first last (reverse front) true h))

pub trimmed_end : (front : List ℕ) (last : ℕ) (bytes : List ℕ) → bytes ≡ front ++ last ∷ [] → is_blank last ≡ false
    → reverse (without_blanks (reverse bytes)) ≡ bytes
trimmed_end front last bytes e h =
    rw (e, reverse-append front (last ∷ []))
    (ap reverse (blank_first last (reverse front) false h) ∙ sym (ap reverse (reverse-append front (last ∷ [])))
    ∙ reverse-reverse (front ++ last ∷ []))

pub ruleset trim_steps = (trimmed_more, trimmed_end)
