-- The pieces of a list of tokens between commas, one after another.
use Rattle.std.proofs.Common.{◌≡◌, ℕ, zero, suc, ◌+◌, ◌<◌, ◌≤◌, Bool, true, false, not, List, [], ◌∷◌, ◌++◌, length, take, drop, map, Option, Some, None, refl, sym, ◌∙◌, ap, append_assoc, add-one, arith}
use Rattle.std.specs.Prelude.{option_and_then}
use Rattle.std.specs.List.{prefix_len}
use Rattle.std.proofs.lemmas.List.{append-nil, map-append}
use Rattle.chip_lang.specs.declared.lexeme.Lexeme.{Lexeme}
use Rattle.chip_lang.specs.Line.{is_sign_of, pieces, all_some}
use Rattle.chip_lang.proofs.Scan.{to_end}

-- before the first comma
abbrev pub before_comma : List Lexeme → ℕ
before_comma ts = prefix_len (λ t. not (is_sign_of 44 t)) ts

-- the pieces before and after a comma, if it is the first comma
abbrev Cut : List Lexeme → Type 0
Cut ts = (n : ℕ) → n ≡ before_comma ts → n < length ts → pieces ts ≡ take n ts ∷ pieces (drop (suc n) ts)

cut_step : (t : Lexeme) (ts : List Lexeme) (b : Bool) → is_sign_of 44 t ≡ b → Cut ts → Cut (t ∷ ts)
cut_step t ts true s again zero e h = rw s refl
cut_step t ts true s again (suc n) e h = let none = rw s at e in absurd (omega arith)
cut_step t ts false s again zero e h = let some = rw s at e in absurd (omega arith)
cut_step t ts false s again (suc n) e h =
    let some = rw s at e in
    let rest = again n (omega arith) (omega arith) in
    rw (s, rest) refl

cut : (ts : List Lexeme) → Cut ts
cut [] n e h = absurd (omega arith)
cut (t ∷ ts) n e h = cut_step t ts (is_sign_of 44 t) refl (cut ts) n e h

pub cut_at_comma : (ts : List Lexeme) (n : ℕ) → n ≡ before_comma ts → n < length ts → pieces ts ≡ take n ts ∷ pieces (drop (n + 1) ts)
cut_at_comma ts n e h = rw add-one (cut ts n e h)

-- the one piece of a list without a comma
abbrev Whole : List Lexeme → Type 0
Whole ts = length ts ≤ before_comma ts → pieces ts ≡ ts ∷ []

whole_step : (t : Lexeme) (ts : List Lexeme) (b : Bool) → is_sign_of 44 t ≡ b → Whole ts → Whole (t ∷ ts)
whole_step t ts true s again h = let none = rw s at h in absurd (omega arith)
whole_step t ts false s again h =
    let more = rw s at h in
    let rest = again (omega arith) in
    rw (s, rest) refl

whole : (ts : List Lexeme) → Whole ts
whole [] h = refl
whole (t ∷ ts) h = whole_step t ts (is_sign_of 44 t) refl (whole ts) h

pub no_comma : (ts : List Lexeme) (n : ℕ) → n ≡ before_comma ts → length ts ≤ n → pieces ts ≡ ts ∷ []
no_comma ts n e h = whole ts (omega arith)

pub ruleset piece_steps = (cut_at_comma, no_comma, to_end)

module _ {A B : Type 0} where
  -- the values found already, followed by those still to be found
  abbrev pub after : (A → B) → List A → Option (List B) → Option (List B)
  after v xs None = None
  after v xs (Some ys) = Some (map v xs ++ ys)

  pub after_none : (v : A → B) (r : Option (List B)) → after v [] r ≡ r
  after_none v None = refl
  after_none v (Some ys) = refl

  pub after_all : (v : A → B) (xs : List A) → after v xs (Some []) ≡ Some (map v xs)
  after_all v xs = ap Some (append-nil (map v xs))

  after_more : (v : A → B) (xs : List A) (x : A) (r : Option (List B)) → after v (xs ++ x ∷ []) r ≡ after v xs (option_and_then (λ ys. Some (v x ∷ ys)) r)
  after_more v xs x None = refl
  after_more v xs x (Some ys) = ap Some (ap (λ zs. zs ++ ys) (map-append v xs (x ∷ [])) ∙ append_assoc (map v xs) (v x ∷ []) ys)

  pub found_next : (v : A → B) (parse : List Lexeme → Option B) (xs : List A) (x : A) (all ps : List (List Lexeme)) (p : List Lexeme) → all ≡ p ∷ ps → Some (v x) ≡ parse p →
      after v xs (all_some (map parse all)) ≡ after v (xs ++ x ∷ []) (all_some (map parse ps))
  found_next v parse xs x all ps p e f = rw (e, ← f) (sym (after_more v xs x (all_some (map parse ps))))

  pub found_none : (v : A → B) (parse : List Lexeme → Option B) (xs : List A) (all ps : List (List Lexeme)) (p : List Lexeme) → all ≡ p ∷ ps → None ≡ parse p →
      after v xs (all_some (map parse all)) ≡ None
  found_none v parse xs all ps p e f = rw (e, ← f) refl

pub ruleset value_steps = (after_none, after_all, found_next, found_none)
