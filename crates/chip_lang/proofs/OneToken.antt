-- The expression that one token forms.
use Rattle.std.proofs.Common.{◌≡◌, ℕ, ◌==◌, Bool, true, false, if◌then◌else◌, List, [], ◌∷◌, Option, Some, None, refl}
use Rattle.chip_lang.specs.declared.lexeme.Lexeme.{Lexeme}
use Rattle.chip_lang.specs.declared.lexeme.Lexeme.TheVariants.{Word, Number, Text, Sign, Bad}
use Rattle.chip_lang.specs.declared.expr.Prefix.{Prefix}
use Rattle.chip_lang.specs.Tree.{name}
use Rattle.chip_lang.specs.Reserved.{is_reserved}
use Rattle.chip_lang.specs.Grammar.{prefix_of}
use Rattle.chip_lang.specs.computed.Parse.{expression_of, one_byte, whole}
use Rattle.chip_lang.specs.inner.Atom.{atom_of}

of_word : (w : List ℕ) (b : Bool) → is_reserved w ≡ b → expression_of (Word w ∷ []) ≡ (if b then None else Some (name w))
unfolding expression_of
of_word w true e = rw e refl
of_word w false e = rw e refl

of_text : (bytes : List ℕ) → expression_of (Text bytes ∷ []) ≡ whole (one_byte bytes [])
unfolding expression_of
of_text [] = refl
of_text (b ∷ []) = refl
of_text (b ∷ c ∷ bytes) = refl

of_sign : (c : ℕ) (o : Option Prefix) (b : Bool) → prefix_of c ≡ o → (c == 40) ≡ b → expression_of (Sign c ∷ []) ≡ None
unfolding expression_of
of_sign c (Some sign) b e f = rw e refl
of_sign c None true e f = rw (e, f) refl
of_sign c None false e f = rw (e, f) refl

pub expression_of_one : (t : Lexeme) → expression_of (t ∷ []) ≡ atom_of t
unfolding expression_of
expression_of_one (Word w) = of_word w (is_reserved w) refl
expression_of_one (Number z) = refl
expression_of_one (Text bytes) = of_text bytes
expression_of_one (Sign c) = of_sign c (prefix_of c) (c == 40) refl refl
expression_of_one (Bad f) = refl
