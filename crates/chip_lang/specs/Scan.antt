-- The list of a line's tokens, as a relation: only blanks come before each token, and the line has
-- that token at that place (Chipper manual for the tokens; the rest is chosen by this project).
use Rattle.std.specs.Prelude.{ℕ, ◌≡◌, ◌+◌, ◌<◌, ◌≤◌, ◌==◌, true, false, List, [], ◌∷◌, length, slice_index, drop}
use Rattle.chip_lang.specs.declared.token.Token.{Token}
use Rattle.chip_lang.specs.Token.{is_blank, token_at}

-- all bytes from one place up to another are blanks
abbrev pub AllBlank : List ℕ → (from to : ℕ) → Type 0
AllBlank line from to = (k : ℕ) → from ≤ k → k < to → is_blank (slice_index line k) ≡ true

-- A token begins at its place, which is not a blank and begins no comment. Its kind is the first
-- that fits, with the longest run of bytes.
pub record IsToken (line : List ℕ) (t : Token) : Type 0 where
  pub inside : t.start < length line
  pub no_blank : is_blank (slice_index line t.start) ≡ false
  pub no_comment : (slice_index line t.start == 59) ≡ false
  pub kind : t.kind ≡ (token_at (slice_index line t.start) (drop (t.start + 1) line)).0
  pub end : t.end ≡ t.start + (token_at (slice_index line t.start) (drop (t.start + 1) line)).1

-- only blanks follow, up to the end of the line or a comment
pub record IsOver (line : List ℕ) (place : ℕ) : Type 0 where
  pub stop : ℕ
  pub after : place ≤ stop
  pub inside : stop ≤ length line
  pub blank : AllBlank line place stop
  pub comment : stop < length line → slice_index line stop ≡ 59

-- the list contains all tokens from a place on
abbrev pub AreTokens : List ℕ → (place : ℕ) → List Token → Type 0
AreTokens line place [] = IsOver line place
AreTokens line place (t ∷ ts) =
    (place ≤ t.start) × AllBlank line place t.start × IsToken line t × AreTokens line t.end ts
