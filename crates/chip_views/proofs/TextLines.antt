-- The lines of a text that was built from lines.
use Rattle.std.proofs.Common.{◌≡◌, ℕ, ◌==◌, ◌-◌, ◌<◌, ◌≤◌, Bool, true, false, List, [], ◌∷◌, ◌++◌, length, take, slice_index, refl, sym, ap, ◌∙◌, append_assoc, arith}
use Rattle.std.specs.Prelude.{nat_le, if◌then◌else◌}
use Rattle.std.specs.List.{slice_split, list_all}
use Rattle.std.specs.Str.Lines.{lines, lines_of_parts, strip_carriage_return}
use Rattle.std.proofs.lemmas.Bool.{and_parts, leb-true}
use Rattle.chip_views.specs.Dis.{is_visible, text_of_lines}
use Rattle.chip_asm.proofs.CutSteps.{Filled, filled}

abbrev is_end : ℕ → Bool
is_end b = b == 10

other_than : (b c : ℕ) → c < 32 → is_visible b ≡ true → (b == c) ≡ false
other_than b c small seen =
    let from : 32 ≤ b = leb-true 32 b (and_parts (nat_le 32 b) (nat_le b 126) seen).0 in
    grind (arith, from, small)

last_visible : (b : ℕ) (line : List ℕ) → list_all is_visible (b ∷ line) ≡ true → is_visible (slice_index (b ∷ line) (length line)) ≡ true
last_visible b [] seen = (and_parts (is_visible b) true seen).0
last_visible b (c ∷ line) seen = last_visible c line (and_parts (is_visible b) (list_all is_visible (c ∷ line)) seen).1

kept_whole : (line : List ℕ) → list_all is_visible line ≡ true → strip_carriage_return line ≡ line
kept_whole [] seen = refl
kept_whole (b ∷ line) seen =
    let end : length (b ∷ line) - 1 ≡ length line = omega arith in
    ap (λ n. if slice_index (b ∷ line) n == 13 then take n (b ∷ line) else b ∷ line) end
    ∙ ap (λ (is_return : Bool). if is_return then take (length line) (b ∷ line) else b ∷ line)
    (other_than (slice_index (b ∷ line) (length line)) 13 (omega arith) (last_visible b line seen))

split_at : (line rest : List ℕ) → list_all is_visible line ≡ true → slice_split is_end (line ++ 10 ∷ rest) ≡ line ∷ slice_split is_end rest
split_at [] rest seen = refl
split_at (b ∷ line) rest seen =
    let parts = and_parts (is_visible b) (list_all is_visible line) seen in
    rw (other_than b 10 (omega arith) parts.0, split_at line rest parts.1) refl

parts_next : (line : List ℕ) (parts : List (List ℕ)) → list_all is_visible line ≡ true → Filled parts → lines_of_parts (line ∷ parts) ≡ line ∷ lines_of_parts parts
parts_next line parts seen f =
    ap (λ ps. lines_of_parts (line ∷ ps)) f.is
    ∙ ap (λ l. l ∷ lines_of_parts (f.first ∷ f.others)) (kept_whole line seen)
    ∙ ap (λ ps. line ∷ lines_of_parts ps) (sym f.is)

abbrev pub EachVisible : List (List ℕ) → Type 0
EachVisible [] = Unit {0}
EachVisible (line ∷ ls) = (list_all is_visible line ≡ true) × EachVisible ls

pub lines_of_text : (ls : List (List ℕ)) → EachVisible ls → lines (text_of_lines ls) ≡ ls
lines_of_text [] each = refl
lines_of_text (line ∷ ls) each =
    ap lines (append_assoc line (10 ∷ []) (text_of_lines ls))
    ∙ ap lines_of_parts (split_at line (text_of_lines ls) each.0)
    ∙ parts_next line (slice_split is_end (text_of_lines ls)) each.0 (filled (text_of_lines ls))
    ∙ ap (λ rest. line ∷ rest) (lines_of_text ls each.1)
