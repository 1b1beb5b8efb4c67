-- The names of a machine's choices, as they are added one after the other.
use Rattle.std.proofs.Common.{◌<◌, ◌+◌, get_or, length, drop, ◌≡◌, ◌∷◌, ◌++◌, ◌∙◌, ℕ, Bool, true, false, List, [], ap, sym, refl, map, append-nil, append_assoc}
use Rattle.std.specs.Borrow.{Bor}
use Rattle.std.specs.List.{flat_map, join_with_byte}
use Rattle.std.proofs.lemmas.List.{drop_more}
use Rattle.chip_machine.specs.QuirkList.{has_choice}
use Rattle.chip_machine.specs.declared.quirks.Choice.{Choice}
use Rattle.chip_machine.specs.declared.quirks.Quirks.{Quirks}
use Rattle.chip_trace.specs.Machine.{names_in}
use Rattle.chip_trace.specs.Lines.{newline_ended}

-- pieces separated by a byte, possibly with other pieces before them
abbrev pub joined_after : (is_first : Bool) → List (List ℕ) → List ℕ
joined_after true pieces = join_with_byte 44 pieces
joined_after false pieces = flat_map (λ piece. 44 ∷ piece) pieces

-- the choices of a list, without their addresses
abbrev pub values : List (Bor (List ℕ) × Choice) → List (List ℕ × Choice)
values choices = map (λ c. (c.0.now, c.1)) choices

-- a choice that the machine doesn't have adds nothing
pub names_without : (q : Quirks) (choices : List (Bor (List ℕ) × Choice)) (place : ℕ) (d : Bor (List ℕ) × Choice) → place < length choices →
    has_choice q (get_or choices place d).1 ≡ false → names_in (values (drop place choices)) q ≡ names_in (values (drop (place + 1) choices)) q
names_without q choices place d below hasn't = rw (drop_more choices place d below, hasn't) refl

-- a choice that the machine has adds its name
pub names_with : (q : Quirks) (choices : List (Bor (List ℕ) × Choice)) (place : ℕ) (d : Bor (List ℕ) × Choice) → place < length choices →
    has_choice q (get_or choices place d).1 ≡ true →
    names_in (values (drop place choices)) q ≡ (get_or choices place d).0.now ∷ names_in (values (drop (place + 1) choices)) q
names_with q choices place d below has = rw (drop_more choices place d below, has) refl

-- nothing remains
pub joined_none : (is_first : Bool) → joined_after is_first [] ≡ []
joined_none true = refl
joined_none false = refl

joined_is : (name : List ℕ) (more : List (List ℕ)) → join_with_byte 44 (name ∷ more) ≡ name ++ flat_map (λ piece. 44 ∷ piece) more
joined_is name [] = sym (append-nil name)
joined_is name (next ∷ more) = ap (λ rest. name ++ (44 ∷ rest)) (joined_is next more)

pub joined_first : (text name : List ℕ) (more : List (List ℕ)) →
    (text ++ name) ++ joined_after false more ≡ text ++ joined_after true (name ∷ more)
joined_first text name more =
    append_assoc text name (flat_map (λ piece. 44 ∷ piece) more) ∙ ap (λ l. text ++ l) (sym (joined_is name more))

pub joined_next : (text name : List ℕ) (more : List (List ℕ)) →
    ((text ++ 44 ∷ []) ++ name) ++ joined_after false more ≡ text ++ joined_after false (name ∷ more)
joined_next text name more =
    append_assoc (text ++ 44 ∷ []) name _ ∙ append_assoc text (44 ∷ []) _

-- a line that consists of two parts, with a newline
pub one_line : (text front back : List ℕ) → ((text ++ front) ++ back) ++ 10 ∷ [] ≡ text ++ newline_ended ((front ++ back) ∷ [])
one_line text front back =
    ap (λ l. l ++ 10 ∷ []) (append_assoc text front back)
    ∙ append_assoc text (front ++ back) (10 ∷ [])
    ∙ ap (λ l. text ++ l) (sym (append-nil ((front ++ back) ++ 10 ∷ [])))
