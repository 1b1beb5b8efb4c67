-- The rows of reserved words mean what the tables of the language say.
use Rattle.std.proofs.Common.{◌≡◌, ℕ, ◌-◌, Bool, true, false, if◌then◌else◌, not, ◌==◌, List, [], ◌∷◌, length, map, arith, refl, sym, ap, ◌∙◌, Option, Some, None, inl, inr}
use Rattle.std.specs.List.{list_any, list_all, slice_get}
use Rattle.std.specs.Prelude.{slice_index, is_some}
use Rattle.std.specs.Option.{unwrap_or, option_map}
use Rattle.std.proofs.lemmas.Option.{slice_get-map, slice_get-get_or, slice_get_past, get_or_from_slice_get}
use Rattle.std.specs.Str.{bytes_eq}
use Rattle.std.proofs.lemmas.Bool.{and_parts, cases_Bool}
use Rattle.std.proofs.lemmas.Slice.Eq.{bytes_eq-Decides}
use Rattle.chip_lang.specs.declared.keyword.Keyword.{Keyword}
use Rattle.chip_lang.specs.declared.keyword.Keyword.TheVariants.{Instruction, Directive, Special}
use Rattle.chip_lang.specs.Table.{Row, forms}
use Rattle.chip_lang.specs.Named.{find_word}
use Rattle.chip_lang.specs.Keyword.{directives, specials, directive_of, special_of, register_of}
use Rattle.chip_lang.specs.Reserved.{is_reserved}
use Rattle.chip_lang.specs.inner.Keywords.{Meaning, meaning, meaning_of, meaning_in, row, words, rows_ending_in}
use Rattle.chip_lang.specs.inner.NamedForms.{named_forms, forms_of}
use Rattle.chip_lang.proofs.NamedForms.{is_there}

-- the words that end in a byte
abbrev words_ending_in : ℕ → List (List ℕ)
words_ending_in last = unwrap_or (slice_get words (last - 65)) []

-- the words that end in the same byte as a word
abbrev beside : List ℕ → List (List ℕ)
beside w = words_ending_in (slice_index w (length w - 1))

abbrev is_known : List ℕ → Bool
is_known w = list_any (λ t. bytes_eq t w) (beside w)

-- ---- a word of the rows

found : (ts : List (List ℕ)) (w : List ℕ) → find_word (map row ts) w ≡ (if list_any (λ t. bytes_eq t w) ts then Some (meaning w) else None)
found [] w = refl
found (t ∷ ts) w =
    elim (cases_Bool (bytes_eq t w)) [
      | inl e ↦ rw e (ap (λ w. Some (meaning w)) ((bytes_eq-Decides t w).0 e))
      | inr e ↦ rw e (found ts w)
    ]

-- ---- the rows at a place

pub ruleset rows_at = (slice_get-map)

rows_in : (found : Option (List (List ℕ))) → unwrap_or (option_map (map row) found) [] ≡ map row (unwrap_or found [])
rows_in None = refl
rows_in (Some ts) = refl

rows_beside : (last : ℕ) → rows_ending_in last (map (map row) words) ≡ map row (words_ending_in last)
rows_beside last = ap (λ o. unwrap_or o []) (slice_get-map (map row) words (last - 65)) ∙ rows_in (slice_get words (last - 65))

-- ---- any other word

other : (name w : List ℕ) → is_known name ≡ true → is_known w ≡ false → bytes_eq name w ≡ false
other name w known unknown =
    elim (cases_Bool (bytes_eq name w)) [
      | inl e ↦ absurd (let no : true ≡ false = sym known ∙ ap is_known ((bytes_eq-Decides name w).0 e) ∙ unknown in cc)
      | inr e ↦ e
    ]

no_word : {A : Type 0} (rows : List (List ℕ × A)) (w : List ℕ) → list_all (λ r. is_known r.0) rows ≡ true → is_known w ≡ false → find_word rows w ≡ None
no_word [] w h unknown = refl
no_word (r ∷ rows) w h unknown =
    let parts = and_parts (is_known r.0) (list_all (λ r. is_known r.0) rows) h in
    rw (other r.0 w parts.0 unknown) (no_word rows w parts.1 unknown)

no_form : (rows : List Row) (w : List ℕ) → list_all (λ r. is_known r.name) rows ≡ true → is_known w ≡ false → named_forms w rows ≡ []
no_form [] w h unknown = refl
no_form (r ∷ rows) w h unknown =
    let parts = and_parts (is_known r.name) (list_all (λ r. is_known r.name) rows) h in
    rw (other r.name w parts.0 unknown) (no_form rows w parts.1 unknown)

no_name : (w : List ℕ) → is_known w ≡ false → list_any (λ r. bytes_eq r.name w) forms ≡ false
no_name w unknown = is_there w forms ∙ ap (λ rows. not (length rows == 0)) (no_form forms w refl unknown)

no_directive : (w : List ℕ) → is_known w ≡ false → directive_of w ≡ None
unfolding directive_of
no_directive w unknown = no_word directives w refl unknown

no_special : (w : List ℕ) → is_known w ≡ false → special_of w ≡ None
unfolding special_of
no_special w unknown = no_word specials w refl unknown

no_forms : (w : List ℕ) → is_known w ≡ false → forms_of w ≡ []
unfolding forms_of
no_forms w unknown = no_form forms w refl unknown

abbrev nothing : Meaning
nothing = record { directive = None; special = None; forms = []; is_instruction = false }

no_meaning : (w : List ℕ) → is_known w ≡ false → nothing ≡ meaning w
no_meaning w unknown = rw (no_directive w unknown, no_special w unknown, no_forms w unknown, no_name w unknown) refl

-- the meaning of a word is the one beside it in the rows of its last byte
means : (w : List ℕ) → unwrap_or (find_word (map row (beside w)) w) nothing ≡ meaning w
means w = elim (cases_Bool (is_known w)) [ inl known ↦ rw (found (beside w) w, known) refl | inr unknown ↦ rw (found (beside w) w, unknown) (no_meaning w unknown) ]

as_option : (k : Option Keyword) → meaning_in k ≡ unwrap_or (option_map meaning_of k) nothing
as_option None = refl
as_option (Some k) = refl

pub means_found : (k : Option Keyword) (rows : List (List ℕ × Meaning)) (last : ℕ) (w : List ℕ) → option_map meaning_of k ≡ find_word rows w
    → rows ≡ rows_ending_in last (map (map row) words) → Some last ≡ slice_get w (length w - 1) → meaning_in k ≡ meaning w
means_found k rows last w here these at =
    as_option k ∙ ap (λ o. unwrap_or o nothing) here
    ∙ ap (λ rows. unwrap_or (find_word rows w) nothing) (these ∙ rows_beside last ∙ ap (λ l. map row (words_ending_in l)) (sym (get_or_from_slice_get w (length w - 1) last 0 (sym at))))
    ∙ means w

pub means_nothing : (w : List ℕ) → None ≡ slice_get w (length w - 1) → nothing ≡ meaning w
means_nothing [] at = means []
means_nothing (b ∷ bs) at = absurd (let here = slice_get-get_or (b ∷ bs) (length (b ∷ bs) - 1) 0 (omega arith) in cc)

-- ---- reserved words

pub reserved_word : (k : Keyword) (w : List ℕ) → meaning_of k ≡ meaning w → true ≡ is_reserved w
unfolding is_reserved
reserved_word (Instruction fs) w h = rw (sym (ap (λ m. m.is_instruction) h)) refl
reserved_word (Directive d) w h = rw (sym (ap (λ m. m.is_instruction) h), sym (ap (λ m. m.directive) h)) refl
reserved_word (Special s) w h = rw (sym (ap (λ m. m.is_instruction) h), sym (ap (λ m. m.directive) h), sym (ap (λ m. m.special) h)) refl

pub free_word : (w : List ℕ) → nothing ≡ meaning w → is_some (register_of w) ≡ is_reserved w
unfolding is_reserved
free_word w h = rw (sym (ap (λ m. m.is_instruction) h), sym (ap (λ m. m.directive) h), sym (ap (λ m. m.special) h)) refl
