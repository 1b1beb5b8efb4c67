-- The choices that the parts of a list name, one after the other.
use Rattle.std.proofs.Common.{◌≡◌, ◌∙◌, ◌==◌, ℕ, suc, ◌<◌, List, [], ◌∷◌, ◌++◌, length, Option, Some, None, option_map, refl, sym, ap, arith, eq-eqb, if◌then◌else◌, Bool, false}
use Rattle.std.proofs.lemmas.Bool.{ne_eqb}
use Rattle.memchr.specs.Find.{Nowhere, Passes, is_byte}
use Rattle.chip_machine.specs.QuirkList.{choice_named, chosen_by, comma, parts_of, with_byte, with_choice, with_choices}
use Rattle.chip_machine.specs.inner.FirstPart.{IsFirstPart}
use Rattle.chip_machine.specs.declared.quirks.Chosen.{Chosen}
use Rattle.chip_machine.specs.declared.quirks.Quirks.{Quirks}

no_comma : (byte : ℕ) (part : List ℕ) → Nowhere (Passes (is_byte comma) (byte ∷ part)) 0 (length (byte ∷ part)) → (byte == comma) ≡ false
no_comma byte part none = ne_eqb byte comma (λ same. none 0 (omega arith) (omega arith) (eq-eqb byte comma same))

later : (byte : ℕ) (part : List ℕ) → Nowhere (Passes (is_byte comma) (byte ∷ part)) 0 (length (byte ∷ part)) → Nowhere (Passes (is_byte comma) part) 0 (length part)
later byte part none k low high = none (suc k) (omega arith) (omega arith)

last_part : (part : List ℕ) → Nowhere (Passes (is_byte comma) part) 0 (length part) → parts_of part ≡ part ∷ []
last_part [] none = refl
last_part (byte ∷ part) none =
    ap (λ (b : Bool). if b then [] ∷ parts_of part else with_byte byte (parts_of part)) (no_comma byte part none)
    ∙ ap (with_byte byte) (last_part part (later byte part none))

parts_more : (part rest : List ℕ) → Nowhere (Passes (is_byte comma) part) 0 (length part) → parts_of (part ++ comma ∷ rest) ≡ part ∷ parts_of rest
parts_more [] rest none = refl
parts_more (byte ∷ part) rest none =
    ap (λ (b : Bool). if b then [] ∷ parts_of (part ++ comma ∷ rest) else with_byte byte (parts_of (part ++ comma ∷ rest))) (no_comma byte part none)
    ∙ ap (with_byte byte) (parts_more part rest (later byte part none))

-- the choices so far, followed by those of the rest of a text, have the same result as all parts of the
-- text
abbrev pub Completes : (start : Option Chosen) → (text rest : List ℕ) → Option Chosen → Type 0
Completes start text rest chosen = chosen_by start (parts_of text) ≡ chosen_by chosen (parts_of rest)

-- one more part
pub goes_on : (start : Option Chosen) (text rest part next : List ℕ) (chosen more : Option Chosen) → Completes start text rest chosen →
    IsFirstPart rest part (Some next) → more ≡ with_choice chosen (choice_named part) → Completes start text next more
goes_on start text rest part next chosen more completes first is =
    completes ∙ ap (λ (t : List ℕ). chosen_by chosen (parts_of t)) first.0 ∙ ap (chosen_by chosen) (parts_more part next first.1)
    ∙ ap (λ (c : Option Chosen). chosen_by c (parts_of next)) (sym is)

-- the last part
pub ends : (q : Quirks) (text rest part : List ℕ) (chosen more now : Option Chosen) → Completes (Some (record { quirks = q; taken = 0 })) text rest chosen →
    IsFirstPart rest part None → more ≡ with_choice chosen (choice_named part) → more ≡ now → option_map (λ (k : Chosen). k.quirks) now ≡ with_choices text q
ends q text rest part chosen more now completes first is same =
    let all : chosen_by (Some (record { quirks = q; taken = 0 })) (parts_of text) ≡ more =
    completes ∙ ap (λ (t : List ℕ). chosen_by chosen (parts_of t)) first.0 ∙ ap (chosen_by chosen) (last_part part first.1) ∙ sym is in
    ap (option_map (λ (k : Chosen). k.quirks)) (sym (all ∙ same))

-- the rest after a comma is shorter than the text
pub shorter : (text part rest : List ℕ) → IsFirstPart text part (Some rest) → length rest < length text
shorter text part rest first = rw first.0 (after_part part rest)
  where
    after_part : (part rest : List ℕ) → length rest < length (part ++ comma ∷ rest)
    after_part [] rest = omega arith
    after_part (x ∷ xs) rest = let further = after_part xs rest in omega (arith, further)
