-- A name's form is found among the forms of that name.
use Rattle.std.proofs.Common.{◌≡◌, ℕ, ◌==◌, ◌&&◌, ◌≤◌, not, arith, Bool, true, false, List, [], ◌∷◌, map, length, is_none, None, Some, if◌then◌else◌, refl, sym, ap, ◌∙◌, inl, inr}
use Rattle.std.proofs.Math.Dec.{eqb-suc-zero}
use Rattle.std.specs.List.{list_any}
use Rattle.std.specs.Str.{bytes_eq}
use Rattle.std.proofs.lemmas.Bool.{cases_Bool}
use Rattle.std.proofs.lemmas.List.{length-map}
use Rattle.chip_lang.specs.Table.{Row, forms}
use Rattle.chip_lang.specs.Operand.{Operand}
use Rattle.chip_lang.specs.declared.form.Form.{Form}
use Rattle.chip_lang.specs.Form.{row_of_form, all_match, find_form, form_of}
use Rattle.chip_lang.specs.Reserved.{is_mnemonic}
use Rattle.chip_lang.specs.declared.lexeme.Lexeme.{Lexeme}
use Rattle.chip_lang.specs.declared.lexeme.Lexeme.TheVariants.{Word}
use Rattle.chip_lang.specs.Line.{front_directive, begins_with_no_word, begins_with_unknown_word}
use Rattle.chip_lang.specs.inner.NamedForms.{named_forms, forms_of, front_forms, first_fit}

same_form : (name : List ℕ) (rows : List Row) (operands : List Operand) → first_fit (named_forms name rows) operands ≡ find_form rows name operands
same_form name [] operands = refl
same_form name (r ∷ rows) operands =
    elim (cases_Bool (bytes_eq r.name name)) [
      | inl e ↦ rw e (ap (λ found. if all_match r.patterns operands then Some r else found) (same_form name rows operands))
      | inr e ↦ rw e (same_form name rows operands)
    ]

pub is_there : (name : List ℕ) (rows : List Row) → list_any (λ r. bytes_eq r.name name) rows ≡ not (length (named_forms name rows) == 0)
is_there name [] = refl
is_there name (r ∷ rows) =
    elim (cases_Bool (bytes_eq r.name name)) [
      | inl e ↦ rw e (ap not (sym (eqb-suc-zero (length (named_forms name rows)))))
      | inr e ↦ rw e (is_there name rows)
    ]

-- the form of a name and operands
pub form_among : (fs : List Form) (name : List ℕ) (operands : List Operand) → map row_of_form fs ≡ forms_of name →
    first_fit (map row_of_form fs) operands ≡ form_of name operands
unfolding forms_of
form_among fs name operands same = ap (λ rows. first_fit rows operands) same ∙ same_form name forms operands

-- whether a name has a form
pub some_among : (fs : List Form) (name : List ℕ) → map row_of_form fs ≡ forms_of name → not (length fs == 0) ≡ is_mnemonic name
unfolding forms_of
some_among fs name same =
    ap (λ n. not (n == 0)) (sym (length-map fs row_of_form) ∙ ap length same) ∙ sym (is_there name forms)

not_not : (b : Bool) → b ≡ not (not b)
not_not true = refl
not_not false = refl

-- whether a name has no form
pub none_among : (fs : List Form) (name : List ℕ) → map row_of_form fs ≡ forms_of name → (length fs == 0) ≡ not (is_mnemonic name)
none_among fs name same = not_not (length fs == 0) ∙ ap not (some_among fs name same)

-- whether the word at the front of a statement is neither a directive nor an instruction
pub unknown_word : (statement : List Lexeme) (fs : List Form) → begins_with_no_word statement ≡ false → 1 ≤ length statement → None ≡ front_directive statement →
    map row_of_form fs ≡ front_forms statement → (length fs == 0) ≡ begins_with_unknown_word statement
unknown_word [] fs word long unlisted same = absurd (omega (arith, long))
unknown_word (Word name ∷ rest) fs word long unlisted same = none_among fs name same ∙ ap (λ d. is_none d && not (is_mnemonic name)) unlisted
unknown_word statement fs word long unlisted same = cc
