-- The meaning of a reserved word that isn't a register (chosen by this project).
use Rattle.std.specs.Prelude.{ℕ, ◌-◌, Bool, true, false, List, [], ◌∷◌, Option, Some, None, map, codes, slice_get}
use Rattle.std.specs.Option.{unwrap_or}
use Rattle.chip_lang.specs.declared.directive.Directive.{Directive as Directive_name}
use Rattle.chip_lang.specs.declared.form.Special.{Special as Special_word}
use Rattle.chip_lang.specs.declared.keyword.Keyword.{Keyword}
use Rattle.chip_lang.specs.declared.keyword.Keyword.TheVariants.{Instruction, Directive, Special}
use Rattle.chip_lang.specs.declared.keyword.Named.{Named}
use Rattle.chip_lang.specs.Form.{row_of_form}
use Rattle.chip_lang.specs.Keyword.{directive_of, special_of}
use Rattle.chip_lang.specs.Reserved.{is_mnemonic}
use Rattle.chip_lang.specs.Table.{Row}
use Rattle.chip_lang.specs.inner.NamedForms.{forms_of}

pub record Meaning : Type 0 where
  pub directive : Option Directive_name
  pub special : Option Special_word
  pub forms : List Row
  pub is_instruction : Bool

abbrev pub meaning_of : Keyword → Meaning
meaning_of (Instruction fs) = record { directive = None; special = None; forms = map row_of_form fs.now; is_instruction = true }
meaning_of (Directive d) = record { directive = Some d; special = None; forms = []; is_instruction = false }
meaning_of (Special s) = record { directive = None; special = Some s; forms = []; is_instruction = false }

abbrev pub meaning_in : Option Keyword → Meaning
meaning_in None = record { directive = None; special = None; forms = []; is_instruction = false }
meaning_in (Some k) = meaning_of k

-- a row of a table of words as contracts see it, without its place in memory
abbrev pub row_of : Named → List ℕ × Meaning
row_of row = (row.0.now, meaning_of row.1)

-- the meaning of a word in the tables of the language
abbrev pub meaning : List ℕ → Meaning
meaning w =
    record { directive = directive_of w; special = special_of w; forms = forms_of w; is_instruction = is_mnemonic w }

abbrev pub row : List ℕ → List ℕ × Meaning
row w = (w, meaning w)

-- the words, grouped by their last letters from A to W
abbrev pub words : List (List (List ℕ))
words =
    (codes "DA" ∷ [])
    ∷ (codes "SUB" ∷ codes "DB" ∷ codes "B" ∷ []) ∷ []
    ∷ (codes "LD" ∷ codes "ADD" ∷ codes "AND" ∷ codes "RND" ∷ codes "SCD" ∷ codes "END" ∷ codes "IFUND" ∷ codes "USED" ∷ [])
    ∷ (codes "SE" ∷ codes "SNE" ∷ codes "ELSE" ∷ codes "DEFINE" ∷ codes "INCLUDE" ∷ [])
    ∷ (codes "F" ∷ codes "HF" ∷ codes "IFDEF" ∷ codes "ENDIF" ∷ codes "XREF" ∷ codes "UNDEF" ∷ [])
    ∷ (codes "ORG" ∷ [])
    ∷ (codes "HIGH" ∷ [])
    ∷ (codes "I" ∷ []) ∷ []
    ∷ (codes "K" ∷ [])
    ∷ (codes "CALL" ∷ codes "SHL" ∷ codes "SCL" ∷ []) ∷ []
    ∷ (codes "SUBN" ∷ codes "ALIGN" ∷ codes "OPTION" ∷ []) ∷ []
    ∷ (codes "JP" ∷ codes "SKP" ∷ codes "SKNP" ∷ []) ∷ []
    ∷ (codes "OR" ∷ codes "XOR" ∷ codes "SHR" ∷ codes "SCR" ∷ codes "R" ∷ [])
    ∷ (codes "CLS" ∷ codes "SYS" ∷ codes "DS" ∷ [])
    ∷ (codes "RET" ∷ codes "EXIT" ∷ codes "DT" ∷ codes "ST" ∷ [])
    ∷ (codes "EQU" ∷ []) ∷ []
    ∷ (codes "DRW" ∷ codes "LOW" ∷ codes "DW" ∷ []) ∷ []

-- the rows of the words that end in a byte
abbrev pub rows_ending_in : ℕ → List (List (List ℕ × Meaning)) → List (List ℕ × Meaning)
rows_ending_in last groups = unwrap_or (slice_get groups (last - 65)) []
