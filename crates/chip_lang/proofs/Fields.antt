-- The fields of a word, one operand after another.
use Rattle.std.proofs.Common.{◌≡◌, ℕ, ◌≢◌, List, [], ◌∷◌, length, map, Result, Ok, Err, refl, sym, ap, ◌∙◌, ◌⊎◌, inl, inr, arith}
use Rattle.std.specs.Int.Bits.{bit_or, or_zero_r}
use Rattle.std.proofs.lemmas.Nat.Bits.{bit_at_or, same_from_bits}
use Rattle.chip_lang.specs.declared.fault.Fault.{Fault}
use Rattle.chip_lang.specs.declared.fault.Fault.TheVariants.{WrongOperands}
use Rattle.chip_lang.specs.declared.form.Pattern.{Pattern}
use Rattle.chip_lang.specs.declared.form.Operand.{Operand}
use Rattle.chip_lang.specs.Operand.{operand_of}
use Rattle.chip_lang.specs.Encoding.{field_of, fields_of}
use Rattle.chip_lang.specs.Value.{◌>>=◌, Symbols}

-- `|` is associative
or_assoc : (a b c : ℕ) → bit_or (bit_or a b) c ≡ bit_or a (bit_or b c)
or_assoc a b c =
    same_from_bits _ _ (λ i. omega (arith, bit_at_or (bit_or a b) c i, bit_at_or a b i, bit_at_or a (bit_or b c) i, bit_at_or b c i))

-- a word with fields put into it
abbrev pub with_fields : ℕ → Result ℕ Fault → Result ℕ Fault
with_fields word r = r >>= λ fields. Ok (bit_or word fields)

-- a word with the fields of operands put into it
abbrev pub with_operands : ℕ → List Pattern → List Operand → Symbols → Result ℕ Fault
with_operands word ps os symbols = with_fields word (fields_of ps (map operand_of os) symbols)

field_and_more : (word field : ℕ) (r : Result ℕ Fault) → with_fields word (r >>= λ rest. Ok (bit_or field rest)) ≡ with_fields (bit_or word field) r
field_and_more word field (Ok rest) = ap Ok (sym (or_assoc word field rest))
field_and_more word field (Err fault) = refl

-- one more operand is put into the word
pub field_put : (word field : ℕ) (p : Pattern) (o : Operand) (ps : List Pattern) (os : List Operand) (symbols : Symbols) (whole : Result ℕ Fault) →
    with_operands word (p ∷ ps) (o ∷ os) symbols ≡ whole → field_of p (operand_of o) symbols ≡ Ok field →
    with_operands (bit_or word field) ps os symbols ≡ whole
field_put word field p o ps os symbols whole before e =
    sym (field_and_more word field (fields_of ps (map operand_of os) symbols)) ∙ rw e at before

-- no pattern or no operand is left
abbrev pub AtEnd : List Pattern → List Operand → Type 0
AtEnd ps os = (ps ≡ []) ⊎ (os ≡ [])

-- all operands are in the word
pub all_put : (word : ℕ) (ps : List Pattern) (os : List Operand) (symbols : Symbols) (whole : Result ℕ Fault) →
    with_operands word ps os symbols ≡ whole → AtEnd ps os → length ps ≡ length os → Ok word ≡ whole
all_put word [] [] symbols whole before h same = sym (ap Ok (or_zero_r word)) ∙ before
all_put word [] (o ∷ os) symbols whole before h same = absurd (omega arith)
all_put word (p ∷ ps) [] symbols whole before h same = absurd (omega arith)
all_put word (p ∷ ps) (o ∷ os) symbols whole before (inl h) same = cc
all_put word (p ∷ ps) (o ∷ os) symbols whole before (inr h) same = cc

-- a pattern or an operand is left
pub some_left : (word : ℕ) (ps : List Pattern) (os : List Operand) (symbols : Symbols) (whole : Result ℕ Fault) →
    with_operands word ps os symbols ≡ whole → AtEnd ps os → length ps ≢ length os → Err WrongOperands ≡ whole
some_left word [] [] symbols whole before h other = absurd (other refl)
some_left word [] (o ∷ os) symbols whole before h other = before
some_left word (p ∷ ps) [] symbols whole before h other = before
some_left word (p ∷ ps) (o ∷ os) symbols whole before (inl h) other = cc
some_left word (p ∷ ps) (o ∷ os) symbols whole before (inr h) other = cc
