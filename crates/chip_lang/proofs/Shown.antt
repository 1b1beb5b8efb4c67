-- The form in which a word is shown, with the operands in the word, encodes to that word.
use Rattle.std.proofs.Common.{◌≡◌, ℕ, ◌%◌, Bool, true, List, [], ◌∷◌, map, Option, Some, None, option_map, Ok, refl, sym, ap, ◌∙◌, arith}
use Rattle.std.specs.List.{find, slice_get, position_or_len}
use Rattle.std.proofs.lemmas.Bool.{and_from, eqb-true, lt-ltb}
use Rattle.std.proofs.lemmas.List.Folds.{find_at}
use Rattle.std.proofs.lemmas.List.Sums.{passes_at_first}
use Rattle.std.proofs.lemmas.Option.{get_or_from_slice_get, slice_get_within}
use Rattle.std.proofs.lemmas.Slice.Eq.{bytes_eq-Decides}
use Rattle.chip_lang.specs.declared.form.Pattern.{Pattern}
use Rattle.chip_lang.specs.declared.form.Pattern.TheVariants.{Vx, Nibble, Byte, Address}
use Rattle.chip_lang.specs.Value.{Symbols}
use Rattle.chip_lang.specs.Table.{Row, Entry, table}
use Rattle.chip_lang.specs.Form.{is_special, matches, all_match, fits}
use Rattle.chip_lang.specs.Encoding.{field_of, fields_of, word_of_form}
use Rattle.chip_lang.specs.Decoding.{part_in, parts_in, gives, entry_of}
use Rattle.chip_lang.specs.Show.{form_shown, operand_in}

field_shown : (w : ℕ) (p : Pattern) (symbols : Symbols) → field_of p (operand_in w p) symbols ≡ Ok (part_in p w)
unfolding field_of matches is_special
field_shown w Nibble symbols = rw (lt-ltb (w % 16) 16 (omega arith)) refl
field_shown w Byte symbols = rw (lt-ltb (w % 256) 256 (omega arith)) refl
field_shown w Address symbols = rw (lt-ltb (w % 4096) 4096 (omega arith)) refl
field_shown w p symbols = refl

fields_shown : (w : ℕ) (ps : List Pattern) (symbols : Symbols) → fields_of ps (map (operand_in w) ps) symbols ≡ Ok (parts_in ps w)
fields_shown w [] symbols = refl
fields_shown w (p ∷ ps) symbols =
    let here = field_shown w p symbols in
    let rest = fields_shown w ps symbols in
    rw (here, rest) refl

operand_fits : (w : ℕ) (p : Pattern) → matches p (operand_in w p) ≡ true
unfolding matches is_special
operand_fits w Vx = refl
operand_fits w p = refl

operands_fit : (w : ℕ) (ps : List Pattern) → all_match ps (map (operand_in w) ps) ≡ true
operands_fit w [] = refl
operands_fit w (p ∷ ps) = and_from _ _ (operand_fits w p) (operands_fit w ps)

pub found_passes : {A : Type 0} (test : A → Bool) (xs : List A) (x : A) → find test xs ≡ Some x → test x ≡ true
found_passes test xs x h =
    let k = position_or_len test xs in
    let at : slice_get xs k ≡ Some x = sym (find_at test xs) ∙ h in
    ap test (sym (get_or_from_slice_get xs k x x at)) ∙ passes_at_first test xs x (slice_get_within xs k x at)

-- the entry that the table has for a word gives that word
pub entry_gives : (w : ℕ) (e : Entry) → entry_of w ≡ Some e → gives e.form w ≡ true
unfolding entry_of
entry_gives w e h = found_passes (λ e. gives e.form w) table e h

-- a result that `option_map` makes is made of the value in the option
pub made_of : {A B : Type 0} (make : A → B) (o : Option A) (y : B) → option_map make o ≡ Some y → (x : A) × (o ≡ Some x) × (make x ≡ y)
made_of make None y h = cc
made_of make (Some x) y h = (x, refl, cc)

pub word_shown : (w : ℕ) (r : Row) (symbols : Symbols) → form_shown w ≡ Some r → word_of_form r (map (operand_in w) r.patterns) symbols ≡ Ok w
word_shown w r symbols h =
    let made = made_of (λ e. e.form) (entry_of w) r h in
    let passes : gives r w ≡ true = ap (λ r. gives r w) (sym made.2) ∙ entry_gives w made.0 made.1 in
    let whole = eqb-true _ _ passes in
    let fields = fields_shown w r.patterns symbols in
    rw fields (ap Ok whole)

pub form_fits : (w : ℕ) (r : Row) → fits r r.name (map (operand_in w) r.patterns) ≡ true
form_fits w r = and_from _ _ ((bytes_eq-Decides r.name r.name).1 refl) (operands_fit w r.patterns)
