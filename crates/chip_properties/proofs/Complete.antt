-- Every value, item and addend that the grammar allows for tokens is found.
use Rattle.std.proofs.Common.{◌≡◌, ◌⊎◌, inl, inr, ℕ, ◌+◌, ◌<◌, ◌==◌, Bool, true, false, not, if◌then◌else◌, List, [], ◌∷◌, ◌++◌, length, take, drop, Option, Some, None, refl, sym, subst, ◌∙◌, ap, append_assoc, append-nil, length-append, arith}
use Rattle.std.specs.Prelude.{◌&&◌, ◌||◌, codes, is_some, option_and_then}
use Rattle.std.specs.Str.{bytes_eq}
use Rattle.std.proofs.lemmas.Bool.{false_from_ne_true, lt-ltb, ne_eqb, or_right}
use Rattle.std.proofs.lemmas.Bool.Decides.{nat_tests}
use Rattle.std.proofs.lemmas.Slice.Eq.{bytes_eq-Decides}
use Rattle.std.proofs.Math.Seq.{take-append_seam, drop-append_seam}
use Rattle.chip_lang.specs.declared.limits.TheConstants.{MEMORY_BYTES}
use Rattle.chip_lang.specs.declared.lexeme.Lexeme.{Lexeme}
use Rattle.chip_lang.specs.declared.lexeme.Lexeme.TheVariants.{Word, Number, Text, Sign, Bad}
use Rattle.chip_lang.specs.Grammar.{prefix_of, operator_of, Parses, a_number, a_name, a_text, in_parentheses, with_prefix, with_operator, stronger}
use Rattle.chip_lang.specs.Keyword.{directive_of, register_of, special_of}
use Rattle.chip_lang.specs.Line.{is_the, is_sign_of}
use Rattle.chip_lang.specs.Reserved.{is_reserved}
use Rattle.chip_lang.specs.Tree.{Tree}
use Rattle.chip_lang.specs.Value.{Symbols}
use Rattle.chip_lang.proofs.Complete.{every_expression}
use Rattle.chip_explore.specs.declared.property.Item.{Item}
use Rattle.chip_explore.specs.declared.property.Item.TheVariants.{Index, Place as At, Delay, Depth, High, AsksKeys}
use Rattle.chip_properties.specs.declared.limits.TheConstants.{SCREEN_WIDTH, SCREEN_HEIGHT}
use Rattle.chip_properties.specs.declared.separator.Separator.{Separator}
use Rattle.chip_properties.specs.declared.separator.Separator.TheVariants.{Place, And, Or, Times, Comma}
use Rattle.chip_properties.specs.declared.stated.Kind.{Kind}
use Rattle.chip_properties.specs.declared.stated.Kind.TheVariants.{Always, Never, Ever, Can}
use Rattle.chip_properties.specs.Words.{is_property_word, item_of_word, kind_of_word, or_register, other_item}
use Rattle.chip_properties.specs.Nesting.{level_after}
use Rattle.chip_properties.specs.computed.Separated.{separates, count_before, before_first, from_first, after_first, tail_of, enclosed}
use Rattle.chip_properties.specs.computed.Reading.{number_in, if_below, number_below_in, value_in, byte_in, pixel_in, item_in, is_item, addend_in}
use Rattle.chip_properties.specs.Language.{IsNumber, IsValue, one_token, in_parentheses as a_value_in_parentheses, IsItem, named, a_byte, a_pixel, Addend, IsAddend, a_value, an_item, a_product}
use Rattle.chip_properties.proofs.Ends.{ended_by}

-- ---- tokens that the search for a separator passes

-- the tokens contain no separator if they begin with this many open parentheses, and as many are open after them
abbrev pub Over : Separator → ℕ → List Lexeme → Type 0
Over s depth ts = (rest : List Lexeme) → count_before s depth (ts ++ rest) ≡ count_before s depth rest + length ts

pub over_more : (s : Separator) (depth : ℕ) (a b : List Lexeme) → Over s depth a → Over s depth b → Over s depth (a ++ b)
over_more s depth a b p q rest =
    ap (count_before s depth) (append_assoc a b rest) ∙ p (b ++ rest) ∙ ap (λ n. n + length a) (q rest) ∙ omega (arith, length-append a b)

pub over_token : (s : Separator) (depth : ℕ) (t : Lexeme) → (depth == 0 && separates s t) ≡ false → level_after depth t ≡ depth → Over s depth (t ∷ [])
over_token s depth t e l rest = rw (e, l) refl

-- an opening sign, tokens, and a closing sign
pub over_around : (s : Separator) (depth begin end : ℕ) (inside : List Lexeme) → (depth == 0 && separates s (Sign begin)) ≡ false
    → level_after depth (Sign begin) ≡ depth + 1 → (depth + 1 == 0 && separates s (Sign end)) ≡ false → level_after (depth + 1) (Sign end) ≡ depth
    → Over s (depth + 1) inside → Over s depth (Sign begin ∷ (inside ++ Sign end ∷ []))
over_around s depth begin end inside e l f m h rest =
    let last : count_before s (depth + 1) (Sign end ∷ rest) ≡ count_before s depth rest + 1 = rw (f, m) refl in
    let all = ap (count_before s (depth + 1)) (append_assoc inside (Sign end ∷ []) rest) ∙ h (Sign end ∷ rest) in
    rw (e, l) (ap (λ n. n + 1) all ∙ omega (arith, last, length-append inside (Sign end ∷ [])))

-- ---- expressions

-- only a comma can be a separator at this depth
abbrev pub Blind : Separator → ℕ → Type 0
Blind s depth = (t : Lexeme) → is_sign_of 44 t ≡ false → (depth == 0 && separates s t) ≡ false

deep_no : (depth : ℕ) (b : Bool) → (depth + 1 == 0 && b) ≡ false
deep_no depth b = grind (arith, nat_tests)

pub blind_inside : (s : Separator) (depth : ℕ) → Blind s (depth + 1)
blind_inside s depth t h = deep_no depth (separates s t)

pub blind_comma : Blind Comma 0
blind_comma t h = h

closes : (depth : ℕ) (c : ℕ) → c ≡ 41 ⊎ c ≡ 93 → level_after (depth + 1) (Sign c) ≡ depth
closes depth c (inl e) = rw e (omega arith)
closes depth c (inr e) = rw e (omega arith)

-- a sign before an operand, or an operator
apart : {A : Type 0} (f : ℕ → Option A) (c k : ℕ) (x : A) → f c ≡ Some x → f k ≡ None → (k == c) ≡ false
apart f c k x h n = ne_eqb k c (λ same. cc)

level_kept : (depth c : ℕ) → (40 == c) ≡ false → (91 == c) ≡ false → (41 == c) ≡ false → (93 == c) ≡ false → level_after depth (Sign c) ≡ depth
level_kept depth c e f g h = rw (e, f, g, h) refl

over_sign : (s : Separator) (depth c : ℕ) → Blind s depth → (44 == c) ≡ false → (40 == c) ≡ false → (91 == c) ≡ false → (41 == c) ≡ false → (93 == c) ≡ false
    → Over s depth (Sign c ∷ [])
over_sign s depth c blind comma e f g h = over_token s depth (Sign c) (blind (Sign c) comma) (level_kept depth c e f g h)

pub over_expression : {l : ℕ} {ts : List Lexeme} {e : Tree} → Parses l ts e → (s : Separator) (depth : ℕ) → Blind s depth → Over s depth ts
over_expression (a_number {z = z}) s depth blind = over_token s depth (Number z) (blind (Number z) refl) refl
over_expression (a_name {w = w} h) s depth blind = over_token s depth (Word w) (blind (Word w) refl) refl
over_expression (a_text {b = b}) s depth blind = over_token s depth (Text (b ∷ [])) (blind (Text (b ∷ [])) refl) refl
over_expression (in_parentheses {inside = inside} {all = all} h is) s depth blind =
    rw is (over_around s depth 40 41 inside (blind (Sign 40) refl) refl (deep_no depth (separates s (Sign 41))) (closes depth 41 (inl refl))
    (over_expression h s (depth + 1) (blind_inside s depth)))
over_expression (with_prefix c {sign = sign} {ts = ts} is h) s depth blind =
    let other = λ (k : ℕ) (n : prefix_of k ≡ None). apart prefix_of c k sign is n in
    over_more s depth (Sign c ∷ []) ts (over_sign s depth c blind (other 44 refl) (other 40 refl) (other 91 refl) (other 41 refl) (other 93 refl))
    (over_expression h s depth blind)
over_expression (with_operator c {sign = sign} {left = left} {right = right} is level a b all) s depth blind =
    let other = λ (k : ℕ) (n : operator_of k ≡ None). apart operator_of c k sign is n in
    rw all (over_more s depth left (Sign c ∷ right) (over_expression a s depth blind)
    (over_more s depth (Sign c ∷ []) right (over_sign s depth c blind (other 44 refl) (other 40 refl) (other 91 refl) (other 41 refl) (other 93 refl))
    (over_expression b s depth blind)))
over_expression (stronger h) s depth blind = over_expression h s depth blind

pub over_number : {symbols : Symbols} {ts : List Lexeme} {n : ℕ} → IsNumber symbols ts n → (s : Separator) (depth : ℕ) → Blind s depth → Over s depth ts
over_number h s depth blind = over_expression h.expression s depth blind

-- ---- one token

nonempty : {l : ℕ} {ts : List Lexeme} {e : Tree} → Parses l ts e → 0 < length ts
nonempty a_number = omega arith
nonempty (a_name h) = omega arith
nonempty a_text = omega arith
nonempty (in_parentheses h e) = rw e (omega arith)
nonempty (with_prefix c p h) = omega arith
nonempty (with_operator c {left = left} {right = right} p q a b e) = rw e (omega (arith, length-append left (Sign c ∷ right)))
nonempty (stronger h) = nonempty h

-- a token that is an expression is a number, a name or a text
abbrev pub IsAlone : Lexeme → Type 0
IsAlone (Word w) = is_reserved w ≡ false
IsAlone (Number z) = Unit
IsAlone (Text bytes) = Unit
IsAlone (Sign c) = ⊥
IsAlone (Bad f) = ⊥

first_of : (t u : Lexeme) → t ∷ [] ≡ u ∷ [] → t ≡ u
first_of t u h = cc

alone : {l : ℕ} {ts : List Lexeme} {e : Tree} → Parses l ts e → (t : Lexeme) → ts ≡ t ∷ [] → IsAlone t
alone (a_number {z = z}) t is = subst IsAlone (first_of (Number z) t is) tt
alone (a_name {w = w} h) t is = subst IsAlone (first_of (Word w) t is) h
alone (a_text {b = b}) t is = subst IsAlone (first_of (Text (b ∷ [])) t is) tt
alone (in_parentheses {inside = inside} h e) t is =
    let long = ap length (sym e ∙ is) in absurd (omega (arith, long, length-append inside (Sign 41 ∷ [])))
alone (with_prefix c {ts = ts} p h) t is = let long = ap length is in let some = nonempty h in absurd (omega (arith, long, some))
alone (with_operator c {left = left} {right = right} p q a b e) t is =
    let long = ap length (sym e ∙ is) in let some = nonempty a in absurd (omega (arith, long, some, length-append left (Sign c ∷ right)))
alone (stronger h) t is = alone h t is

pub one_alone : {symbols : Symbols} {t : Lexeme} {n : ℕ} → IsNumber symbols (t ∷ []) n → IsAlone t
one_alone {t = t} h = alone h.expression t refl

-- ---- words

-- a word that differs from another in a test is another word
unlike : (test : List ℕ → Bool) (v w : List ℕ) → test v ≡ true → test w ≡ false → bytes_eq v w ≡ false
unlike test v w pass fail = false_from_ne_true (bytes_eq v w) (λ e. let same = (bytes_eq-Decides v w).0 e in cc)

-- the result of a table for a word, if the other words of the table pass the test
listed : {A : Type 0} (test : List ℕ → Bool) (w v : List ℕ) (a x : A) (others : Option A) → test v ≡ true → (others ≡ Some x → test w ≡ true)
    → (if bytes_eq w v then Some a else others) ≡ Some x → test w ≡ true
listed test w v a x others pass on h = by_test (bytes_eq w v) refl h
  where
    by_test : (b : Bool) → bytes_eq w v ≡ b → (if b then Some a else others) ≡ Some x → test w ≡ true
    by_test true e k = let same = (bytes_eq-Decides w v).0 e in rw same pass
    by_test false e k = on k

none_there : {A : Type 0} (x : A) {B : Type 0} → None ≡ Some x → B
none_there x h = absurd (cc)

kind_listed : (test : List ℕ → Bool) (w : List ℕ) (kind : Kind) → test (codes "ALWAYS") ≡ true → test (codes "NEVER") ≡ true → test (codes "EVER") ≡ true
    → test (codes "CAN") ≡ true → kind_of_word w ≡ Some kind → test w ≡ true
kind_listed test w kind a n e c h =
    listed test w (codes "ALWAYS") Always kind _ a (listed test w (codes "NEVER") Never kind _ n
    (listed test w (codes "EVER") Ever kind _ e (listed test w (codes "CAN") Can kind None c (none_there kind)))) h

-- a word that names an item begins no kind, and isn't one of the words between parts
abbrev pub is_no_item : List ℕ → Bool
is_no_item w = not (is_some (item_of_word w))

item_there : (w : List ℕ) (i : Item) → item_of_word w ≡ Some i → is_no_item w ≡ false
item_there w i h = rw h refl

no_kind : (o : Option Kind) → ((kind : Kind) → o ≡ Some kind → ⊥) → o ≡ None
no_kind None h = refl
no_kind (Some kind) h = absurd (h kind refl)

pub item_no_kind : (w : List ℕ) (i : Item) → item_of_word w ≡ Some i → kind_of_word w ≡ None
unfolding register_of
item_no_kind w i h =
    no_kind (kind_of_word w) (λ kind k. let other = kind_listed is_no_item w kind refl refl refl refl k in let there = item_there w i h in cc)

pub free_no_kind : (w : List ℕ) → is_property_word w ≡ false → kind_of_word w ≡ None
free_no_kind w h = no_kind (kind_of_word w) (λ kind k. let other = kind_listed is_property_word w kind refl refl refl refl k in cc)

abbrev pub is_known : List ℕ → Bool
is_known w = is_property_word w || is_reserved w

item_known : (w : List ℕ) (i : Item) → item_of_word w ≡ Some i → is_known w ≡ true
unfolding register_of special_of directive_of is_reserved
item_known w i h = by_register (register_of w) refl h
  where
    by_register : (o : Option ℕ) → register_of w ≡ o → or_register o (other_item w) ≡ Some i → is_known w ≡ true
    by_register (Some x) e k = or_right (is_property_word w) _ (or_right _ (is_some (register_of w)) (rw e refl))
    by_register None e k =
        listed is_known w (codes "I") Index i _ refl (listed is_known w (codes "PC") At i _ refl (listed is_known w (codes "DT") Delay i _ refl
        (listed is_known w (codes "DEPTH") Depth i _ refl (listed is_known w (codes "HIGH") High i _ refl (listed is_known w (codes "KEYS") AsksKeys i None refl
        (none_there i)))))) k

free_no_item : (w : List ℕ) → is_property_word w ≡ false → is_reserved w ≡ false → is_some (item_of_word w) ≡ false
free_no_item w p r = by_item (item_of_word w) refl
  where
    by_item : (o : Option Item) → item_of_word w ≡ o → is_some o ≡ false
    by_item None e = refl
    by_item (Some i) e = let known = item_known w i e in let at = rw (p, r) at known in absurd (cc)

-- the words between parts
free_between : (w : List ℕ) → is_property_word w ≡ false → is_reserved w ≡ false → (s : Separator) → separates s (Word w) ≡ false
unfolding is_reserved
free_between w p r Place = rw (unlike is_property_word (codes "HERE") w refl p, unlike is_property_word (codes "AT") w refl p) refl
free_between w p r And = unlike is_reserved (codes "AND") w refl r
free_between w p r Or = unlike is_reserved (codes "OR") w refl r
free_between w p r s = refl

item_between : (w : List ℕ) (i : Item) → item_of_word w ≡ Some i → (s : Separator) → separates s (Word w) ≡ false
unfolding register_of
item_between w i h Place =
    let apart = λ (v : List ℕ) (e : is_no_item v ≡ true). unlike is_no_item v w e (item_there w i h) in
    rw (apart (codes "HERE") refl, apart (codes "AT") refl) refl
item_between w i h And = unlike is_no_item (codes "AND") w refl (item_there w i h)
item_between w i h Or = unlike is_no_item (codes "OR") w refl (item_there w i h)
item_between w i h s = refl

sign_between : (s : Separator) (c : ℕ) → c ≡ 40 ⊎ c ≡ 91 → separates s (Sign c) ≡ false
sign_between Place c h = refl
sign_between And c h = refl
sign_between Or c h = refl
sign_between s c (inl e) = rw e refl
sign_between s c (inr e) = rw e refl

-- ---- tokens without a separator

pub over_value : {symbols : Symbols} {ts : List Lexeme} {n : ℕ} → IsValue symbols ts n → (s : Separator) → Over s 0 ts
over_value (one_token {t = Word w} free h) s = over_token s 0 (Word w) (free_between w free (one_alone h) s) refl
over_value (one_token {t = Number z} free h) s = over_token s 0 (Number z) (other s) refl
  where
    other : (s : Separator) → separates s (Number z) ≡ false
    other Place = refl
    other s = refl
over_value (one_token {t = Text bytes} free h) s = over_token s 0 (Text bytes) (other s) refl
  where
    other : (s : Separator) → separates s (Text bytes) ≡ false
    other Place = refl
    other s = refl
over_value (one_token {t = Sign c} free h) s = absurd (one_alone h)
over_value (one_token {t = Bad f} free h) s = absurd (one_alone h)
over_value (a_value_in_parentheses {inside = inside} is h) s =
    rw is (over_around s 0 40 41 inside (sign_between s 40 (inl refl)) refl refl refl (over_number h s 1 (blind_inside s 0)))

pub over_item : {symbols : Symbols} {ts : List Lexeme} {i : Item} → IsItem symbols ts i → (s : Separator) → Over s 0 ts
over_item (named {w = w} {i = i} h) s = over_token s 0 (Word w) (item_between w i h s) refl
over_item (a_byte {inside = inside} is h low) s =
    rw is (over_around s 0 91 93 inside (sign_between s 91 (inr refl)) refl refl refl (over_number h s 1 (blind_inside s 0)))
over_item (a_pixel {column = column} {row = row} is p wide q high) s =
    let comma = over_token s 1 (Sign 44) refl refl in
    let inside = over_more s 1 column (Sign 44 ∷ row) (over_number p s 1 (blind_inside s 0)) (over_more s 1 (Sign 44 ∷ []) row comma (over_number q s 1 (blind_inside s 0))) in
    rw is (over_more s 0 (Word (codes "PIXEL") ∷ []) (Sign 40 ∷ ((column ++ Sign 44 ∷ row) ++ Sign 41 ∷ [])) (over_token s 0 (Word (codes "PIXEL")) (pixel s) refl)
    (over_around s 0 40 41 (column ++ Sign 44 ∷ row) (sign_between s 40 (inl refl)) refl refl refl inside))
  where
    pixel : (s : Separator) → separates s (Word (codes "PIXEL")) ≡ false
    pixel Place = refl
    pixel s = refl

-- ---- around the first separator

pub ends_there : (s : Separator) (front rest : List Lexeme) → Over s 0 front → count_before s 0 rest ≡ 0 → count_before s 0 (front ++ rest) ≡ length front
ends_there s front rest h e = h rest ∙ omega (arith, e)

pub before_is : (s : Separator) (front rest : List Lexeme) → Over s 0 front → count_before s 0 rest ≡ 0 → before_first s (front ++ rest) ≡ front
before_is s front rest h e = ap (λ n. take n (front ++ rest)) (ends_there s front rest h e) ∙ take-append_seam front rest

pub from_is : (s : Separator) (front rest : List Lexeme) → Over s 0 front → count_before s 0 rest ≡ 0 → from_first s (front ++ rest) ≡ rest
from_is s front rest h e = ap (λ n. drop n (front ++ rest)) (ends_there s front rest h e) ∙ drop-append_seam front rest

pub at_sign : (s : Separator) (t : Lexeme) (ts : List Lexeme) → separates s t ≡ true → count_before s 0 (t ∷ ts) ≡ 0
at_sign s t ts h = rw h refl

pub after_is : (s : Separator) (front : List Lexeme) (t : Lexeme) (back : List Lexeme) → Over s 0 front → separates s t ≡ true
    → after_first s (front ++ t ∷ back) ≡ Some back
after_is s front t back h e = ap tail_of (from_is s front (t ∷ back) h (at_sign s t back e))

pub before_all : (s : Separator) (ts : List Lexeme) → Over s 0 ts → before_first s ts ≡ ts
before_all s ts h = subst (λ whole. before_first s whole ≡ ts) (append-nil ts) (before_is s ts [] h refl)

pub after_none : (s : Separator) (ts : List Lexeme) → Over s 0 ts → after_first s ts ≡ None
after_none s ts h = subst (λ whole. after_first s whole ≡ None) (append-nil ts) (ap tail_of (from_is s ts [] h refl))

-- ---- numbers and values

pub number_found : {symbols : Symbols} {ts : List Lexeme} {n : ℕ} → IsNumber symbols ts n → number_in symbols ts ≡ Some n
number_found {symbols = symbols} {ts = ts} h = rw (every_expression ts h.tree h.expression, h.valued) refl

pub below_found : (limit n : ℕ) → n < limit → if_below limit n ≡ Some n
below_found limit n h = rw (lt-ltb n limit h) refl

pub number_below_found : {symbols : Symbols} {ts : List Lexeme} {n : ℕ} (limit : ℕ) → IsNumber symbols ts n → n < limit
    → number_below_in limit symbols ts ≡ Some n
number_below_found {n = n} limit h low = rw (number_found h) (below_found limit n low)

pub enclosed_found : (begin end : ℕ) (inside : List Lexeme) → (begin == begin) ≡ true → (end == end) ≡ true
    → enclosed begin end (Sign begin ∷ (inside ++ Sign end ∷ [])) ≡ Some inside
enclosed_found begin end inside b e = rw (b, ended_by end inside (Sign end), e) refl

two_value : (symbols : Symbols) (t : Lexeme) (front : List Lexeme) (last : Lexeme)
    → value_in symbols (t ∷ (front ++ last ∷ [])) ≡ option_and_then (number_in symbols) (enclosed 40 41 (t ∷ (front ++ last ∷ [])))
two_value symbols (Word w) [] last = refl
two_value symbols t [] last = refl
two_value symbols (Word w) (u ∷ us) last = refl
two_value symbols (Number z) (u ∷ us) last = refl
two_value symbols (Text bytes) (u ∷ us) last = refl
two_value symbols (Sign c) (u ∷ us) last = refl
two_value symbols (Bad f) (u ∷ us) last = refl

pub value_found : {symbols : Symbols} {ts : List Lexeme} {n : ℕ} → IsValue symbols ts n → value_in symbols ts ≡ Some n
value_found (one_token {t = Word w} free h) = rw free (number_found h)
value_found (one_token free h) = number_found h
value_found {symbols = symbols} (a_value_in_parentheses {inside = inside} is h) =
    rw (is, two_value symbols (Sign 40) inside (Sign 41), enclosed_found 40 41 inside refl refl) (number_found h)

-- ---- items

two_item : (symbols : Symbols) (t : Lexeme) (front : List Lexeme) (last : Lexeme)
    → item_in symbols (t ∷ (front ++ last ∷ []))
    ≡ (if is_the (codes "PIXEL") t then pixel_in symbols (front ++ last ∷ []) else byte_in symbols (t ∷ (front ++ last ∷ [])))
two_item symbols (Word w) [] last = refl
two_item symbols t [] last = refl
two_item symbols t (u ∷ us) last = refl

pub item_found : {symbols : Symbols} {ts : List Lexeme} {i : Item} → IsItem symbols ts i → item_in symbols ts ≡ Some i
item_found (named h) = h
item_found {symbols = symbols} (a_byte {inside = inside} {n = n} is h low) =
    rw (is, two_item symbols (Sign 91) inside (Sign 93), enclosed_found 91 93 inside refl refl, number_below_found MEMORY_BYTES h low) refl
item_found {symbols = symbols} (a_pixel {column = column} {row = row} is p wide q high) =
    let inside = column ++ Sign 44 ∷ row in
    let comma = over_number p Comma 0 blind_comma in
    rw (
      is,
      two_item symbols (Word (codes "PIXEL")) (Sign 40 ∷ inside) (Sign 41),
      enclosed_found 40 41 inside refl refl,
      before_is Comma column (Sign 44 ∷ row) comma refl,
      after_is Comma column (Sign 44) row comma refl,
      number_below_found SCREEN_WIDTH p wide,
      number_below_found SCREEN_HEIGHT q high,
    ) refl

-- ---- addends

bracketed : (t : Lexeme) (front : List Lexeme) (last : Lexeme) → is_item (t ∷ (front ++ last ∷ [])) ≡ (is_the (codes "PIXEL") t || is_sign_of 91 t)
bracketed (Word w) [] last = refl
bracketed t [] last = refl
bracketed t (u ∷ us) last = refl

value_no_item : {symbols : Symbols} {ts : List Lexeme} {n : ℕ} → IsValue symbols ts n → is_item ts ≡ false
value_no_item (one_token {t = Word w} free h) = free_no_item w free (one_alone h)
value_no_item (one_token free h) = refl
value_no_item (a_value_in_parentheses {inside = inside} is h) = rw (is, bracketed (Sign 40) inside (Sign 41)) refl

item_is_item : {symbols : Symbols} {ts : List Lexeme} {i : Item} → IsItem symbols ts i → is_item ts ≡ true
item_is_item (named h) = rw h refl
item_is_item (a_byte {inside = inside} is h low) = rw (is, bracketed (Sign 91) inside (Sign 93)) refl
item_is_item (a_pixel {column = column} {row = row} is p wide q high) =
    rw (is, bracketed (Word (codes "PIXEL")) (Sign 40 ∷ (column ++ Sign 44 ∷ row)) (Sign 41)) refl

pub addend_found : {symbols : Symbols} {ts : List Lexeme} {a : Addend} → IsAddend symbols ts a → addend_in symbols ts ≡ Some a
addend_found {ts = ts} (a_value h) =
    rw (before_all Times ts (over_value h Times), after_none Times ts (over_value h Times), value_no_item h, value_found h) refl
addend_found {ts = ts} (an_item h) =
    rw (before_all Times ts (over_item h Times), after_none Times ts (over_item h Times), item_is_item h, item_found h) refl
addend_found (a_product {front = front} {back = back} is h i) =
    let star = over_value h Times in
    rw (is, before_is Times front (Sign 42 ∷ back) star refl, after_is Times front (Sign 42) back star refl, value_found h, item_found i) refl

pub over_addend : {symbols : Symbols} {ts : List Lexeme} {a : Addend} → IsAddend symbols ts a → (s : Separator) → separates s (Sign 42) ≡ false → Over s 0 ts
over_addend (a_value h) s e = over_value h s
over_addend (an_item h) s e = over_item h s
over_addend (a_product {front = front} {back = back} is h i) s e =
    rw is (over_more s 0 front (Sign 42 ∷ back) (over_value h s) (over_more s 0 (Sign 42 ∷ []) back (over_token s 0 (Sign 42) e refl) (over_item i s)))
