-- Every sum, comparison and condition that the grammar allows for tokens is found.
use Rattle.std.proofs.Common.{◌≡◌, ◌⊎◌, inl, inr, ℕ, suc, ◌+◌, ◌^◌, ◌<◌, ◌≤◌, ◌==◌, Bool, true, false, List, [], ◌∷◌, ◌++◌, length, Option, Some, refl, sym, subst, ◌∙◌, ap, append_assoc, append-nil, length-append, arith}
use Rattle.std.specs.Prelude.{◌||◌, codes, fold}
use Rattle.std.proofs.lemmas.Bool.{eq-eqb, false_from_ne_true, lt-ltb, ne_eqb, or_right}
use Rattle.std.proofs.lemmas.Bool.Decides.{nat_tests}
use Rattle.chip_lang.specs.declared.lexeme.Lexeme.{Lexeme}
use Rattle.chip_lang.specs.declared.lexeme.Lexeme.TheVariants.{Word, Sign}
use Rattle.chip_lang.specs.Line.{is_sign_of}
use Rattle.chip_lang.specs.Value.{Symbols}
use Rattle.chip_explore.specs.declared.property.Relation.{Relation}
use Rattle.chip_explore.specs.declared.property.Relation.TheVariants.{Equal, Unequal, Less, LessOrEqual, Greater, GreaterOrEqual}
use Rattle.chip_properties.specs.declared.limits.TheConstants.{MOST_COMPARISONS, MOST_TERMS}
use Rattle.chip_properties.specs.declared.separator.Separator.{Separator}
use Rattle.chip_properties.specs.declared.separator.Separator.TheVariants.{Place, Or, Relation as relation, Plus}
use Rattle.chip_properties.specs.SeenProperty.{SeenSum, SeenComparison, SeenCondition}
use Rattle.chip_properties.specs.computed.Separated.{separates, count_before, pieces}
use Rattle.chip_properties.specs.computed.Reading.{with_addend, summed, no_sum, sum_in, relation_in, comparison_in, found_with, comparisons_in, condition_in, has_no_or, joint}
use Rattle.chip_properties.specs.Language.{Addend, a_number, times, IsAddend, joined, AreEach, with, IsSum, signs_of, IsComparison, word_between, IsCondition}
use Rattle.chip_properties.proofs.Pieces.{pieces_split}
use Rattle.chip_properties.proofs.Complete.{Over, over_more, over_token, ends_there, before_is, from_is, at_sign, after_is, before_all, after_none, addend_found, over_addend}

-- ---- parts

pub over_joined : {A : Type 0} (Is : List Lexeme → A → Type 0) (s : Separator) (between : Lexeme)
    → ((p : List Lexeme) (x : A) → Is p x → Over s 0 p) → Over s 0 (between ∷ [])
    → (first : List Lexeme) (more : List (List Lexeme)) (xs : List A) → AreEach Is (first ∷ more) xs → Over s 0 (joined between first more)
over_joined Is s between each at first more [] h = absurd h
over_joined Is s between each at first [] (x ∷ xs) h = each first x h.0
over_joined Is s between each at first (next ∷ more) (x ∷ xs) h =
    over_more s 0 first (between ∷ joined between next more) (each first x h.0)
    (over_more s 0 (between ∷ []) (joined between next more) at (over_joined Is s between each at next more xs h.1))

pub pieces_found : {A : Type 0} (Is : List Lexeme → A → Type 0) (s : Separator) (between : Lexeme)
    → ((p : List Lexeme) (x : A) → Is p x → Over s 0 p) → separates s between ≡ true
    → (first : List Lexeme) (more : List (List Lexeme)) (xs : List A) → AreEach Is (first ∷ more) xs → pieces s 0 (joined between first more) ≡ first ∷ more
pieces_found Is s between each at first more [] h = absurd h
pieces_found Is s between each at first [] (x ∷ xs) h =
    let over = each first x h.0 in
    rw (pieces_split s first, before_all s first over, after_none s first over) refl
pieces_found Is s between each at first (next ∷ more) (x ∷ xs) h =
    let over = each first x h.0 in
    let back = joined between next more in
    rw (pieces_split s (first ++ between ∷ back), before_is s first (between ∷ back) over (at_sign s between back at), after_is s first between back over at)
    (ap (λ ps. first ∷ ps) (pieces_found Is s between each at next more xs h.1))

-- ---- sums

grown : (s : SeenSum) (a : Addend) → s.constant ≤ (with s a).constant
grown s (a_number n) = omega arith
grown s (times n i) = omega arith

total_grown : (s : SeenSum) (addends : List Addend) → s.constant ≤ (fold with s addends).constant
total_grown s [] = omega arith
total_grown s (a ∷ addends) = omega (arith, grown s a, total_grown (with s a) addends)

with_found : (s : SeenSum) (a : Addend) → (with s a).constant < 2 ^ 32 → with_addend s a ≡ Some (with s a)
with_found s (a_number n) low = rw (lt-ltb (s.constant + n) 4294967296 low) refl
with_found s (times n i) low = refl

not_full : (count long most : ℕ) → count + suc long ≤ most → (count == most) ≡ false
not_full count long most h = grind (arith, nat_tests)

summed_found : (symbols : Symbols) (count : ℕ) (s : SeenSum) (ps : List (List Lexeme)) (addends : List Addend) → AreEach (IsAddend symbols) ps addends
    → count + length addends ≤ MOST_TERMS → (fold with s addends).constant < 2 ^ 32 → summed symbols count s ps ≡ Some (fold with s addends)
summed_found symbols count s [] [] each few fits = refl
summed_found symbols count s [] (a ∷ addends) each few fits = absurd each
summed_found symbols count s (p ∷ ps) [] each few fits = absurd each
summed_found symbols count s (p ∷ ps) (a ∷ addends) each few fits =
    let low : (with s a).constant < 2 ^ 32 = omega (arith, fits, total_grown (with s a) addends) in
    rw (not_full count (length addends) MOST_TERMS few, addend_found each.0, with_found s a low)
    (summed_found symbols (count + 1) (with s a) ps addends each.1 (omega (arith, few)) fits)

pub sum_found : {symbols : Symbols} {ts : List Lexeme} {s : SeenSum} → IsSum symbols ts s → sum_in symbols ts ≡ Some s
sum_found {symbols = symbols} {s = s} h =
    let fits = rw h.sum at h.fits in
    rw (h.tokens, h.sum, pieces_found (IsAddend symbols) Plus (Sign 43) (λ p a is. over_addend is Plus refl) refl h.first h.more h.addends h.each)
    (summed_found symbols 0 no_sum (h.first ∷ h.more) h.addends h.each (omega (arith, h.few)) fits)

pub over_sum : {symbols : Symbols} {ts : List Lexeme} {t : SeenSum} → IsSum symbols ts t → (s : Separator) → separates s (Sign 42) ≡ false
    → separates s (Sign 43) ≡ false → Over s 0 ts
over_sum {symbols = symbols} h s star plus =
    rw h.tokens (over_joined (IsAddend symbols) s (Sign 43) (λ p a is. over_addend is s star) (over_token s 0 (Sign 43) plus refl) h.first h.more h.addends h.each)

-- ---- comparisons

abbrev pub front_of : Relation → List Lexeme → Option (Relation × List Lexeme)
front_of r back = Some (r, back)

-- tokens that contain no relation don't begin with a sign of one
unsigned : (c : ℕ) (t : Lexeme) (ts : List Lexeme) → ((u : Lexeme) → is_sign_of c u ≡ true → separates relation u ≡ true) → Over relation 0 (t ∷ ts)
    → is_sign_of c t ≡ false
unsigned c t ts sign over =
    false_from_ne_true (is_sign_of c t) (λ e.
    let none = at_sign relation t (ts ++ []) (sign t e) in
    let some = over [] in
    omega (arith, none, some))

is_relation : (u : Lexeme) (c : ℕ) → c ≡ 61 ⊎ c ≡ 62 → is_sign_of c u ≡ true → separates relation u ≡ true
is_relation u c (inl e) h = let at = rw e at h in rw at refl
is_relation u c (inr e) h = let at = rw e at h in or_right (is_sign_of 61 u || is_sign_of 60 u) (is_sign_of 62 u) at

less_found : (back : List Lexeme) → Over relation 0 back → relation_in (Sign 60 ∷ back) ≡ front_of Less back
less_found [] over = refl
less_found (t ∷ ts) over =
    rw (unsigned 62 t ts (λ u h. is_relation u 62 (inr refl) h) over, unsigned 61 t ts (λ u h. is_relation u 61 (inl refl) h) over) refl

greater_found : (back : List Lexeme) → Over relation 0 back → relation_in (Sign 62 ∷ back) ≡ front_of Greater back
greater_found [] over = refl
greater_found (t ∷ ts) over = rw (unsigned 61 t ts (λ u h. is_relation u 61 (inl refl) h) over) refl

relation_found : (r : Relation) (back : List Lexeme) → Over relation 0 back → relation_in (signs_of r ++ back) ≡ front_of r back
relation_found Less back over = less_found back over
relation_found Greater back over = greater_found back over
relation_found r back over = refl

relation_there : (r : Relation) (back : List Lexeme) → count_before relation 0 (signs_of r ++ back) ≡ 0
relation_there Equal back = refl
relation_there r back = refl

pub comparison_found : {symbols : Symbols} {ts : List Lexeme} {c : SeenComparison} → IsComparison symbols ts c → comparison_in symbols ts ≡ Some c
comparison_found {c = c} h =
    let rest = signs_of c.relation ++ h.back in
    let over = over_sum h.left relation refl refl in
    rw (
      h.tokens,
      before_is relation h.front rest over (relation_there c.relation h.back),
      from_is relation h.front rest over (relation_there c.relation h.back),
      relation_found c.relation h.back (over_sum h.right relation refl refl),
      sum_found h.left,
      sum_found h.right,
    ) refl

-- a comparison contains no `and`, no `or` and no place
abbrev pub IsWide : Separator → Type 0
IsWide s = (c : ℕ) → separates s (Sign c) ≡ false

over_signs : (s : Separator) → IsWide s → (r : Relation) → Over s 0 (signs_of r)
over_signs s wide Equal = over_token s 0 (Sign 61) (wide 61) refl
over_signs s wide Unequal = over_more s 0 (Sign 60 ∷ []) (Sign 62 ∷ []) (over_token s 0 (Sign 60) (wide 60) refl) (over_token s 0 (Sign 62) (wide 62) refl)
over_signs s wide Less = over_token s 0 (Sign 60) (wide 60) refl
over_signs s wide LessOrEqual = over_more s 0 (Sign 60 ∷ []) (Sign 61 ∷ []) (over_token s 0 (Sign 60) (wide 60) refl) (over_token s 0 (Sign 61) (wide 61) refl)
over_signs s wide Greater = over_token s 0 (Sign 62) (wide 62) refl
over_signs s wide GreaterOrEqual = over_more s 0 (Sign 62 ∷ []) (Sign 61 ∷ []) (over_token s 0 (Sign 62) (wide 62) refl) (over_token s 0 (Sign 61) (wide 61) refl)

pub over_comparison : {symbols : Symbols} {ts : List Lexeme} {c : SeenComparison} → IsComparison symbols ts c → (s : Separator) → IsWide s → Over s 0 ts
over_comparison {c = c} h s wide =
    rw h.tokens (over_more s 0 h.front (signs_of c.relation ++ h.back) (over_sum h.left s (wide 42) (wide 43))
    (over_more s 0 (signs_of c.relation) h.back (over_signs s wide c.relation) (over_sum h.right s (wide 42) (wide 43))))

-- ---- conditions

compared_found : (symbols : Symbols) (found : List SeenComparison) (ps : List (List Lexeme)) (cs : List SeenComparison) → AreEach (IsComparison symbols) ps cs
    → length found + length cs ≤ MOST_COMPARISONS → found_with symbols found ps ≡ Some (found ++ cs)
compared_found symbols found [] [] each few = ap Some (sym (append-nil found))
compared_found symbols found [] (c ∷ cs) each few = absurd each
compared_found symbols found (p ∷ ps) [] each few = absurd each
compared_found symbols found (p ∷ ps) (c ∷ cs) each few =
    rw (not_full (length found) (length cs) MOST_COMPARISONS few, comparison_found each.0)
    (compared_found symbols (found ++ c ∷ []) ps cs each.1 (omega (arith, few, length-append found (c ∷ []))) ∙ ap Some (append_assoc found (c ∷ []) cs))

wide_joint : (is_all : Bool) → IsWide (joint is_all)
wide_joint true c = refl
wide_joint false c = refl

joint_between : (is_all : Bool) → separates (joint is_all) (word_between is_all) ≡ true
joint_between true = refl
joint_between false = refl

wide_or : IsWide Or
wide_or c = refl

-- the tokens contain `or` if not all comparisons have to hold
or_found : {symbols : Symbols} (ts : List Lexeme) (is_all : Bool) (cs : List SeenComparison) → IsCondition symbols ts (record { is_all = is_all; comparisons = cs })
    → has_no_or ts ≡ is_all
or_found {symbols = symbols} ts true cs h =
    let over : Over Or 0 ts =
    rw h.tokens (over_joined (IsComparison symbols) Or (Word (codes "AND")) (λ p c is. over_comparison is Or wide_or)
    (over_token Or 0 (Word (codes "AND")) refl refl) h.first h.more cs h.each) in
    eq-eqb (count_before Or 0 ts) (length ts) (subst (λ whole. count_before Or 0 whole ≡ length ts) (append-nil ts) (over [] ∙ omega arith))
or_found {symbols = symbols} ts false cs h = by_more h.more h.tokens h.each h.alone
  where
    by_more : (more : List (List Lexeme)) → ts ≡ joined (Word (codes "OR")) h.first more → AreEach (IsComparison symbols) (h.first ∷ more) cs
        → (more ≡ [] → false ≡ true) → has_no_or ts ≡ false
    by_more [] tokens each one = let no = one refl in absurd (cc)
    by_more (next ∷ more) tokens each one = by_each cs each
      where
        by_each : (cs : List SeenComparison) → AreEach (IsComparison symbols) (h.first ∷ next ∷ more) cs → has_no_or ts ≡ false
        by_each [] each = absurd each
        by_each (c ∷ cs) each =
            let back = joined (Word (codes "OR")) next more in
            let there = ends_there Or h.first (Word (codes "OR") ∷ back) (over_comparison each.0 Or wide_or) refl in
            rw tokens (ne_eqb (count_before Or 0 (h.first ++ Word (codes "OR") ∷ back)) (length (h.first ++ Word (codes "OR") ∷ back))
            (λ same. omega (arith, same, there, length-append h.first (Word (codes "OR") ∷ back))))

comparisons_found : {symbols : Symbols} (ts : List Lexeme) (is_all : Bool) (cs : List SeenComparison)
    → IsCondition symbols ts (record { is_all = is_all; comparisons = cs }) → comparisons_in symbols (joint is_all) ts ≡ Some cs
comparisons_found {symbols = symbols} ts is_all cs h =
    rw (
      h.tokens,
      pieces_found (IsComparison symbols) (joint is_all) (word_between is_all) (λ p c is. over_comparison is (joint is_all) (wide_joint is_all))
          (joint_between is_all) h.first h.more cs h.each,
    )
    (compared_found symbols [] (h.first ∷ h.more) cs h.each (omega (arith, h.few)))

pub condition_found : {symbols : Symbols} (ts : List Lexeme) (c : SeenCondition) → IsCondition symbols ts c → condition_in symbols ts ≡ Some c
condition_found ts c h = rw (or_found ts c.is_all c.comparisons h, comparisons_found ts c.is_all c.comparisons h) refl

pub over_condition : {symbols : Symbols} {ts : List Lexeme} {c : SeenCondition} → IsCondition symbols ts c → Over Place 0 ts
over_condition {symbols = symbols} {c = c} h =
    rw h.tokens (over_joined (IsComparison symbols) Place (word_between c.is_all) (λ p d is. over_comparison is Place (λ k. refl)) (between c.is_all)
    h.first h.more c.comparisons h.each)
  where
    between : (is_all : Bool) → Over Place 0 (word_between is_all ∷ [])
    between true = over_token Place 0 (Word (codes "AND")) refl refl
    between false = over_token Place 0 (Word (codes "OR")) refl refl
