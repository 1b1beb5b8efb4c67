-- Sums, comparisons and conditions that are found are the ones of the grammar.
use Rattle.std.proofs.Common.{◌≡◌, ℕ, suc, ◌+◌, ◌^◌, ◌<◌, ◌≤◌, ◌==◌, Bool, true, false, if◌then◌else◌, List, [], ◌∷◌, ◌++◌, length, drop, Option, Some, None, refl, sym, subst, ◌∙◌, ap, append_assoc, add-one, arith}
use Rattle.std.proofs.lemmas.Option.{none-some, same_Some}
use Rattle.std.specs.Prelude.{◌&&◌, codes, fold, nat_lt, option_map}
use Rattle.std.proofs.lemmas.Bool.{and_parts, eq-eqb, eqb-false, ltb-true}
use Rattle.std.proofs.lemmas.List.{append-nil, length-append, take-append-drop}
use Rattle.chip_lang.specs.declared.lexeme.Lexeme.{Lexeme}
use Rattle.chip_lang.specs.declared.lexeme.Lexeme.TheVariants.{Sign}
use Rattle.chip_lang.specs.Line.{is_sign_of}
use Rattle.chip_lang.specs.Value.{Symbols}
use Rattle.chip_explore.specs.declared.property.Relation.{Relation}
use Rattle.chip_explore.specs.declared.property.Relation.TheVariants.{Equal, Unequal, Less, LessOrEqual, Greater, GreaterOrEqual}
use Rattle.chip_properties.specs.declared.limits.TheConstants.{MOST_COMPARISONS, MOST_TERMS}
use Rattle.chip_properties.specs.declared.separator.Separator.{Separator}
use Rattle.chip_properties.specs.declared.separator.Separator.TheVariants.{Or, Relation as relation, Plus, Times}
use Rattle.chip_properties.specs.SeenProperty.{SeenSum, SeenComparison, SeenCondition}
use Rattle.chip_properties.specs.Nesting.{level_after}
use Rattle.chip_properties.specs.computed.Separated.{separates, count_before, before_first, from_first, after_first, tail_of, with_front, pieces, pieces_in}
use Rattle.chip_properties.specs.computed.Reading.{is_item, item_in, value_in, times_in, addend_in, with_addend, added_in, summed, no_sum, sum_in, less_in, greater_in, relation_in, compared, comparison_in, found_with, comparisons_in, condition_in, has_no_or, joint}
use Rattle.chip_properties.specs.Language.{Addend, a_number, times, IsAddend, a_value, an_item, a_product, joined, AreEach, with, IsSum, signs_of, IsComparison, word_between, IsCondition}
use Rattle.chip_properties.proofs.Pieces.{pieces_split}
use Rattle.chip_properties.proofs.Sound.{then_some, mapped_some, if_some, unless_some, sign_is, word_is, value_sound, item_sound, alone_is, around}

-- ---- addends

alone_sound : (symbols : Symbols) (ts : List Lexeme) (a : Addend) (b : Bool) → is_item ts ≡ b
    → (if b then option_map (times 1) (item_in symbols ts) else option_map a_number (value_in symbols ts)) ≡ Some a → IsAddend symbols ts a
alone_sound symbols ts a true e h =
    let so = mapped_some (item_in symbols ts) (times 1) a h in
    rw (← so.gives) (an_item (item_sound symbols ts so.found so.is))
alone_sound symbols ts a false e h =
    let so = mapped_some (value_in symbols ts) a_number a h in
    rw (← so.gives) (a_value (value_sound symbols ts so.found so.is))

times_sound : (symbols : Symbols) (ts : List Lexeme) (a : Addend) (o : Option (List Lexeme)) → after_first Times ts ≡ o
    → times_in symbols (before_first Times ts) o ≡ Some a → IsAddend symbols ts a
times_sound symbols ts a None e h =
    let whole = alone_is _ ts e in
    let at = rw whole at h in
    alone_sound symbols ts a (is_item ts) refl at
times_sound symbols ts a (Some back) e h =
    let front = before_first Times ts in
    let so = then_some (value_in symbols front) (λ n. option_map (times n) (item_in symbols back)) a h in
    let at = mapped_some (item_in symbols back) (times so.found) a so.gives in
    let star = around Times 0 ts back e in
    let whole = star.whole ∙ ap (λ t. front ++ t ∷ back) (sign_is 42 star.token star.is) in
    rw (← at.gives) (a_product whole (value_sound symbols front so.found so.is) (item_sound symbols back at.found at.is))

pub addend_sound : (symbols : Symbols) (ts : List Lexeme) (a : Addend) → addend_in symbols ts ≡ Some a → IsAddend symbols ts a
addend_sound symbols ts a h = times_sound symbols ts a (after_first Times ts) refl h

-- ---- parts

pub record Parts (s : Separator) (between : Lexeme) (depth : ℕ) (ts : List Lexeme) : Type 0 where
  pub first : List Lexeme
  pub more : List (List Lexeme)
  pub are : pieces s depth ts ≡ first ∷ more
  pub tokens : ts ≡ joined between first more

part_put : (between : Lexeme) (t : Lexeme) (first : List Lexeme) (more : List (List Lexeme)) → t ∷ joined between first more ≡ joined between (t ∷ first) more
part_put between t first [] = refl
part_put between t first (next ∷ more) = refl

parts_step : (s : Separator) (between : Lexeme) (depth : ℕ) (t : Lexeme) (ts : List Lexeme) (b : Bool) → (depth == 0 && separates s t) ≡ b
    → ((t : Lexeme) → separates s t ≡ true → t ≡ between) → Parts s between 0 ts → Parts s between (level_after depth t) ts → Parts s between depth (t ∷ ts)
parts_step s between depth t ts true e only anew on =
    record {
      first = [];
      more = anew.first ∷ anew.more;
      are = rw (e, anew.are) refl;
      tokens = rw (only t (and_parts (depth == 0) (separates s t) e).1) (ap (λ more. between ∷ more) anew.tokens);
    }
parts_step s between depth t ts false e only anew on =
    record {
      first = t ∷ on.first;
      more = on.more;
      are = rw e (ap (with_front t) on.are);
      tokens = ap (λ more. t ∷ more) on.tokens ∙ part_put between t on.first on.more;
    }

pub parts : (s : Separator) (between : Lexeme) → ((t : Lexeme) → separates s t ≡ true → t ≡ between) → (ts : List Lexeme) (depth : ℕ) → Parts s between depth ts
parts s between only [] depth = record { first = []; more = []; are = refl; tokens = refl }
parts s between only (t ∷ ts) depth =
    parts_step s between depth t ts (depth == 0 && separates s t) refl only (parts s between only ts 0) (parts s between only ts (level_after depth t))

-- ---- sums

pub record Summed (symbols : Symbols) (count : ℕ) (s : SeenSum) (ps : List (List Lexeme)) (t : SeenSum) : Type 0 where
  pub addends : List Addend
  pub each : AreEach (IsAddend symbols) ps addends
  pub sum : t ≡ fold with s addends
  pub few : count ≤ MOST_TERMS → count + length addends ≤ MOST_TERMS
  pub fits : s.constant < 2 ^ 32 → t.constant < 2 ^ 32

with_is : (s t : SeenSum) (a : Addend) → with_addend s a ≡ Some t → t ≡ with s a
with_is s t (a_number n) h = let so = if_some (nat_lt (s.constant + n) 4294967296) _ t h in cc
with_is s t (times n i) h = cc

with_fits : (s t : SeenSum) (a : Addend) → with_addend s a ≡ Some t → s.constant < 2 ^ 32 → t.constant < 2 ^ 32
with_fits s t (a_number n) h f =
    let so = if_some (nat_lt (s.constant + n) 4294967296) _ t h in
    let low = ltb-true (s.constant + n) 4294967296 so.0 in
    let is = ap (λ (x : SeenSum). x.constant) (with_is s t (a_number n) h) in
    omega arith
with_fits s t (times n i) h f =
    let is = ap (λ (x : SeenSum). x.constant) (with_is s t (times n i) h) in
    omega arith

-- one more item, within the limit
few_more : (count long most : ℕ) → (count == most) ≡ false → count ≤ most → (count + 1 ≤ most → count + 1 + long ≤ most) → count + suc long ≤ most
few_more count long most e low on =
    let apart = eqb-false count most e in
    let more : count + 1 ≤ most = omega arith in
    omega (arith, on more)

summed_is : (symbols : Symbols) (count : ℕ) (s t : SeenSum) (ps : List (List Lexeme)) → summed symbols count s ps ≡ Some t → Summed symbols count s ps t
summed_is symbols count s t [] h =
    record { addends = []; each = tt; sum = sym (same_Some s t h); few = λ low. omega arith; fits = λ low. rw (← same_Some s t h) low }
summed_is symbols count s t (p ∷ ps) h =
    let room = unless_some (count == MOST_TERMS) _ t h in
    let so = then_some (added_in symbols s p) (λ more. summed symbols (count + 1) more ps) t room.1 in
    let at = then_some (addend_in symbols p) (with_addend s) so.found so.is in
    let on = summed_is symbols (count + 1) so.found t ps so.gives in
    let put = with_is s so.found at.found at.gives in
    record {
      addends = at.found ∷ on.addends;
      each = (addend_sound symbols p at.found at.is, on.each);
      sum = on.sum ∙ ap (λ x. fold with x on.addends) put;
      few = λ low. few_more count (length on.addends) MOST_TERMS room.0 low on.few;
      fits = λ low. on.fits (with_fits s so.found at.found at.gives low);
    }

pub sum_sound : (symbols : Symbols) (ts : List Lexeme) (s : SeenSum) → sum_in symbols ts ≡ Some s → IsSum symbols ts s
sum_sound symbols ts s h =
    let cut = parts Plus (Sign 43) (sign_is 43) ts 0 in
    let so = summed_is symbols 0 no_sum s (cut.first ∷ cut.more) (rw cut.are at h) in
    record { first = cut.first; more = cut.more; addends = so.addends; tokens = cut.tokens; each = so.each; few = omega (arith, so.few (omega arith)); sum = so.sum; fits = so.fits (omega arith) }

-- ---- comparisons

-- a relation at the front, and the tokens after it
abbrev pub Front : Type 0
Front = Relation × List Lexeme

abbrev pub begins_with : Relation → List Lexeme → Front
begins_with r ts = (r, ts)

begun : (r s : Relation) (ts rest back : List Lexeme) → ts ≡ signs_of r ++ rest → Some (begins_with r rest) ≡ Some (begins_with s back) → ts ≡ signs_of s ++ back
begun r s ts rest back is h =
    is ∙ ap (λ (p : Front). signs_of p.0 ++ p.1) (same_Some (begins_with r rest) (begins_with s back) h)

less_sound : (ts : List Lexeme) (s : Relation) (back : List Lexeme) → less_in ts ≡ Some (begins_with s back) → Sign 60 ∷ ts ≡ signs_of s ++ back
less_sound [] s back h = begun Less s (Sign 60 ∷ []) [] back refl h
less_sound (t ∷ ts) s back h = first (is_sign_of 62 t) refl (is_sign_of 61 t) refl h
  where
    first : (b : Bool) → is_sign_of 62 t ≡ b → (c : Bool) → is_sign_of 61 t ≡ c
        → (if b then Some (begins_with Unequal ts) else (if c then Some (begins_with LessOrEqual ts) else Some (begins_with Less (t ∷ ts)))) ≡ Some (begins_with s back) → Sign 60 ∷ t ∷ ts ≡ signs_of s ++ back
    first true e c f h = begun Unequal s (Sign 60 ∷ t ∷ ts) ts back (ap (λ u. Sign 60 ∷ u ∷ ts) (sign_is 62 t e)) h
    first false e true f h = begun LessOrEqual s (Sign 60 ∷ t ∷ ts) ts back (ap (λ u. Sign 60 ∷ u ∷ ts) (sign_is 61 t f)) h
    first false e false f h = begun Less s (Sign 60 ∷ t ∷ ts) (t ∷ ts) back refl h

greater_sound : (ts : List Lexeme) (s : Relation) (back : List Lexeme) → greater_in ts ≡ Some (begins_with s back) → Sign 62 ∷ ts ≡ signs_of s ++ back
greater_sound [] s back h = begun Greater s (Sign 62 ∷ []) [] back refl h
greater_sound (t ∷ ts) s back h = first (is_sign_of 61 t) refl h
  where
    first : (c : Bool) → is_sign_of 61 t ≡ c
        → (if c then Some (begins_with GreaterOrEqual ts) else Some (begins_with Greater (t ∷ ts))) ≡ Some (begins_with s back) → Sign 62 ∷ t ∷ ts ≡ signs_of s ++ back
    first true f h = begun GreaterOrEqual s (Sign 62 ∷ t ∷ ts) ts back (ap (λ u. Sign 62 ∷ u ∷ ts) (sign_is 61 t f)) h
    first false f h = begun Greater s (Sign 62 ∷ t ∷ ts) (t ∷ ts) back refl h

relation_sound : (ts : List Lexeme) (s : Relation) (back : List Lexeme) → relation_in ts ≡ Some (begins_with s back) → ts ≡ signs_of s ++ back
relation_sound [] s back h = absurd (none-some (begins_with s back) h)
relation_sound (t ∷ ts) s back h = first (is_sign_of 61 t) refl (is_sign_of 60 t) refl (is_sign_of 62 t) refl h
  where
    first : (a : Bool) → is_sign_of 61 t ≡ a → (b : Bool) → is_sign_of 60 t ≡ b → (c : Bool) → is_sign_of 62 t ≡ c
        → (if a then Some (begins_with Equal ts) else (if b then less_in ts else (if c then greater_in ts else None))) ≡ Some (begins_with s back) → t ∷ ts ≡ signs_of s ++ back
    first true e b f c g h = begun Equal s (t ∷ ts) ts back (ap (λ u. u ∷ ts) (sign_is 61 t e)) h
    first false e true f c g h = ap (λ u. u ∷ ts) (sign_is 60 t f) ∙ less_sound ts s back h
    first false e false f true g h = ap (λ u. u ∷ ts) (sign_is 62 t g) ∙ greater_sound ts s back h
    first false e false f false g h = absurd (none-some (begins_with s back) h)

pub comparison_sound : (symbols : Symbols) (ts : List Lexeme) (c : SeenComparison) → comparison_in symbols ts ≡ Some c → IsComparison symbols ts c
comparison_sound symbols ts c h =
    let front = before_first relation ts in
    let so = then_some (relation_in (from_first relation ts)) (compared symbols front) c h in
    let left = then_some (sum_in symbols front) (λ a. option_map (λ b. record { left = a; relation = so.found.0; right = b }) (sum_in symbols so.found.1)) c so.gives in
    let right = mapped_some (sum_in symbols so.found.1) (λ b. record { left = left.found; relation = so.found.0; right = b }) c left.gives in
    rw (← right.gives) (record {
      front = front;
      back = so.found.1;
      tokens = sym (take-append-drop _ ts) ∙ ap (λ more. front ++ more) (relation_sound (from_first relation ts) so.found.0 so.found.1 so.is);
      left = sum_sound symbols front left.found left.is;
      right = sum_sound symbols so.found.1 right.found right.is;
    })

-- ---- conditions

pub record Compared (symbols : Symbols) (found : List SeenComparison) (ps : List (List Lexeme)) (cs : List SeenComparison) : Type 0 where
  pub more : List SeenComparison
  pub each : AreEach (IsComparison symbols) ps more
  pub all : cs ≡ found ++ more
  pub few : length found ≤ MOST_COMPARISONS → length found + length more ≤ MOST_COMPARISONS

compared_is : (symbols : Symbols) (found cs : List SeenComparison) (ps : List (List Lexeme)) → found_with symbols found ps ≡ Some cs → Compared symbols found ps cs
compared_is symbols found cs [] h = record { more = []; each = tt; all = sym (same_Some found cs h) ∙ sym (append-nil found); few = λ low. omega arith }
compared_is symbols found cs (p ∷ ps) h =
    let room = unless_some (length found == MOST_COMPARISONS) _ cs h in
    let so = then_some (comparison_in symbols p) (λ c. found_with symbols (found ++ c ∷ []) ps) cs room.1 in
    let on = compared_is symbols (found ++ so.found ∷ []) cs ps so.gives in
    let long = length-append found (so.found ∷ []) in
    record {
      more = so.found ∷ on.more;
      each = (comparison_sound symbols p so.found so.is, on.each);
      all = on.all ∙ append_assoc found (so.found ∷ []) on.more;
      few = λ low. few_more (length found) (length on.more) MOST_COMPARISONS room.0 low (rw long at on.few);
    }

between_is : (is_all : Bool) (t : Lexeme) → separates (joint is_all) t ≡ true → t ≡ word_between is_all
between_is true t h = word_is (codes "AND") t h
between_is false t h = word_is (codes "OR") t h

-- a single comparison, which counts as one where all must hold
counted_all : (s : Separator) (depth : ℕ) (ts : List Lexeme) → tail_of (drop (count_before s depth ts) ts) ≡ None → count_before s depth ts ≡ length ts
counted_all s depth [] h = refl
counted_all s depth (t ∷ ts) h = by_test (depth == 0 && separates s t) refl (counted_all s (level_after depth t) ts)
  where
    by_test : (b : Bool) → (depth == 0 && separates s t) ≡ b
        → (tail_of (drop (count_before s (level_after depth t) ts) ts) ≡ None → count_before s (level_after depth t) ts ≡ length ts)
        → count_before s depth (t ∷ ts) ≡ length (t ∷ ts)
    by_test true e again = let at = rw e at h in absurd (none-some ts (sym at))
    by_test false e again =
        let n = count_before s (level_after depth t) ts in
        let is : count_before s depth (t ∷ ts) ≡ suc n = rw e (add-one n) in
        let at = subst (λ k. tail_of (drop k (t ∷ ts)) ≡ None) is h in
        is ∙ ap suc (again at)

no_pieces : (s : Separator) (ts : List Lexeme) → pieces s 0 ts ≡ [] → ⊥
no_pieces s ts h = let some = sym (pieces_split s ts) ∙ h in cc

alone_all : (ts : List Lexeme) (is_all : Bool) → has_no_or ts ≡ is_all → (first : List Lexeme) (more : List (List Lexeme))
    → pieces (joint is_all) 0 ts ≡ first ∷ more → more ≡ [] → is_all ≡ true
alone_all ts true e first more are none = refl
alone_all ts false e first more are none = by_rest (after_first Or ts) refl
  where
    by_rest : (o : Option (List Lexeme)) → after_first Or ts ≡ o → false ≡ true
    by_rest None h = sym e ∙ eq-eqb (count_before Or 0 ts) (length ts) (counted_all Or 0 ts h)
    by_rest (Some back) h =
        let cut : before_first Or ts ∷ pieces Or 0 back ≡ first ∷ more = ap (λ o. before_first Or ts ∷ pieces_in Or o) (sym h) ∙ sym (pieces_split Or ts) ∙ are in
        absurd (no_pieces Or back (ap (drop 1) cut ∙ none))

condition_of : (symbols : Symbols) (ts : List Lexeme) (is_all : Bool) (cs : List SeenComparison) → has_no_or ts ≡ is_all
    → comparisons_in symbols (joint is_all) ts ≡ Some cs → IsCondition symbols ts (record { is_all = is_all; comparisons = cs })
condition_of symbols ts is_all cs all is =
    let cut = parts (joint is_all) (word_between is_all) (between_is is_all) ts 0 in
    let at = compared_is symbols [] cs (cut.first ∷ cut.more) (rw cut.are at is) in
    record {
      first = cut.first;
      more = cut.more;
      tokens = cut.tokens;
      each = rw at.all at.each;
      few = rw at.all (omega (arith, at.few (omega arith)));
      alone = alone_all ts is_all all cut.first cut.more cut.are;
    }

pub condition_sound : (symbols : Symbols) (ts : List Lexeme) (c : SeenCondition) → condition_in symbols ts ≡ Some c → IsCondition symbols ts c
condition_sound symbols ts c h =
    let is_all = has_no_or ts in
    let so = mapped_some (comparisons_in symbols (joint is_all) ts) (λ cs. record { is_all = is_all; comparisons = cs }) c h in
    rw (← so.gives) (condition_of symbols ts is_all so.found refl so.is)
