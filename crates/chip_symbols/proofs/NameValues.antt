-- The value of a name in the map that a table of symbols represents.
use Rattle.std.proofs.Common.{◌≡◌, ℕ, ◌<◌, ℤ, Bool, true, false, cond, List, [], ◌∷◌, map, length, get_or, position, refl, ap, sym, ◌∙◌, arith, suc, zero, Option, None, Some, option_map}
use Rattle.std.specs.Str.{bytes_eq}
use Rattle.std.specs.Option.{option_eq}
use Rattle.std.specs.Ordering.{int_eq, nat_cmp}
use Rattle.std.specs.Cmp.Lexicographic.{slice_cmp}
use Rattle.std.specs.FinMap as finite
use Rattle.std.specs.FinMap.{get-from_entries}
use Rattle.std.proofs.lemmas.Cmp.{nat_list_cmp_total}
use Rattle.std.proofs.lemmas.Map.Text.{is_eq-slice_cmp}
use Rattle.chip_lang.specs.Uses.{has_same_value}
use Rattle.chip_lang.specs.Value.{value_of_name}
use Rattle.chip_symbols.specs.declared.table.Symbol.{Symbol}
use Rattle.chip_symbols.specs.Names.{Name, lookup_name, values_of}
use Rattle.chip_symbols.specs.declared.table.Entry.{Entry}
use Rattle.chip_symbols.specs.Tables.{key_at, value_among}
use Rattle.chip_symbols.specs.inner.Entries.{AreApart, AreDefined, symbols_in, valued_in}
use Rattle.chip_symbols.proofs.SymbolSteps.{absent-key, apart-names, found-key, value-found, value-missing}
use Rattle.std.proofs.lemmas.Slice.Eq.{bytes_eq-Decides}

mapped : (b : Bool) (s : Symbol) (o : Option Symbol) (p : Option ℤ) → p ≡ option_map (λ (s : Symbol). s.value) o → cond b (Some s.value) p ≡ option_map (λ (s : Symbol). s.value) (cond b (Some s) o)
mapped true s o p e = refl
mapped false s o p e = e

find-seen : (name : Name) (names : List (Name × Symbol)) → finite.find (slice_cmp nat_cmp) name (map (λ e. (e.0, e.1.value)) names) ≡ value_among names name
find-seen name [] = refl
find-seen name (e ∷ es) = rw (is_eq-slice_cmp name e.0) (mapped (bytes_eq name e.0) e.1 (lookup_name es name) _ (find-seen name es))

pub value-of-name : (names : List (Name × Symbol)) (name : Name) → value_of_name (values_of names) name ≡ value_among names name
unfolding values_of
value-of-name names name = get-from_entries nat_list_cmp_total (map (λ e. (e.0, e.1.value)) names) name ∙ find-seen name names

-- the values by number are the values of the names

find-missing : (keys : List Name) (vs : List (Option ℤ)) (name : Name) → ((i : ℕ) → i < length keys → key_at keys i ≡ name → ⊥) → finite.find (slice_cmp nat_cmp) name (valued_in keys vs) ≡ None
find-missing [] vs name none = refl
find-missing (k ∷ ks) [] name none = refl
find-missing (k ∷ ks) (None ∷ vs) name none = find-missing ks vs name (λ i h. none (suc i) (omega (arith, h)))
find-missing (k ∷ ks) (Some v ∷ vs) name none =
    rw (is_eq-slice_cmp name k, apart-names name k (λ same. none zero (omega arith) (sym same))) (find-missing ks vs name (λ i h. none (suc i) (omega (arith, h))))

apart-rest : (key : Name) (keys : List Name) → AreApart (key ∷ keys) → AreApart keys
apart-rest key keys a = record { each = λ i j hi hj same. (let e = a.each (suc i) (suc j) (omega (arith, hi)) (omega (arith, hj)) same in omega (arith, e)) }

find-found : (keys : List Name) (vs : List (Option ℤ)) (i : ℕ) → AreApart keys → i < length keys → finite.find (slice_cmp nat_cmp) (key_at keys i) (valued_in keys vs) ≡ get_or vs i None
find-found [] vs i a h = absurd (omega (arith, h))
find-found (k ∷ ks) [] i a h = refl
find-found (k ∷ ks) (None ∷ vs) zero a h = find-missing ks vs k (λ j low same. (let no = a.each zero (suc j) h (omega (arith, low)) (sym same) in omega (arith, no)))
find-found (k ∷ ks) (Some v ∷ vs) zero a h = rw (is_eq-slice_cmp k k, (bytes_eq-Decides k k).1 refl) refl
find-found (k ∷ ks) (None ∷ vs) (suc i) a h = find-found ks vs i (apart-rest k ks a) (omega (arith, h))
find-found (k ∷ ks) (Some v ∷ vs) (suc i) a h =
    rw (is_eq-slice_cmp (key_at ks i) k, apart-names (key_at ks i) k (λ same. (let no = a.each (suc i) zero h (omega arith) same in omega (arith, no)))) (find-found ks vs i (apart-rest k ks a) (omega (arith, h)))

pub values-found : (keys : List Name) (es : List Entry) (vs : List (Option ℤ)) → AreApart keys → AreDefined keys es vs → finite.from_entries (valued_in keys vs) ≡ values_of (symbols_in keys es)
values-found keys es vs apart a =
    finite.same_map nat_list_cmp_total (finite.slice_cmp-IsAntisymmetric finite.nat_cmp-IsAntisymmetric) _ _
    (λ name. get-from_entries nat_list_cmp_total (valued_in keys vs) name ∙ by name (position (bytes_eq name) keys) refl ∙ sym (value-of-name (symbols_in keys es) name))
  where
    by : (name : Name) (o : Option ℕ) → position (bytes_eq name) keys ≡ o → finite.find (slice_cmp nat_cmp) name (valued_in keys vs) ≡ value_among (symbols_in keys es) name
    by name None e = find-missing keys vs name (absent-key keys name e) ∙ sym (value-missing keys es vs name a (absent-key keys name e))
    by name (Some i) e =
        let f = found-key keys name i e in
        ap (λ n. finite.find (slice_cmp nat_cmp) n (valued_in keys vs)) (sym f.1) ∙ find-found keys vs i apart f.0 ∙ value-found keys es vs name i a f

-- the value before the edit and the value now, at a number
pub same-at : (keys : List Name) (es : List Entry) (past vs : List (Option ℤ)) (i : ℕ) → AreApart keys → AreDefined keys es vs → i < length keys
    → option_eq int_eq (get_or past i None) (get_or vs i None) ≡ has_same_value (finite.from_entries (valued_in keys past)) (values_of (symbols_in keys es)) (key_at keys i)
same-at keys es past vs i apart a h =
    let was = get-from_entries nat_list_cmp_total (valued_in keys past) (key_at keys i) ∙ find-found keys past i apart h in
    let is = value-of-name (symbols_in keys es) (key_at keys i) ∙ sym (a.valued i h) in
    λ j. option_eq int_eq (sym was j) (sym is j)
