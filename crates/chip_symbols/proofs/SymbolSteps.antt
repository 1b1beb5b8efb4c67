-- The table of symbols, and the value at the number of a name.
use Rattle.std.proofs.Common.{◌≡◌, ℕ, ◌+◌, ◌<◌, ◌≤◌, ◌⊎◌, inl, inr, ℤ, pos, Bool, true, false, cond, List, [], ◌∷◌, ◌++◌, All, map, length, take, drop, set, get_or, slice_get, refl, ap, sym, subst, ◌∙◌, arith, Option, Some, None, option_map, is_some, ltb, not, position, suc, zero, length-append, length-set, ◌-◌, IfSome, length-take}
use Rattle.std.specs.List.{list_any, position_or_len}
use Rattle.std.specs.Global.{Vec}
use Rattle.std.specs.Option.{option_or}
use Rattle.std.specs.Str.{bytes_eq}
use Rattle.std.proofs.Math.Seq.{get_or-append_seam, take-append_seam}
use Rattle.std.proofs.lemmas.Bool.{cases_eq, cases_lt, false_from_ne_true}
use Rattle.std.proofs.lemmas.Bool.Decides.{nat_tests}
use Rattle.std.proofs.lemmas.List.{drop_more, get_or_append_left, get_or_default, get_or-map, get_or-set_same, get_or-set_other, length-map, map-append, take-append-drop, take-append-le, take_more, get_or-append_right, get_or-take, take-map, take_all, take-take}
use Rattle.std.proofs.lemmas.List.Elements.{All-push}
use Rattle.std.proofs.lemmas.List.Folds.{list_any_at}
use Rattle.std.proofs.lemmas.List.Quantifiers.{position-Some}
use Rattle.std.proofs.lemmas.List.Sums.{fails_before_first}
use Rattle.std.proofs.lemmas.Option.{slice_get-map, get_or_from_slice_get, slice_get-get_or, slice_get_within}
use Rattle.std.proofs.lemmas.Slice.Eq.{bytes_eq-Decides}
use Rattle.chip_symbols.specs.declared.table.Entry.{Entry}
use Rattle.chip_symbols.specs.declared.table.Symbol.{Symbol}
use Rattle.chip_symbols.specs.Names.{Name, lookup_name}
use Rattle.chip_symbols.specs.Tables.{Extends, Tables, key_at, value_among, AreOver, AreUpTo}
use Rattle.chip_symbols.specs.inner.Entries.{AreApart, AreDefined, symbols_in, valued_in, EndsBy, IsFront, IsPastNext}

-- looking a name up

lookup-append : (xs ys : List (Name × Symbol)) (name : Name) → lookup_name (xs ++ ys) name ≡ option_or (lookup_name xs name) (lookup_name ys name)
lookup-append [] ys name = refl
lookup-append (x ∷ xs) ys name =
    elim (bytes_eq name x.0) as (λ b. cond b (Some x.1) (lookup_name (xs ++ ys) name) ≡ option_or (cond b (Some x.1) (lookup_name xs name)) (lookup_name ys name))
    [ true ↦ refl | false ↦ lookup-append xs ys name ]

lookup-last : (names : List (Name × Symbol)) (e : Name × Symbol) (name : Name) → lookup_name names name ≡ None → lookup_name (names ++ e ∷ []) name ≡ cond (bytes_eq name e.0) (Some e.1) None
lookup-last names e name none = lookup-append names (e ∷ []) name ∙ ap (λ o. option_or o (lookup_name (e ∷ []) name)) none

-- later symbols of other names change nothing
lookup-front : (names later : List (Name × Symbol)) (name : Name) → lookup_name later name ≡ None → lookup_name (names ++ later) name ≡ lookup_name names name
lookup-front [] later name h = h
lookup-front (x ∷ xs) later name h = ap (cond (bytes_eq name x.0) (Some x.1)) (lookup-front xs later name h)

-- one more symbol changes only the value of its name
value-other : (names : List (Name × Symbol)) (e : Name × Symbol) (name : Name) → bytes_eq name e.0 ≡ false → value_among (names ++ e ∷ []) name ≡ value_among names name
value-other names e name apart = ap (option_map (λ (s : Symbol). s.value)) (lookup-front names (e ∷ []) name (ap (λ b. cond b (Some e.1) None) apart))

value-own : (names : List (Name × Symbol)) (e : Name × Symbol) → lookup_name names e.0 ≡ None → value_among (names ++ e ∷ []) e.0 ≡ Some e.1.value
value-own names e none = ap (option_map (λ (s : Symbol). s.value)) (lookup-last names e e.0 none ∙ ap (λ b. cond b (Some e.1) None) ((bytes_eq-Decides e.0 e.0).1 refl))

pub apart-names : (a b : Name) → (a ≡ b → ⊥) → bytes_eq a b ≡ false
apart-names a b n = false_from_ne_true (bytes_eq a b) (λ e. n ((bytes_eq-Decides a b).0 e))

-- a name has a symbol if and only if it has a value
pub valued-given : (names : List (Name × Symbol)) (name : Name) → is_some (value_among names name) ≡ is_some (lookup_name names name)
valued-given names name = elim (lookup_name names name) as (λ o. is_some (option_map (λ (s : Symbol). s.value) o) ≡ is_some o) [ None ↦ refl | Some s ↦ refl ]

-- entries

abbrev pub seen : List Name → Entry → Name × Symbol
seen keys e = (key_at keys e.id.number, e.symbol)

pub symbols-push : (keys : List Name) (es : List Entry) (e : Entry) → symbols_in keys (es ++ e ∷ []) ≡ symbols_in keys es ++ seen keys e ∷ []
symbols-push keys es e = map-append (seen keys) es (e ∷ [])

-- each symbol is the first symbol of its name
abbrev AreFirst : List (Name × Symbol) → Type 0
AreFirst ss = (place : ℕ) (x : Name × Symbol) → place < length ss → x ≡ get_or ss place x → lookup_name (take place ss) x.0 ≡ None

first-more : (ss : List (Name × Symbol)) (e : Name × Symbol) → AreFirst ss → lookup_name ss e.0 ≡ None → AreFirst (ss ++ e ∷ [])
first-more ss e all none place x h is = by (cases_lt place (length ss))
  where
    by : (place < length ss) ⊎ (length ss ≤ place) → lookup_name (take place (ss ++ e ∷ [])) x.0 ≡ None
    by (inl low) = ap (λ ts. lookup_name ts x.0) (take-append-le place ss (e ∷ []) (omega arith)) ∙ all place x low (is ∙ get_or_append_left ss (e ∷ []) x place low)
    by (inr high) =
        let at : place ≡ length ss = omega (arith, length-append ss (e ∷ [])) in
        let own : x ≡ e = is ∙ ap (λ k. get_or (ss ++ e ∷ []) k x) at ∙ get_or-append_seam ss e [] x in
        ap (λ k. lookup_name (take k (ss ++ e ∷ [])) x.0) at ∙ ap (λ ts. lookup_name ts x.0) (take-append_seam ss (e ∷ [])) ∙ ap (λ (y : Name × Symbol). lookup_name ss y.0) own ∙ none

first-less : (ss : List (Name × Symbol)) (e : Name × Symbol) → AreFirst (ss ++ e ∷ []) → AreFirst ss
first-less ss e all place x h is =
    ap (λ ts. lookup_name ts x.0) (sym (take-append-le place ss (e ∷ []) (omega arith)))
    ∙ all place x (omega (arith, length-append ss (e ∷ []))) (is ∙ sym (get_or_append_left ss (e ∷ []) x place h))

-- a value is written
valued-set : (keys : List Name) (vs : List (Option ℤ)) (i : ℕ) (v : Option ℤ) (was now : List (Name × Symbol)) → AreApart keys → i < length keys → length vs ≡ length keys
    → ((number : ℕ) → number < length keys → get_or vs number None ≡ value_among was (key_at keys number))
    → ((name : Name) → bytes_eq name (key_at keys i) ≡ false → value_among was name ≡ value_among now name) → v ≡ value_among now (key_at keys i)
    → (number : ℕ) → number < length keys → get_or (set vs i v) number None ≡ value_among now (key_at keys number)
valued-set keys vs i v was now apart inside long all other own number h = by (cases_eq number i)
  where
    by : (number ≡ i) ⊎ (number ≡ i → ⊥) → get_or (set vs i v) number None ≡ value_among now (key_at keys number)
    by (inl same) = rw same (get_or-set_same vs i v None (omega arith) ∙ own)
    by (inr differ) =
        get_or-set_other vs i number v None differ ∙ all number h ∙ other (key_at keys number) (apart-names (key_at keys number) (key_at keys i) (λ same. differ (apart.each number i h inside same)))

-- one more definition
pub defined-more : (keys : List Name) (es : List Entry) (vs : List (Option ℤ)) (e : Entry) → AreApart keys → AreDefined keys es vs → e.id.number < length keys → lookup_name (symbols_in keys es) (key_at keys e.id.number) ≡ None
    → AreDefined keys (es ++ e ∷ []) (set vs e.id.number (Some e.symbol.value))
defined-more keys es vs e apart a inside none =
    let ss : List (Name × Symbol) = symbols_in keys es in
    let symbols : symbols_in keys (es ++ e ∷ []) ≡ ss ++ seen keys e ∷ [] = symbols-push keys es e in
    let firsts : AreFirst ss = λ place x h is. a.once place x (omega (arith, h, length-map es (seen keys))) is in
    record {
      inside = All-push (λ (e : Entry). e.id.number < length keys) es e a.inside inside;
      once = λ place x h is. subst AreFirst (sym symbols) (first-more ss (seen keys e) firsts none) place x (omega (arith, h, length-map (es ++ e ∷ []) (seen keys))) is;
      long = length-set vs e.id.number (Some e.symbol.value) ∙ a.long;
      valued = rw symbols (valued-set keys vs e.id.number (Some e.symbol.value) ss (ss ++ seen keys e ∷ []) apart inside a.long a.valued
          (λ name other. sym (value-other ss (seen keys e) name other)) (sym (value-own ss (seen keys e) none)));
    }

-- the last definition is removed
pub defined-less : (keys : List Name) (es : List Entry) (vs : List (Option ℤ)) (e : Entry) → AreApart keys → AreDefined keys (es ++ e ∷ []) vs → AreDefined keys es (set vs e.id.number None)
defined-less keys es vs e apart a =
    let ss : List (Name × Symbol) = symbols_in keys es in
    let symbols : symbols_in keys (es ++ e ∷ []) ≡ ss ++ seen keys e ∷ [] = symbols-push keys es e in
    let firsts : AreFirst (ss ++ seen keys e ∷ []) = subst AreFirst symbols (λ place x h is. a.once place x (omega (arith, h, length-map (es ++ e ∷ []) (seen keys))) is) in
    let count : length (es ++ e ∷ []) ≡ length es + 1 = length-append es (e ∷ []) in
    let within : e.id.number < length keys = (let last = a.inside (length es) e (omega arith) in rw get_or-append_seam at last) in
    let none : lookup_name ss (key_at keys e.id.number) ≡ None
    = ap (λ ts. lookup_name ts (key_at keys e.id.number)) (sym (take-append_seam ss (seen keys e ∷ [])))
    ∙ firsts (length ss) (seen keys e) (omega (arith, length-append ss (seen keys e ∷ []))) (sym (get_or-append_seam ss (seen keys e) [] (seen keys e))) in
    record {
      inside = λ k x h. (let low = a.inside k x (omega arith) in rw (get_or_append_left es (e ∷ []) x k h) at low);
      once = λ place x h is. first-less ss (seen keys e) firsts place x (omega (arith, h, length-map es (seen keys))) is;
      long = length-set vs e.id.number None ∙ a.long;
      valued = valued-set keys vs e.id.number None (ss ++ seen keys e ∷ []) ss apart within a.long (rw (← symbols) a.valued)
          (λ name other. value-other ss (seen keys e) name other) (sym (ap (option_map (λ (s : Symbol). s.value)) none));
    }

-- a name by its number

-- a key is found by its bytes
pub found-key : (keys : List Name) (name : Name) (i : ℕ) → position (bytes_eq name) keys ≡ Some i → (i < length keys) × (key_at keys i ≡ name)
found-key keys name i h =
    let p = position-Some (bytes_eq name) keys i [] h in
    (p.0, sym ((bytes_eq-Decides name (key_at keys i)).0 p.1))

pub absent-key : (keys : List Name) (name : Name) → position (bytes_eq name) keys ≡ None → (i : ℕ) → i < length keys → key_at keys i ≡ name → ⊥
absent-key keys name h i inside same =
    let far : length keys ≤ position_or_len (bytes_eq name) keys = grind (arith, nat_tests) in
    let no : bytes_eq name (key_at keys i) ≡ false = fails_before_first (bytes_eq name) keys i [] (omega arith) in
    let yes : bytes_eq name (key_at keys i) ≡ true = (bytes_eq-Decides name (key_at keys i)).1 (sym same) in
    cc

-- each symbol belongs to a name among the keys
lookup-missing : (keys : List Name) (es : List Entry) (name : Name) → All (λ (e : Entry). e.id.number < length keys) es → ((i : ℕ) → i < length keys → key_at keys i ≡ name → ⊥) → lookup_name (symbols_in keys es) name ≡ None
lookup-missing keys [] name inside none = refl
lookup-missing keys (e ∷ es) name inside none =
    let apart : bytes_eq name (key_at keys e.id.number) ≡ false = apart-names name (key_at keys e.id.number) (λ same. none e.id.number (inside zero e (omega arith)) (sym same)) in
    rw apart (lookup-missing keys es name (λ k d h. inside (suc k) d (omega (arith, h))) none)

-- the names of the keys in a set

abbrev pub names_of : List (Vec ℕ) → List Name
names_of keys = map (λ (k : Vec ℕ). k.items) keys

first-key : (keys : List (Vec ℕ)) (name : Name) → position_or_len (bytes_eq name) (names_of keys) ≡ position_or_len (λ (k : Vec ℕ). bytes_eq name k.items) keys
first-key [] name = refl
first-key (k ∷ keys) name = ap (λ n. cond (not (bytes_eq name k.items)) (1 + n) 0) (first-key keys name)

key-position : (keys : List (Vec ℕ)) (name : Name) → position (bytes_eq name) (names_of keys) ≡ position (λ (k : Vec ℕ). bytes_eq name k.items) keys
key-position keys name = λ j. cond (ltb (first-key keys name j) (length-map keys (λ (k : Vec ℕ). k.items) j)) (Some (first-key keys name j)) None

pub found-kept : (keys : List (Vec ℕ)) (name : Name) (i : ℕ) → position (λ (k : Vec ℕ). bytes_eq name k.items) keys ≡ Some i → (i < length (names_of keys)) × (key_at (names_of keys) i ≡ name)
found-kept keys name i h = found-key (names_of keys) name i (key-position keys name ∙ h)

pub absent-kept : (keys : List (Vec ℕ)) (name : Name) → position (λ (k : Vec ℕ). bytes_eq name k.items) keys ≡ None → (i : ℕ) → i < length (names_of keys) → key_at (names_of keys) i ≡ name → ⊥
absent-kept keys name h = absent-key (names_of keys) name (key-position keys name ∙ h)

-- a new name comes last
pub record OneMore (was now : List Name) (name : Name) : Type 0 where
  pub is : now ≡ was ++ name ∷ []
  pub none : (i : ℕ) → i < length was → key_at was i ≡ name → ⊥

pub one-more : (keys later : List (Vec ℕ)) (key : Vec ℕ) (new : Bool) → new ≡ true → new ≡ not (list_any (λ (k : Vec ℕ). bytes_eq key.items k.items) keys)
    → later ≡ cond (list_any (λ (k : Vec ℕ). bytes_eq key.items k.items) keys) keys (keys ++ key ∷ []) → OneMore (names_of keys) (names_of later) key.items
one-more keys later key new sure is then =
    let lacks : list_any (λ (k : Vec ℕ). bytes_eq key.items k.items) keys ≡ false = grind arith in record {
      is = ap names_of (then ∙ ap (λ b. cond b keys (keys ++ key ∷ [])) lacks) ∙ map-append (λ (k : Vec ℕ). k.items) keys (key ∷ []);
      none = λ i inside same.
          (let low : i < length keys = omega (arith, inside, length-map keys (λ (k : Vec ℕ). k.items)) in
          let there : key.items ≡ (get_or keys i key).items = sym same ∙ get_or-map (λ (k : Vec ℕ). k.items) keys i key [] low in
          let yes = list_any_at (λ (k : Vec ℕ). bytes_eq key.items k.items) keys i key low ((bytes_eq-Decides key.items (get_or keys i key).items).1 there) in
          cc);
    }

key-kept : (was now : List Name) (name : Name) (i : ℕ) → OneMore was now name → i < length was → key_at now i ≡ key_at was i
key-kept was now name i o h = ap (λ ks. key_at ks i) o.is ∙ get_or_append_left was (name ∷ []) [] i h

key-last : (was now : List Name) (name : Name) (i : ℕ) → OneMore was now name → i < length now → length was ≤ i → (i ≡ length was) × (key_at now i ≡ name)
key-last was now name i o h past =
    let at : i ≡ length was = omega (arith, ap length o.is, length-append was (name ∷ [])) in
    (at, ap (λ ks. key_at ks i) o.is ∙ ap (key_at (was ++ name ∷ [])) at ∙ get_or-append_seam was name [] [])

pub extends-more : (was now : List Name) (name : Name) → OneMore was now name → Extends was now
extends-more was now name o = record { longer = omega (arith, ap length o.is, length-append was (name ∷ [])); same = λ i h. key-kept was now name i o h }

pub apart-more : (was now : List Name) (name : Name) → OneMore was now name → AreApart was → AreApart now
apart-more was now name o a = record { each = λ i j hi hj same. by i j hi hj same (cases_lt i (length was)) (cases_lt j (length was)) }
  where
    by : (i j : ℕ) → i < length now → j < length now → key_at now i ≡ key_at now j → (i < length was) ⊎ (length was ≤ i) → (j < length was) ⊎ (length was ≤ j) → i ≡ j
    by i j hi hj same (inl li) (inl lj) = a.each i j li lj (sym (key-kept was now name i o li) ∙ same ∙ key-kept was now name j o lj)
    by i j hi hj same (inl li) (inr gj) = absurd (o.none i li (sym (key-kept was now name i o li) ∙ same ∙ (key-last was now name j o hj gj).1))
    by i j hi hj same (inr gi) (inl lj) = absurd (o.none j lj (sym (key-kept was now name j o lj) ∙ sym same ∙ (key-last was now name i o hi gi).1))
    by i j hi hj same (inr gi) (inr gj) = (key-last was now name i o hi gi).0 ∙ sym (key-last was now name j o hj gj).0

pub symbols-more : (was now : List Name) (name : Name) (es : List Entry) → OneMore was now name → All (λ (e : Entry). e.id.number < length was) es → symbols_in now es ≡ symbols_in was es
symbols-more was now name [] o inside = refl
symbols-more was now name (e ∷ es) o inside =
    let here : key_at now e.id.number ≡ key_at was e.id.number = key-kept was now name e.id.number o (inside zero e (omega arith)) in
    let rest : symbols_in now es ≡ symbols_in was es = symbols-more was now name es o (λ k d h. inside (suc k) d (omega (arith, h))) in
    λ j. (here j, e.symbol) ∷ rest j

pub defined-under : (was now : List Name) (name : Name) (es : List Entry) (vs : List (Option ℤ)) → OneMore was now name → AreDefined was es vs → AreDefined now es (vs ++ None ∷ [])
defined-under was now name es vs o a = record {
  inside = λ k x h. (let low = a.inside k x h in omega (arith, low, count));
  once = λ place x h is. ap (λ ss. lookup_name (take place ss) x.0) symbols ∙ a.once place x h (is ∙ ap (λ ss. get_or ss place x) symbols);
  long = omega (arith, length-append vs (None ∷ []), a.long, count);
  valued = λ number h. valued number h (cases_lt number (length was)) ∙ sym (ap (λ ss. value_among ss (key_at now number)) symbols);
}
  where
    count : length now ≡ length was + 1
    count = ap length o.is ∙ length-append was (name ∷ [])

    symbols : symbols_in now es ≡ symbols_in was es
    symbols = symbols-more was now name es o a.inside

    valued : (number : ℕ) → number < length now → (number < length was) ⊎ (length was ≤ number) → get_or (vs ++ None ∷ []) number None ≡ value_among (symbols_in was es) (key_at now number)
    valued number h (inl low) =
        get_or_append_left vs (None ∷ []) None number (omega (arith, a.long)) ∙ a.valued number low ∙ ap (value_among (symbols_in was es)) (sym (key-kept was now name number o low))
    valued number h (inr past) =
        let l = key-last was now name number o h past in
        ap (λ i. get_or (vs ++ None ∷ []) i None) (l.0 ∙ sym a.long) ∙ get_or-append_seam vs None [] None
        ∙ sym (ap (value_among (symbols_in was es)) l.1 ∙ ap (option_map (λ (s : Symbol). s.value)) (lookup-missing was es name a.inside o.none))

-- the values before an edit, in which the new name has no value
pub valued-more : (keys : List Name) (vs : List (Option ℤ)) (name : Name) → length vs ≡ length keys → valued_in (keys ++ name ∷ []) (vs ++ None ∷ []) ≡ valued_in keys vs
valued-more [] [] name e = refl
valued-more [] (v ∷ vs) name e = absurd (omega (arith, e))
valued-more (k ∷ ks) [] name e = absurd (omega (arith, e))
valued-more (k ∷ ks) (None ∷ vs) name e = valued-more ks vs name (omega (arith, e))
valued-more (k ∷ ks) (Some v ∷ vs) name e = ap (λ es. (k, v) ∷ es) (valued-more ks vs name (omega (arith, e)))

-- adding a key that the set already contains changes no key
pub same-keys : (keys later : List (Vec ℕ)) (key : Vec ℕ) (new : Bool) → new ≡ false → new ≡ not (list_any (λ (k : Vec ℕ). bytes_eq key.items k.items) keys)
    → later ≡ cond (list_any (λ (k : Vec ℕ). bytes_eq key.items k.items) keys) keys (keys ++ key ∷ []) → later ≡ keys
same-keys keys later key new sure is then = grind arith

-- the key at an index
pub key-there : (keys : List (Vec ℕ)) (i : ℕ) (name : Name) → ((k : Vec ℕ) × (slice_get keys i ≡ Some k) × (bytes_eq name k.items ≡ true)) → key_at (names_of keys) i ≡ name
key-there keys i name s =
    get_or_from_slice_get (names_of keys) i s.0.items [] (slice_get-map (λ (k : Vec ℕ). k.items) keys i ∙ ap (option_map (λ (k : Vec ℕ). k.items)) s.1)
    ∙ sym ((bytes_eq-Decides name s.0.items).0 s.2)

-- a name's value is at its number
pub value-found : (keys : List Name) (es : List Entry) (vs : List (Option ℤ)) (name : Name) (i : ℕ) → AreDefined keys es vs → (i < length keys) × (key_at keys i ≡ name) → get_or vs i None ≡ value_among (symbols_in keys es) name
value-found keys es vs name i a f = a.valued i f.0 ∙ ap (value_among (symbols_in keys es)) f.1

pub value-missing : (keys : List Name) (es : List Entry) (vs : List (Option ℤ)) (name : Name) → AreDefined keys es vs → ((i : ℕ) → i < length keys → key_at keys i ≡ name → ⊥) → value_among (symbols_in keys es) name ≡ None
value-missing keys es vs name a none = ap (option_map (λ (s : Symbol). s.value)) (lookup-missing keys es name a.inside none)

-- symbols one by one

pub lookup-at : (names : List (Name × Symbol)) (k : ℕ) (e : Name × Symbol) (name : Name) → k < length names → get_or names k e ≡ e → lookup_name (take k names) name ≡ None → bytes_eq name e.0 ≡ true
    → lookup_name names name ≡ Some e.1
lookup-at names k e name h at before same =
    let split : names ≡ take k names ++ e ∷ drop (k + 1) names = sym (take-append-drop k names) ∙ ap (λ ss. take k names ++ ss) (drop_more names k e h ∙ ap (λ x. x ∷ drop (k + 1) names) at) in
    ap (λ ss. lookup_name ss name) split ∙ lookup-append (take k names) (e ∷ drop (k + 1) names) name
    ∙ ap (λ o. option_or o (lookup_name (e ∷ drop (k + 1) names) name)) before ∙ ap (λ b. cond b (Some e.1) (lookup_name (drop (k + 1) names) name)) same

pub lookup-next : (names : List (Name × Symbol)) (k : ℕ) (e : Name × Symbol) (name : Name) → k < length names → get_or names k e ≡ e → lookup_name (take k names) name ≡ None → bytes_eq name e.0 ≡ false
    → lookup_name (take (k + 1) names) name ≡ None
lookup-next names k e name h at before other =
    ap (λ ss. lookup_name ss name) (take_more names k e h ∙ ap (λ x. take k names ++ x ∷ []) at)
    ∙ lookup-last (take k names) e name before
    ∙ ap (λ b. cond b (Some e.1) None) other

-- the entry at a place as contracts see it
pub entry-seen : (keys : List Name) (es : List Entry) (names : List (Name × Symbol)) (k : ℕ) (e : Entry) → symbols_in keys es ≡ names → k < length es → get_or es k e ≡ e
    → (k < length names) × (get_or names k (seen keys e) ≡ seen keys e)
entry-seen keys es names k e view h at =
    let count : length names ≡ length es = ap length (sym view) ∙ length-map es (seen keys) in
    (omega (arith, count, h), ap (λ ns. get_or ns k (seen keys e)) (sym view) ∙ get_or-map (seen keys) es k e (seen keys e) h ∙ ap (seen keys) at)

abbrev pub no-entry : Entry
no-entry = record { id = record { number = 0 }; symbol = record { value = pos 0; line = 0 } }

-- the entry at a place of a table's own entries, as contracts see it
pub entry-listed : (t u : Tables) (es items : List Entry) (k : ℕ) → u ≡ t → items ≡ es → u.symbols ≡ symbols_in u.keys es → k < length items
    → (k < length t.symbols) × (get_or t.symbols k (seen t.keys (get_or items k no-entry)) ≡ seen t.keys (get_or items k no-entry))
entry-listed t u es items k same listed view h =
    let symbols : symbols_in t.keys items ≡ t.symbols = ap (symbols_in t.keys) listed ∙ sym (subst (λ (v : Tables). v.symbols ≡ symbols_in v.keys es) same view) in
    entry-seen t.keys items t.symbols k (get_or items k no-entry) symbols h (get_or_default items k (get_or items k no-entry) no-entry h)

-- none of the symbols before a place has the name of the symbol there
pub once-listed : (t u : Tables) (es items : List Entry) (vs : List (Option ℤ)) (k : ℕ) → u ≡ t → items ≡ es → u.symbols ≡ symbols_in u.keys es → AreDefined u.keys es vs → k < length items
    → lookup_name (take k t.symbols) (key_at t.keys (get_or items k no-entry).id.number) ≡ None
once-listed t u es items vs k same listed view a h =
    let e : Entry = get_or es k no-entry in
    let inside : k < length es = omega (arith, h, ap length listed) in
    let s = entry-seen u.keys es (symbols_in u.keys es) k e refl inside (get_or_default es k e no-entry inside) in
    let new : lookup_name (take k (symbols_in u.keys es)) (key_at u.keys e.id.number) ≡ None = a.once k (seen u.keys e) inside (sym s.1) in
    let at : lookup_name (take k u.symbols) (key_at u.keys (get_or items k no-entry).id.number) ≡ None = rw (view, listed) new in
    subst (λ (v : Tables). lookup_name (take k v.symbols) (key_at v.keys (get_or items k no-entry).id.number) ≡ None) same at

-- Symbols of lines past a number, removed from the last one on.

pub last-of : (es : List Entry) (e : Entry) → Some e ≡ slice_get es (length es - 1) → es ≡ take (length es - 1) es ++ e ∷ []
last-of es e at =
    let inside : length es - 1 < length es = slice_get_within es (length es - 1) e (sym at) in
    sym (take_all (length es - 1 + 1) es (omega arith)) ∙ take_more es (length es - 1) e inside ∙ ap (λ x. take (length es - 1) es ++ x ∷ []) (get_or_from_slice_get es (length es - 1) e e (sym at))

-- a front without its last entry is still a front
pub front-less : (es next whole : List Entry) (e : Entry) → es ≡ next ++ e ∷ [] → IsFront es whole → IsFront next whole
front-less es next whole e is front =
    sym (take-append_seam next (e ∷ [])) ∙ ap (take (length next)) (sym is ∙ front) ∙ take-take (length next) (length es) whole (omega (arith, ap length is, length-append next (e ∷ [])))

-- the removed entry belongs to a line past a number
pub past-next : (number : ℕ) (es next whole : List Entry) (e : Entry) → es ≡ next ++ e ∷ [] → IsFront es whole → number < e.symbol.line → IsPastNext number next whole
past-next number es next whole e is front high =
    let count : length es ≡ length next + 1 = ap length is ∙ length-append next (e ∷ []) in
    let at : slice_get whole (length next) ≡ Some e
    = slice_get-get_or whole (length next) e (omega (arith, count, ap length front, length-take (length es) whole))
    ∙ ap Some (sym (get_or-take (length es) whole (length next) e (omega arith)) ∙ ap (λ xs. get_or xs (length next) e) (sym front ∙ is) ∙ get_or-append_seam next e [] e) in
    subst (λ o. IfSome o (λ (x : Entry). number < x.symbol.line)) (sym at) high

-- if a front ends at a number and the next entry is past that number, the symbols of the front are
-- those of the lines up to that number
pub front-early : (number : ℕ) (keys : List Name) (es whole : List Entry) → IsFront es whole → EndsBy number es → IsPastNext number es whole
    → (early later : List (Name × Symbol)) → symbols_in keys whole ≡ early ++ later → AreUpTo number early → AreOver number later → symbols_in keys es ≡ early
front-early number keys es whole front ends next early later is up over = by (cases_lt (length es) (length early)) (cases_lt (length early) (length es))
  where
    named : symbols_in keys es ≡ take (length es) (early ++ later)
    named = ap (symbols_in keys) front ∙ sym (take-map (seen keys) (length es) whole) ∙ ap (take (length es)) is

    count : length whole ≡ length early + length later
    count = sym (length-map whole (seen keys)) ∙ ap length is ∙ length-append early later

    within : length es ≤ length whole
    within = omega (arith, ap length front, length-take (length es) whole)

    by : (length es < length early) ⊎ (length early ≤ length es) → (length early < length es) ⊎ (length es ≤ length early) → symbols_in keys es ≡ early
    by (inl less) other =
        let k : ℕ = length es in
        let inside : k < length whole = omega (arith, less, count) in
        let e : Entry = get_or whole k no-entry in
        let high : number < e.symbol.line = subst (λ o. IfSome o (λ (x : Entry). number < x.symbol.line)) (slice_get-get_or whole k no-entry inside) next in
        let at = (entry-seen keys whole (early ++ later) k e is inside (get_or_default whole k e no-entry inside)).1 in
        let low = up k (seen keys e) less in
        absurd (omega (arith, high, low, ap (λ (x : Name × Symbol). x.1.line) (sym (get_or_append_left early later (seen keys e) k less) ∙ at)))
    by (inr more) (inl past) =
        let k : ℕ = length es - 1 in
        let inside : k < length whole = omega (arith, past, within) in
        let e : Entry = get_or es k no-entry in
        let low : e.symbol.line ≤ number = subst (λ o. IfSome o (λ (x : Entry). x.symbol.line ≤ number)) (slice_get-get_or es k no-entry (omega (arith, past))) ends in
        let own : get_or whole k e ≡ e = sym (get_or-take (length es) whole k e (omega (arith, past))) ∙ ap (λ xs. get_or xs k e) (sym front) ∙ get_or_default es k e no-entry (omega (arith, past)) in
        let at = (entry-seen keys whole (early ++ later) k e is inside own).1 in
        let high = over (k - length early) (seen keys e) (omega (arith, past, inside, count)) in
        absurd (omega (arith, high, low, ap (λ (x : Name × Symbol). x.1.line) (sym (get_or-append_right early later (length early) k (seen keys e) refl (omega (arith, past))) ∙ at)))
    by (inr more) (inr few) =
        let same : length es ≡ length early = omega (arith, more, few) in
        named ∙ ap (λ n. take n (early ++ later)) same ∙ take-append_seam early later
