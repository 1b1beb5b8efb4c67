-- The values of names, now and before an edit, and the number of values that differ.
use Rattle.std.proofs.Common.{◌≡◌, ℕ, ◌+◌, ◌-◌, ◌<◌, ◌≤◌, ◌⊎◌, inl, inr, ℤ, Bool, true, false, not, cond, List, [], ◌∷◌, ◌++◌, length, set, get_or, refl, ap, sym, ◌∙◌, arith, Option, Some, None, length-append, length-set}
use Rattle.std.specs.Option.{option_eq}
use Rattle.std.specs.Ordering.{int_eq}
use Rattle.std.proofs.Math.Seq.{get_or-append_seam}
use Rattle.std.proofs.lemmas.Bool.{cases_eq, cases_lt}
use Rattle.std.proofs.lemmas.Bool.Decides.{Decides-int_eq}
use Rattle.std.proofs.lemmas.List.{ext_get_or, get_or_append_left, get_or-set_other, get_or-set_same}
use Rattle.std.proofs.lemmas.List.Sums.{get_or-le-sum_by, sum_by-append, sum_by-cons, sum_by-set}
use Rattle.chip_symbols.specs.inner.Entries.{AreCompared, count_true, is_same_at}

abbrev one : Bool → ℕ
one b = cond b 1 0

same-value : (a b : Option ℤ) → option_eq int_eq a b ≡ true → a ≡ b
same-value None None e = refl
same-value None (Some y) e = cc
same-value (Some x) None e = cc
same-value (Some x) (Some y) e = ap Some ((Decides-int_eq x y).0 e)

-- if no values differ, the two lists are the same
pub all-same : (now past : List (Option ℤ)) (ds : List Bool) (n : ℕ) → AreCompared now past ds n → n ≡ 0 → past ≡ now
all-same now past ds n a none = ext_get_or None past now a.long (λ i h. by i (omega (arith, h, a.long)) (is_same_at past now i) refl)
  where
    by : (i : ℕ) → i < length now → (b : Bool) → is_same_at past now i ≡ b → get_or past i None ≡ get_or now i None
    by i h true e = same-value (get_or past i None) (get_or now i None) e
    by i h false e =
        absurd (omega (arith, a.counted, none, ap one (a.noted.each i h ∙ ap not e), get_or-le-sum_by one ds i false (omega (arith, h, a.noted.long))))

-- one more name, which has no value
pub compared-more : (now past : List (Option ℤ)) (ds : List Bool) (n : ℕ) → AreCompared now past ds n → AreCompared (now ++ None ∷ []) (past ++ None ∷ []) (ds ++ false ∷ []) n
compared-more now past ds n a = record {
  long = omega (arith, a.long, length-append now (None ∷ []), length-append past (None ∷ []));
  noted = record {
    long = omega (arith, a.noted.long, length-append now (None ∷ []), length-append ds (false ∷ []));
    each = λ k low. by k low (cases_lt k (length now));
  };
  counted = omega (arith, a.counted, sum_by-append one ds (false ∷ []), sum_by-cons one false []);
}
  where
    by : (k : ℕ) → k < length (now ++ None ∷ []) → (k < length now) ⊎ (length now ≤ k) → get_or (ds ++ false ∷ []) k false ≡ not (is_same_at (past ++ None ∷ []) (now ++ None ∷ []) k)
    by k low (inl h) =
        rw (get_or_append_left now (None ∷ []) None k h, get_or_append_left past (None ∷ []) None k (omega (arith, a.long)), get_or_append_left ds (false ∷ []) false k (omega (arith, h, a.noted.long))) (a.noted.each k h)
    by k low (inr h) =
        let at : k ≡ length now = omega (arith, length-append now (None ∷ [])) in
        let place : k ≡ length ds = omega (arith, at, a.noted.long) in
        ap (λ i. get_or (ds ++ false ∷ []) i false) place ∙ get_or-append_seam ds false [] false
        ∙ (rw (at ∙ sym a.long, get_or-append_seam past None [] None, a.long, get_or-append_seam now None [] None) refl)

-- the value of a name is written

-- the number of values that differ after a write
pub count-set : (now past : List (Option ℤ)) (ds : List Bool) (n i m : ℕ) (was is : Bool) → AreCompared now past ds n → i < length now → was ≡ get_or ds i was → m ≡ n - one was + one is → m ≡ count_true (set ds i is)
count-set now past ds n i m was is a h old then =
    let low : i < length ds = omega (arith, h, a.noted.long) in
    omega (arith, a.counted, ap one old, sum_by-set one ds i is was low, get_or-le-sum_by one ds i was low)

pub compared-set : (now past : List (Option ℤ)) (ds : List Bool) (n i m : ℕ) (v : Option ℤ) (was is : Bool) → AreCompared now past ds n → i < length now → was ≡ get_or ds i was
    → is ≡ not (option_eq int_eq (get_or past i None) v) → m ≡ n - one was + one is → AreCompared (set now i v) past (set ds i is) m
compared-set now past ds n i m v was is a h old new then = record {
  long = a.long ∙ sym (length-set now i v);
  noted = record {
    long = length-set ds i is ∙ a.noted.long ∙ sym (length-set now i v);
    each = λ k low. by k (omega (arith, low, length-set now i v)) (cases_eq k i);
  };
  counted = count-set now past ds n i m was is a h old then;
}
  where
    by : (k : ℕ) → k < length now → (k ≡ i) ⊎ (k ≡ i → ⊥) → get_or (set ds i is) k false ≡ not (is_same_at past (set now i v) k)
    by k low (inl same) = rw (same, get_or-set_same now i v None h, ← new) (get_or-set_same ds i is false (omega (arith, h, a.noted.long)))
    by k low (inr differ) = rw (get_or-set_other now i k v None differ, get_or-set_other ds i k is false differ) (a.noted.each k low)
