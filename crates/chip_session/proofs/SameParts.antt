-- Two lists that were compared from an index on.
use Rattle.std.proofs.Common.{◌≡◌, ◌≤◌, ◌<◌, ◌+◌, ◌-◌, ◌⊎◌, ◌++◌, min, inl, inr, ℕ, Bool, true, false, not, List, length, get_or, take, drop, refl, ap, sym, ◌∙◌, arith}
use Rattle.std.specs.Str.{bytes_eq}
use Rattle.chip_replay.specs.Image.{AgreeOutside}
use Rattle.std.proofs.lemmas.Bool.{cases_lt}
use Rattle.std.proofs.lemmas.List.{get_or-drop, get_or-take, get_or_past, ext_get_or, length-drop, length-take-le, take-append-drop, take_all}
use Rattle.std.proofs.lemmas.Slice.Eq.{bytes_eq-Decides}

told : (b : Bool) → false ≡ not b → b ≡ true
told true e = refl
told false e = e

-- the items of a list from an index on, in the form in which slices are defined
abbrev pub part : ℕ → List ℕ → List ℕ
part rest all = take (length all - rest) (drop rest all)

whole : (rest : ℕ) (all : List ℕ) → part rest all ≡ drop rest all
whole rest all = let long = length-drop rest all in take_all (length all - rest) (drop rest all) (omega (arith, long))

module _ (old new : List ℕ) (rest : ℕ) (test : false ≡ not (bytes_eq (part rest old) (part rest new))) where
  same : drop rest old ≡ drop rest new
  same = sym (whole rest old) ∙ (bytes_eq-Decides (part rest old) (part rest new)).0 (told (bytes_eq (part rest old) (part rest new)) test) ∙ whole rest new

  -- if the rest is the same in both lists, each item of it is too
  pub same_in_rest : (i : ℕ) → rest ≤ i → get_or old i 0 ≡ get_or new i 0
  same_in_rest i behind = sym (at old) ∙ ap (λ (items : List ℕ). get_or items (i - rest) 0) same ∙ at new
    where
      back : rest + (i - rest) ≡ i
      back = omega arith

      at : (all : List ℕ) → get_or (drop rest all) (i - rest) 0 ≡ get_or all i 0
      at all = get_or-drop rest all (i - rest) 0 ∙ ap (λ k. get_or all k 0) back

  -- if the items before the index are also the same, the lists are the same
  pub same_lists : rest ≤ length old → rest ≤ length new → ((i : ℕ) → i < rest → get_or old i 0 ≡ get_or new i 0) → old ≡ new
  same_lists in_old in_new before = ext_get_or 0 old new (omega (arith, rests)) (λ i inside. by i (cases_lt i rest))
    where
      rests : length old - rest ≡ length new - rest
      rests = sym (length-drop rest old) ∙ ap length same ∙ length-drop rest new

      by : (i : ℕ) → (i < rest) ⊎ (rest ≤ i) → get_or old i 0 ≡ get_or new i 0
      by i (inl front) = before i front
      by i (inr behind) = same_in_rest i behind

-- if lists of equal length agree outside a range, they also agree outside the part of that range
-- that lies within the length
pub within_length : (old new : List ℕ) (first end low high : ℕ) → length old ≡ length new → AgreeOutside first end old new → high ≡ min end (length old) → low ≡ min first high
    → AgreeOutside low high old new
within_length old new first end low high long alike is_high is_low = record {
  before = λ i front. alike.before i (omega (arith, is_low));
  after = λ i behind. by i behind (cases_lt i (length old));
}
  where
    by : (i : ℕ) → high ≤ i → (i < length old) ⊎ (length old ≤ i) → get_or old i 0 ≡ get_or new i 0
    by i behind (inl inside) = alike.after i (omega (arith, is_high))
    by i behind (inr past) = get_or_past old i 0 past ∙ sym (get_or_past new i 0 (omega (arith, long)))

-- if the lists also agree inside that range, they are the same
pub same_between : (old new : List ℕ) (low high : ℕ) → length old ≡ length new → AgreeOutside low high old new
    → take (high - low) (drop low old) ≡ take (high - low) (drop low new) → old ≡ new
same_between old new low high long alike between = ext_get_or 0 old new long (λ i inside. by i (cases_lt i low) (cases_lt i high))
  where
    at : (all : List ℕ) (i : ℕ) → low ≤ i → i < high → get_or (take (high - low) (drop low all)) (i - low) 0 ≡ get_or all i 0
    at all i from to = get_or-take (high - low) (drop low all) (i - low) 0 (omega arith) ∙ get_or-drop low all (i - low) 0 ∙ ap (λ k. get_or all k 0) back
      where
        back : low + (i - low) ≡ i
        back = omega arith

    by : (i : ℕ) → (i < low) ⊎ (low ≤ i) → (i < high) ⊎ (high ≤ i) → get_or old i 0 ≡ get_or new i 0
    by i (inl front) _ = alike.before i front
    by i (inr from) (inr behind) = alike.after i behind
    by i (inr from) (inl to) = sym (at old i from to) ∙ ap (λ (items : List ℕ). get_or items (i - low) 0) between ∙ at new i from to

-- the items of `old` before an index, followed by the rest of `new`, are `new` if the lists agree before the index
pub renewed : (old new : List ℕ) (first : ℕ) → first ≤ min (length old) (length new) → ((i : ℕ) → i < first → get_or old i 0 ≡ get_or new i 0)
    → take first old ++ part first new ≡ new
renewed old new first start alike =
    ap (λ front. front ++ part first new) fronts ∙ ap (λ rest. take first new ++ rest) (whole first new) ∙ take-append-drop first new
  where
    count : (all : List ℕ) → first ≤ length all → length (take first all) ≡ first
    count all long = length-take-le first all long

    fronts : take first old ≡ take first new
    fronts = ext_get_or 0 (take first old) (take first new) (count old (omega arith) ∙ sym (count new (omega arith))) (λ i inside.
        let front : i < first = omega (arith, count old (omega arith)) in
        get_or-take first old i 0 front ∙ alike i front ∙ sym (get_or-take first new i 0 front))
