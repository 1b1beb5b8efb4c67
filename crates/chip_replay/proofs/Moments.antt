-- Events by their moments, as a list of entries and as a finite map.
use Rattle.std.proofs.Common.{◌≡◌, Bool, true, false, cond, List, [], ◌∷◌, Some, None, ℕ, ◌+◌, ◌-◌, is_some, length, refl, sym, ap, ◌∙◌, arith}
use Rattle.std.specs.BTreeMap.{is_at}
use Rattle.std.specs.Map.{lookup}
use Rattle.std.specs.FinMap as map
use Rattle.std.specs.Cmp.{IsTotalOrder, eq_by_cmp_equiv, nat_cmp_total}
use Rattle.std.specs.Ordering.{nat_cmp, eq_by_cmp, is_eq}
use Rattle.std.specs.declared.cmp.Ordering.{Ordering}
use Rattle.std.specs.declared.cmp.Ordering.TheVariants.{Less, Equal, Greater}
use Rattle.std.proofs.lemmas.Cmp.{on_total, then_total}
use Rattle.std.proofs.lemmas.Map.Lookups.{CmpEqualImpliesEq, exact_pairs, exact_unsigned}
use Rattle.chip_replay.specs.declared.keys.Moment.{Moment}
use Rattle.chip_replay.specs.Keys.{moment_cmp}

-- moments that compare as equal are equal
pub exact_moments : CmpEqualImpliesEq moment_cmp
exact_moments a b h = ap (λ (p : ℕ × ℕ). record { key = p.0; step = p.1 }) (exact_pairs nat_cmp nat_cmp exact_unsigned exact_unsigned (a.key, a.step) (b.key, b.step) h)

pub moments_total : IsTotalOrder moment_cmp
moments_total = then_total (on_total (λ m. m.key) nat_cmp_total) (on_total (λ m. m.step) nat_cmp_total)

find_moment : (es : List (Moment × Bool)) (q : Moment) → map.find moment_cmp q es ≡ lookup (is_at (moment_cmp q)) es
find_moment [] q = refl
find_moment (e ∷ es) q = ap (cond (is_at (moment_cmp q) e.0) (Some e.1)) (find_moment es q)

-- the value at a moment in the map built from the entries
pub get_moment : (es : List (Moment × Bool)) (q : Moment) → map.get (map.from_entries {R = moment_cmp} es) q ≡ lookup (is_at (moment_cmp q)) es
get_moment es q = map.get-from_entries moments_total es q ∙ find_moment es q

-- lists of entries that differ at one moment lead to maps that differ at that moment
pub one_set : (es fs : List (Moment × Bool)) (m : Moment) (down : Bool) → ((q : Moment) → lookup (is_at (moment_cmp q)) fs ≡ cond (is_at (moment_cmp m) q) (Some down) (lookup (is_at (moment_cmp q)) es)) → map.from_entries {R = moment_cmp} fs ≡ map.insert (map.from_entries es) m down
one_set es fs m down h = map.same_map moments_total exact_moments _ _ (λ q.
    get_moment fs q ∙ h q ∙ ap (λ b. cond b (Some down) (lookup (is_at (moment_cmp q)) es)) ((eq_by_cmp_equiv moments_total).symm m q)
    ∙ sym (map.get-insert moments_total (map.from_entries es) m down q ∙ ap (cond (is_at (moment_cmp q) m) (Some down)) (get_moment es q)))

pub one_removed : (es fs : List (Moment × Bool)) (m : Moment) → ((q : Moment) → lookup (is_at (moment_cmp q)) fs ≡ cond (is_at (moment_cmp m) q) None (lookup (is_at (moment_cmp q)) es)) → map.from_entries {R = moment_cmp} fs ≡ map.remove (map.from_entries es) m
one_removed es fs m h = map.same_map moments_total exact_moments _ _ (λ q.
    get_moment fs q ∙ h q ∙ ap (λ b. cond b None (lookup (is_at (moment_cmp q)) es)) ((eq_by_cmp_equiv moments_total).symm m q)
    ∙ sym (map.get-remove moments_total (map.from_entries es) m q ∙ ap (cond (is_at (moment_cmp q) m) None) (get_moment es q)))

len_by : (b : Bool) (n m : ℕ) → m ≡ n + cond b 0 1 → cond b n (n + 1) ≡ m
len_by true n m e = omega arith
len_by false n m e = omega arith

-- the number of entries equals the size of the map
pub len_set : (es fs : List (Moment × Bool)) (m : Moment) (down : Bool) → map.from_entries {R = moment_cmp} fs ≡ map.insert (map.from_entries es) m down → map.len (map.from_entries {R = moment_cmp} es) ≡ length es → length fs ≡ length es + cond (is_some (lookup (is_at (moment_cmp m)) es)) 0 1 → map.len (map.from_entries {R = moment_cmp} fs) ≡ length fs
len_set es fs m down is len more =
    ap map.len is ∙ map.len-insert moments_total (map.from_entries es) m down
    ∙ ap (λ o. cond (is_some o) (map.len (map.from_entries {R = moment_cmp} es)) (map.len (map.from_entries {R = moment_cmp} es) + 1)) (get_moment es m)
    ∙ ap (λ n. cond (is_some (lookup (is_at (moment_cmp m)) es)) n (n + 1)) len ∙ len_by (is_some (lookup (is_at (moment_cmp m)) es)) (length es) (length fs) more

pub len_removed : (es fs : List (Moment × Bool)) (m : Moment) → map.from_entries {R = moment_cmp} fs ≡ map.remove (map.from_entries es) m → map.len (map.from_entries {R = moment_cmp} es) ≡ length es → length fs + cond (is_some (lookup (is_at (moment_cmp m)) es)) 1 0 ≡ length es → map.len (map.from_entries {R = moment_cmp} fs) ≡ length fs
len_removed es fs m is len less =
    ap map.len is ∙ map.len-remove moments_total (map.from_entries es) m
    ∙ ap (λ o. cond (is_some o) (map.len (map.from_entries {R = moment_cmp} es) - 1) (map.len (map.from_entries {R = moment_cmp} es))) (get_moment es m)
    ∙ ap (λ n. cond (is_some (lookup (is_at (moment_cmp m)) es)) (n - 1) n) len ∙ less_by (is_some (lookup (is_at (moment_cmp m)) es)) (length es) (length fs) less
  where
    less_by : (b : Bool) (n m : ℕ) → m + cond b 1 0 ≡ n → cond b (n - 1) n ≡ m
    less_by true n m e = omega arith
    less_by false n m e = omega arith

-- an event is inserted where there was none, and then removed
pub set_removed : (events : map.FinMap moment_cmp Bool) (m : Moment) (down : Bool) → map.get events m ≡ None → map.remove (map.insert events m down) m ≡ events
set_removed events m down absent = map.same_map moments_total exact_moments _ _ (λ q.
    map.get-remove moments_total (map.insert events m down) m q
    ∙ ap (cond (eq_by_cmp moment_cmp q m) None) (map.get-insert moments_total events m down q)
    ∙ by_test q (moment_cmp q m) refl)
  where
    by_test : (q : Moment) (r : Ordering) → moment_cmp q m ≡ r → cond (is_eq r) None (cond (is_eq r) (Some down) (map.get events q)) ≡ map.get events q
    by_test q Less e = refl
    by_test q Equal e = sym absent ∙ ap (map.get events) (sym (exact_moments q m e))
    by_test q Greater e = refl
