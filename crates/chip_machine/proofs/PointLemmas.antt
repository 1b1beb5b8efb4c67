-- Sets of points, by their members. Two sets with the same points are equal.
use Rattle.std.proofs.Common.{◌≡◌, ℕ, zero, suc, ◌+◌, ◌<◌, ◌≤◌, Bool, true, false, not, ◌&&◌, ◌||◌, ◌==◌, nat_le, nat_eq, ◌-◌, map, refl, sym, ap, subst, ◌∙◌, arith, ◌⊎◌, add-one, ⊎_elim}
use Rattle.std.proofs.Math.Bool.{or-false}
use Rattle.std.specs.List.{list_any, flat_map, range_with_len}
use Rattle.std.specs.Ordering.{eq_by_cmp, nat_cmp}
use Rattle.std.specs.Cmp.{IsTotalOrder, nat_cmp_total, tied_then, unsigned_tied}
use Rattle.std.specs.FinSet as set
use Rattle.std.specs.FinSet.{same_set, contains-from_list, contains-retain, contains-union, contains-difference, contains-intersection, contains-empty, empty_of_len, len-empty}
use Rattle.std.proofs.lemmas.Cmp.{then_total, on_total}
use Rattle.std.proofs.lemmas.Map.Lookups.{CmpEqualImpliesEq, exact_pairs, exact_unsigned}
use Rattle.std.proofs.lemmas.Bool.{false≢true, or_cases, and_parts, and_from, or_left, or_right, or_parts, eqb-true, eq-eqb, cases_Bool, false_from_ne_true, true_from_ne_false, not-false, and_left, cases_lt, cases_eq, le-leb}
use Rattle.std.proofs.lemmas.List.Folds.{list_any-append}
use Rattle.chip_machine.specs.Scroll.{scrolled_down, scrolled_right, scrolled_left}
use Rattle.chip_machine.specs.Points.{Point, Points, point_cmp, is_lit, rectangle, points_where, symmetric_difference, meets, IsOnScreen}
use Rattle.chip_machine.specs.inner.Stored.{differ, any_below}

pub point_total : IsTotalOrder point_cmp
point_total = then_total (on_total (λ (p : Point). p.0) nat_cmp_total) (on_total (λ (p : Point). p.1) nat_cmp_total)

pub exact_points : CmpEqualImpliesEq point_cmp
exact_points = exact_pairs nat_cmp nat_cmp exact_unsigned exact_unsigned

-- two sets with the same points
pub same_points : (a b : Points) → ((column row : ℕ) → is_lit a column row ≡ is_lit b column row) → a ≡ b
same_points a b h = same_set point_total exact_points a b (λ q. h q.0 q.1)

same_place : (p q : Point) → eq_by_cmp point_cmp p q ≡ (p.0 == q.0 && p.1 == q.1)
same_place p q = sym (tied_then (nat_cmp p.0 q.0) (nat_cmp p.1 q.1)) ∙ (λ i. unsigned_tied p.0 q.0 i && unsigned_tied p.1 q.1 i)

-- the points in a row
in_row : (c r row a n : ℕ) → list_any (eq_by_cmp point_cmp (c, r)) (map (λ column. (column, row)) (range_with_len a n)) ≡ true → (r ≡ row) × (a ≤ c) × (c < a + n)
in_row c r row a zero e = absurd (false≢true e)
in_row c r row a (suc n) e = ⊎_elim
    (λ here. let both = and_parts (c == a) (r == row) (sym (same_place (c, r) (a, row)) ∙ here) in
    let at : c ≡ a = eqb-true c a both.0 in
    (eqb-true r row both.1, omega arith, omega arith))
    (λ later. let rest = in_row c r row (a + 1) n later in (rest.0, omega arith, omega arith))
    (or_cases _ _ e)

from_row : (c r a n : ℕ) → a ≤ c → c < a + n → list_any (eq_by_cmp point_cmp (c, r)) (map (λ column. (column, r)) (range_with_len a n)) ≡ true
from_row c r a zero low high = absurd (omega arith)
from_row c r a (suc n) low high = ⊎_elim
    (λ here. or_left _ _ (same_place (c, r) (a, r) ∙ and_from (c == a) (r == r) (eq-eqb c a here) (eq-eqb r r refl)))
    (λ later. let up : a + 1 ≤ c = omega arith in or_right _ _ (from_row c r (a + 1) n up (omega arith)))
    (cases_eq c a)

in_rows : (c r w a n : ℕ) → list_any (eq_by_cmp point_cmp (c, r)) (flat_map (λ row. map (λ column. (column, row)) (range_with_len 0 w)) (range_with_len a n)) ≡ true → (c < w) × (a ≤ r) × (r < a + n)
in_rows c r w a zero e = absurd (false≢true e)
in_rows c r w a (suc n) e = ⊎_elim
    (λ here. let found = in_row c r a 0 w here in (omega (arith, found.2), omega (arith, found.0), omega (arith, found.0)))
    (λ later. let rest = in_rows c r w (a + 1) n later in (rest.0, omega arith, omega arith))
    (or_cases _ _ (sym (list_any-append (eq_by_cmp point_cmp (c, r)) (map (λ column. (column, a)) (range_with_len 0 w)) _) ∙ e))

from_rows : (c r w a n : ℕ) → c < w → a ≤ r → r < a + n → list_any (eq_by_cmp point_cmp (c, r)) (flat_map (λ row. map (λ column. (column, row)) (range_with_len 0 w)) (range_with_len a n)) ≡ true
from_rows c r w a zero left low high = absurd (omega arith)
from_rows c r w a (suc n) left low high =
    list_any-append (eq_by_cmp point_cmp (c, r)) (map (λ column. (column, a)) (range_with_len 0 w)) (flat_map (λ row. map (λ column. (column, row)) (range_with_len 0 w)) (range_with_len (a + 1) n))
    ∙ ⊎_elim
    (λ (here : r ≡ a). or_left _ _ (subst (λ row. list_any (eq_by_cmp point_cmp (c, r)) (map (λ column. (column, row)) (range_with_len 0 w)) ≡ true) here (from_row c r 0 w (omega arith) (omega arith))))
    (λ later. let up : a + 1 ≤ r = omega arith in or_right _ _ (from_rows c r w (a + 1) n left up (omega arith)))
    (cases_eq r a)

-- a rectangle contains the points whose column and row are within it
pub within_rectangle : (w h c r : ℕ) → is_lit (rectangle w h) c r ≡ true → (c < w) × (r < h)
unfolding rectangle
within_rectangle w h c r e =
    let found = in_rows c r w 0 h (sym (contains-from_list point_total _ (c, r)) ∙ e) in (found.0, omega (arith, found.2))

pub is_lit-rectangle : (w h c r : ℕ) → c < w → r < h → is_lit (rectangle w h) c r ≡ true
unfolding rectangle
is_lit-rectangle w h c r left high = contains-from_list point_total _ (c, r) ∙ from_rows c r w 0 h left (omega arith) (omega arith)

-- ---- the points that pass a test

is_lit_where : (test : ℕ → ℕ → Bool) (c r : ℕ) → is_lit (points_where test) c r ≡ (is_lit (rectangle 128 64) c r && test c r)
unfolding points_where
is_lit_where test c r = contains-retain (rectangle 128 64) (λ p. test p.0 p.1) (c, r) (λ x e. let same = exact_points (c, r) x e in ap (λ (p : Point). test p.0 p.1) (sym same))

pub is_lit-points_where : (test : ℕ → ℕ → Bool) (c r : ℕ) → c < 128 → r < 64 → is_lit (points_where test) c r ≡ test c r
is_lit-points_where test c r left high = is_lit_where test c r ∙ ap (λ b. b && test c r) (is_lit-rectangle 128 64 c r left high)

-- outside the screen, no pixel is lit
pub dark_outside : (test : ℕ → ℕ → Bool) (c r : ℕ) → ((c < 128) × (r < 64) → ⊥) → is_lit (points_where test) c r ≡ false
dark_outside test c r out =
    is_lit_where test c r ∙ ap (λ b. b && test c r) (false_from_ne_true _ (λ e. out (within_rectangle 128 64 c r e)))

-- a set equals the points that pass a test if both agree on the screen and the set has no point outside
pub same_where : (s : Points) (test : ℕ → ℕ → Bool)
    → ((c r : ℕ) → c < 128 → r < 64 → test c r ≡ is_lit s c r)
    → ((c r : ℕ) → ((c < 128) × (r < 64) → ⊥) → is_lit s c r ≡ false)
    → points_where test ≡ s
same_where s test on off =
    same_points (points_where test) s
    (λ c r. ⊎_elim
    (λ left. ⊎_elim
    (λ high. is_lit-points_where test c r left high ∙ on c r left high)
    (λ low. let out : (c < 128) × (r < 64) → ⊥ = λ (p : (c < 128) × (r < 64)). omega (arith, p.1) in dark_outside test c r out ∙ sym (off c r out))
    (cases_lt r 64))
    (λ right. let out : (c < 128) × (r < 64) → ⊥ = λ (p : (c < 128) × (r < 64)). omega (arith, p.0) in dark_outside test c r out ∙ sym (off c r out))
    (cases_lt c 128))

-- two tests that agree on the screen
pub points_where_alike : (f g : ℕ → ℕ → Bool) → ((c r : ℕ) → c < 128 → r < 64 → f c r ≡ g c r) → points_where f ≡ points_where g
points_where_alike f g h =
    same_where (points_where g) f (λ c r left high. h c r left high ∙ sym (is_lit-points_where g c r left high)) (dark_outside g)

-- a screen on which no point is lit
pub nothing_lit : (f : ℕ → ℕ → Bool) → ((c r : ℕ) → c < 128 → r < 64 → f c r ≡ false) → points_where f ≡ set.empty
nothing_lit f h = same_where set.empty f (λ c r left high. h c r left high ∙ sym (contains-empty point_cmp (c, r))) (λ c r _. contains-empty point_cmp (c, r))

-- ---- the pixels after a sprite is drawn

one_of_two : (a b : Bool) → ((a && not b) || (b && not a)) ≡ differ a b
one_of_two true true = refl
one_of_two true false = refl
one_of_two false true = refl
one_of_two false false = refl

pub is_lit-symmetric_difference : (s t : Points) (c r : ℕ) → is_lit (symmetric_difference s t) c r ≡ differ (is_lit s c r) (is_lit t c r)
unfolding symmetric_difference
is_lit-symmetric_difference s t c r =
    contains-union point_total (set.difference s t) (set.difference t s) (c, r)
    ∙ (λ i. contains-difference point_total s t (c, r) i || contains-difference point_total t s (c, r) i)
    ∙ one_of_two (is_lit s c r) (is_lit t c r)

pub toggled_where : (f g h : ℕ → ℕ → Bool) → ((c r : ℕ) → c < 128 → r < 64 → f c r ≡ differ (g c r) (h c r))
    → points_where f ≡ symmetric_difference (points_where g) (points_where h)
toggled_where f g h e =
    same_where (symmetric_difference (points_where g) (points_where h)) f
    (λ c r left high. e c r left high
    ∙ (λ i. differ (sym (is_lit-points_where g c r left high) i) (sym (is_lit-points_where h c r left high) i))
    ∙ sym (is_lit-symmetric_difference (points_where g) (points_where h) c r))
    (λ c r out. is_lit-symmetric_difference (points_where g) (points_where h) c r
    ∙ (λ i. differ (dark_outside g c r out i) (dark_outside h c r out i)))

-- ---- collisions

none_in_common : (s t : Points) → meets s t ≡ false → (c r : ℕ) → (is_lit s c r && is_lit t c r) ≡ false
unfolding meets
none_in_common s t e c r =
    let none : set.intersection s t ≡ set.empty = empty_of_len (set.intersection s t) (eqb-true _ 0 (not-false _ e)) in
    sym (contains-intersection point_total s t (c, r)) ∙ ap (λ u. is_lit u c r) none ∙ contains-empty point_cmp (c, r)

meets_none : (s t : Points) → ((c r : ℕ) → (is_lit s c r && is_lit t c r) ≡ false) → meets s t ≡ false
unfolding meets
meets_none s t h =
    let none : set.intersection s t ≡ set.empty = same_points (set.intersection s t) set.empty (λ c r. contains-intersection point_total s t (c, r) ∙ h c r ∙ sym (contains-empty point_cmp (c, r))) in
    ap (λ u. not (nat_eq (set.len u) 0)) none ∙ ap (λ n. not (nat_eq n 0)) (len-empty point_cmp)

-- whether some point passes both tests, given an answer that is false if and only if no point does
pub meets_where : (f g : ℕ → ℕ → Bool) (hit : Bool)
    → (hit ≡ false → (c r : ℕ) → c < 128 → r < 64 → (f c r && g c r) ≡ false)
    → (((c r : ℕ) → c < 128 → r < 64 → (f c r && g c r) ≡ false) → hit ≡ false)
    → hit ≡ meets (points_where f) (points_where g)
meets_where f g hit none only =
    ⊎_elim
    (λ (yes : meets (points_where f) (points_where g) ≡ true). true_from_ne_false hit (λ no. false≢true (sym (meets_none _ _ (apart (none no))) ∙ yes)) ∙ sym yes)
    (λ (no : meets (points_where f) (points_where g) ≡ false). only (λ c r left high. (λ i. sym (is_lit-points_where f c r left high) i && sym (is_lit-points_where g c r left high) i) ∙ none_in_common (points_where f) (points_where g) no c r) ∙ sym no)
    (cases_Bool (meets (points_where f) (points_where g)))
  where
    apart : ((c r : ℕ) → c < 128 → r < 64 → (f c r && g c r) ≡ false) → (c r : ℕ) → (is_lit (points_where f) c r && is_lit (points_where g) c r) ≡ false
    apart h c r = ⊎_elim
        (λ left. ⊎_elim
        (λ high. (λ i. is_lit-points_where f c r left high i && is_lit-points_where g c r left high i) ∙ h c r left high)
        (λ low. and_left _ _ (dark_outside f c r (λ (p : (c < 128) × (r < 64)). omega (arith, p.1))))
        (cases_lt r 64))
        (λ right. and_left _ _ (dark_outside f c r (λ (p : (c < 128) × (r < 64)). omega (arith, p.0))))
        (cases_lt c 128)

-- ---- a test at each number below n

pub any_below-false : (test : ℕ → Bool) (n : ℕ) → any_below test n ≡ false → (k : ℕ) → k < n → test k ≡ false
unfolding any_below
any_below-false test zero e k h = absurd (omega arith)
any_below-false test (suc n) e k h =
    let parts = or_parts (any_below test n) (test n) e in
    ⊎_elim
    (λ (at : k ≡ n). ap test at ∙ parts.1)
    (λ (other : k ≡ n → ⊥). any_below-false test n parts.0 k (omega arith))
    (cases_eq k n)

pub any_below_none : (test : ℕ → Bool) (n : ℕ) → ((k : ℕ) → k < n → test k ≡ false) → any_below test n ≡ false
unfolding any_below
any_below_none test zero h = refl
any_below_none test (suc n) h = or_from_false (any_below test n) (test n) (any_below_none test n (λ k lt. h k (omega arith))) (h n (omega arith))
  where
    or_from_false : (a b : Bool) → a ≡ false → b ≡ false → (a || b) ≡ false
    or_from_false a b p q = λ i. p i || q i

pub any_below_first : (test : ℕ → Bool) (b : Bool) → (any_below test 0 || b) ≡ b
unfolding any_below
any_below_first test b = refl

pub any_below_more : (test : ℕ → Bool) (n : ℕ) → any_below test (n + 1) ≡ (any_below test n || test n)
unfolding any_below
any_below_more test n = rw add-one refl

pub any_below_same : (f g : ℕ → Bool) (n : ℕ) → ((k : ℕ) → k < n → f k ≡ g k) → any_below f n ≡ any_below g n
unfolding any_below
any_below_same f g zero h = refl
any_below_same f g (suc n) h = λ i. any_below_same f g n (λ k lt. h k (omega arith)) i || h n (omega arith) i

-- a test that no number from n to m passes
pub any_below_longer : (test : ℕ → Bool) (n m : ℕ) → n ≤ m → ((k : ℕ) → n ≤ k → k < m → test k ≡ false) → any_below test n ≡ any_below test m
unfolding any_below
any_below_longer test n zero h none = let e : n ≡ zero = omega arith in ap (any_below test) e
any_below_longer test n (suc m) h none = ⊎_elim
    (λ (at : n ≡ suc m). ap (any_below test) at)
    (λ (other : n ≡ suc m → ⊥).
    any_below_longer test n m (omega arith) (λ k low high. none k low (omega arith))
    ∙ sym (or-false (any_below test m))
    ∙ ap (λ b. any_below test m || b) (sym (none m (omega arith) (omega arith))))
    (cases_eq n (suc m))

-- ---- scrolls

pub scrolled_down_where : (n : ℕ) (f g : ℕ → ℕ → Bool) → ((c r : ℕ) → c < 128 → r < 64 → f c r ≡ (nat_le n r && g c (r - n))) → points_where f ≡ scrolled_down n (points_where g)
unfolding scrolled_down
scrolled_down_where n f g h = points_where_alike f (λ c r. nat_le n r && is_lit (points_where g) c (r - n))
    (λ c r left high. h c r left high ∙ ap (λ b. nat_le n r && b) (sym (is_lit-points_where g c (r - n) left (omega arith))))

pub scrolled_right_where : (n : ℕ) (f g : ℕ → ℕ → Bool) → ((c r : ℕ) → c < 128 → r < 64 → f c r ≡ (nat_le n c && g (c - n) r)) → points_where f ≡ scrolled_right n (points_where g)
unfolding scrolled_right
scrolled_right_where n f g h = points_where_alike f (λ c r. nat_le n c && is_lit (points_where g) (c - n) r)
    (λ c r left high. h c r left high ∙ ap (λ b. nat_le n c && b) (sym (is_lit-points_where g (c - n) r (omega arith) high)))

pub scrolled_left_where : (n : ℕ) (f g : ℕ → ℕ → Bool) → ((c r : ℕ) → c + n < 128 → r < 64 → f c r ≡ g (c + n) r) → ((c r : ℕ) → c < 128 → 128 ≤ c + n → r < 64 → f c r ≡ false) → points_where f ≡ scrolled_left n (points_where g)
unfolding scrolled_left
scrolled_left_where n f g kept entered = points_where_alike f (λ c r. is_lit (points_where g) (c + n) r)
    (λ c r left high. ⊎_elim
    (λ (inside : c + n < 128). kept c r inside high ∙ sym (is_lit-points_where g (c + n) r inside high))
    (λ (out : 128 ≤ c + n). entered c r left out high ∙ sym (dark_outside g (c + n) r (λ (p : (c + n < 128) × (r < 64)). omega (arith, p.0))))
    (cases_lt (c + n) 128))

-- ---- no point is outside the screen

pub on_screen-points_where : (test : ℕ → ℕ → Bool) → IsOnScreen (points_where test)
on_screen-points_where test c r e = within_rectangle 128 64 c r (and_parts _ (test c r) (sym (is_lit_where test c r) ∙ e)).0

-- ---- a scroll moves each lit pixel to its new place, if that place is on the screen

pub moved_down : (n : ℕ) (lit : Points) (c r : ℕ) → c < 128 → r + n < 64 → is_lit (scrolled_down n lit) c (r + n) ≡ is_lit lit c r
unfolding scrolled_down
moved_down n lit c r left high =
    let back : r + n - n ≡ r = omega arith in
    is_lit-points_where (λ c r. nat_le n r && is_lit lit c (r - n)) c (r + n) left high
    ∙ (λ i. le-leb n (r + n) (omega arith) i && is_lit lit c (back i))

pub moved_right : (n : ℕ) (lit : Points) (c r : ℕ) → c + n < 128 → r < 64 → is_lit (scrolled_right n lit) (c + n) r ≡ is_lit lit c r
unfolding scrolled_right
moved_right n lit c r left high =
    let back : c + n - n ≡ c = omega arith in
    is_lit-points_where (λ c r. nat_le n c && is_lit lit (c - n) r) (c + n) r left high
    ∙ (λ i. le-leb n (c + n) (omega arith) i && is_lit lit (back i) r)

pub moved_left : (n : ℕ) (lit : Points) (c r : ℕ) → n ≤ c → c < 128 → r < 64 → is_lit (scrolled_left n lit) (c - n) r ≡ is_lit lit c r
unfolding scrolled_left
moved_left n lit c r from left high =
    let back : c - n + n ≡ c = omega arith in
    is_lit-points_where (λ c r. is_lit lit (c + n) r) (c - n) r (omega arith) high ∙ ap (λ column. is_lit lit column r) back
