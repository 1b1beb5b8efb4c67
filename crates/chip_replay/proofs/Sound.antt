-- The kept run after more steps.
use Rattle.std.proofs.Common.{◌≡◌, ℕ, zero, suc, ◌+◌, ◌-◌, ◌*◌, ◌/◌, ◌<◌, ◌≤◌, min, Bool, true, false, cond, List, [], ◌∷◌, ◌++◌, length, slice_index, slice_index_or, refl, sym, ap, ◌∙◌, subst, arith, add-one, inl, inr}
use Rattle.std.proofs.lemmas.List.{length_push, get_or_append_left, get_or_push}
use Rattle.std.proofs.lemmas.Bool.{cases_lt}
use Rattle.std.proofs.lemmas.Bool.Decides.{nat_tests}
use Rattle.std.proofs.Math.Nat.{suc-mul, mul-le-mul_right}
use Rattle.std.proofs.lemmas.Nat.{le-div}
use Rattle.chip_replay.proofs.Spaced.{multiple_within, div_mono}
use Rattle.chip_replay.specs.Limits.{last_step}
use Rattle.chip_machine.specs.Block.{ticks}
use Rattle.chip_replay.specs.Run.{run, IsStill}
use Rattle.chip_replay.specs.inner.Kept.{IsTouched, AreCheckpoints, is_due}

module _ {M : Type 0} (after : M → ℕ → Bool → M) (rate : ℕ) (held : ℕ → ℕ) (start : M) where
  -- a state that doesn't change under the keys held in some steps is also the state after them
  pub stays_under : (a n : ℕ) → ((t : ℕ) → a ≤ t → t < a + n → (tick : Bool) → after (run after rate held start a) (held t) tick ≡ run after rate held start a) → run after rate held start (a + n) ≡ run after rate held start a
  stays_under a zero still = let place : a + 0 ≡ a = omega arith in ap (run after rate held start) place
  stays_under a (suc n) still =
      let place : a + suc n ≡ suc (a + n) = omega arith in
      ap (run after rate held start) place
      ∙ ap (λ s. after s (held (a + n)) (ticks rate (a + n))) (stays_under a n (λ t l m. still t l (omega (arith, m))))
      ∙ still (a + n) (omega arith) (omega arith) (ticks rate (a + n))

  -- a state that no step changes is also the state of each later step
  pub stays_to : (a t : ℕ) → IsStill after (run after rate held start a) → a ≤ t → run after rate held start t ≡ run after rate held start a
  stays_to a t still l = let place : t ≡ a + (t - a) = omega arith in ap (run after rate held start) place ∙ stays_under a (t - a) (λ s low high. still (held s))

-- the first touches below a step are also those below m, if each address touched by a step in between
-- already has a first touch
pub table_same : {M : Type 0} (touches : M → ℕ → Bool) (state : ℕ → M) (table : List ℕ) (reach m : ℕ) → IsTouched touches state reach table → reach ≤ m
    → ((s a : ℕ) → reach ≤ s → s < m → touches (state s) a ≡ true → slice_index table a < reach) → IsTouched touches state m table
table_same touches state table reach m known l noted =
    record {
      size = known.size;
      first = λ at la.
          (let was = known.first at la in
          record {
            none_before = λ s ls h. elim (cases_lt s reach) [
              | inl a ↦ was.none_before s a h
              | inr a ↦ (let before : slice_index table at < reach = noted s at a ls h in omega (arith, before, a))
            ];
            passes = λ lv. (let before = was.passes lv in (omega (arith, before.0), before.1));
          });
    }

due_parts : (p n at m : ℕ) → is_due p n at m ≡ true → (at ≤ (n + 1) * p) × ((n + 1) * p ≤ m) × ((n + 1) * p < at + p)
due_parts p n at m e = grind (arith, nat_tests)

not_due : (p n at m : ℕ) → is_due p n at m ≡ false → at ≤ (n + 1) * p → (n + 1) * p ≤ m → at + p ≤ (n + 1) * p
not_due p n at m e l h = grind (arith, nat_tests)

module _ {M : Type 0} (proper : M → Type 0) (after : M → ℕ → Bool → M) (rate : ℕ) (held : ℕ → ℕ) (start : M) (p reach : ℕ) (cs : List M)
    (are : AreCheckpoints proper after (run after rate held start) p reach cs) where
  abbrev state : ℕ → M
  state = run after rate held start

  -- the start state, or the checkpoint with a number, counted from 1
  near : (k : ℕ) (r : M) → k ≤ length cs → (k ≡ 0 → r ≡ state 0) → ((i : ℕ) → k ≡ i + 1 → r ≡ slice_index_or cs i r) → r ≡ state (k * p)
  near zero r l none some = let first : 0 ≡ 0 * p = omega arith in none refl ∙ ap state first
  near (suc i) r l none some =
      some i (sym (add-one i)) ∙ are.each i r (omega arith) ∙ ap (λ n. state (n * p)) (add-one i)

  pub nearest_is : (place : ℕ) (r : M) → place ≤ reach / p → (min place (length cs) ≡ 0 → r ≡ state 0) → ((i : ℕ) → min place (length cs) ≡ i + 1 → r ≡ slice_index_or cs i r) → r ≡ state (place * p)
  nearest_is place r l none some =
      near (min place (length cs)) r (omega arith) none some
      ∙ elim (cases_lt (length cs) place) [
        | inl a ↦ (
            let last : min place (length cs) ≡ length cs = omega arith in
            let later : length cs * p ≤ place * p = mul-le-mul_right p (omega arith) in
            ap (λ n. state (n * p)) last ∙ sym (stays_to after rate held start (length cs * p) (place * p) (are.ends_still (omega arith)) later))
        | inr a ↦ (let same : min place (length cs) ≡ place = omega arith in ap (λ n. state (n * p)) same)
      ]

  -- the run is known up to m, and c is the state of each step from `at` onwards
  module _ (above : 0 < p) (at m : ℕ) (low : at ≤ (reach / p + 1) * p) (further : reach < m) (within : at ≤ m) (small : m ≤ last_step) (c : M) (here : c ≡ state at)
      (stay : at < m → IsStill after c) where
    is_at : (t : ℕ) → at ≤ t → t ≤ m → c ≡ state t
    is_at t l u = elim (cases_lt at t) [
      | inl a ↦ here ∙ sym (stays_to after rate held start at t (subst (IsStill after) here (stay (omega arith))) l)
      | inr a ↦ (let same : at ≡ t = omega arith in here ∙ ap state same)
    ]

    still_at : (t : ℕ) → at ≤ t → t ≤ m → at < m → IsStill after (state t)
    still_at t l u before = subst (IsStill after) (is_at t l u) (stay before)

    -- a checkpoint is due and kept, or no checkpoint is due
    more_by : (b : Bool) → is_due p (length cs) at m ≡ b → AreCheckpoints proper after state p m (cond b (cs ++ c ∷ []) cs)
    more_by true test =
        let parts = due_parts p (length cs) at m test in
        let more : length (cs ++ c ∷ []) ≡ length cs + 1 = length_push cs c in
        record {
          proper_start = are.proper_start;
          in_range = small;
          few = omega (arith, more, le-div (length cs + 1) m p above parts.1);
          each = λ i d li. elim (cases_lt i (length cs)) [
            | inl a ↦ get_or_append_left cs (c ∷ []) d i a ∙ are.each i d a
            | inr a ↦ (
                let last : length cs ≡ i = omega (arith, more) in
                get_or_push cs c d i last ∙ is_at ((length cs + 1) * p) parts.0 parts.1 ∙ ap (λ n. state ((n + 1) * p)) last)
          ];
          ends_still = λ fewer.
              (let next : (length cs + 1 + 1) * p ≤ m = multiple_within (length cs + 1) m p (omega (arith, more)) in
              subst (λ n. IsStill after (state (n * p))) (sym more) (still_at ((length cs + 1) * p) parts.0 parts.1 (omega (arith, parts.0, suc-mul (length cs + 1) p))));
        }
    more_by false test =
        record {
          proper_start = are.proper_start;
          in_range = small;
          few = omega (arith, are.few, div_mono reach m p above (omega arith));
          each = are.each;
          ends_still = λ fewer.
              (let next : (length cs + 1) * p ≤ m = multiple_within (length cs) m p fewer in
              let more : (length cs + 1) * p ≡ length cs * p + p = omega (arith, suc-mul (length cs) p) in
              elim (cases_lt ((length cs + 1) * p) at) [
                | inl a ↦ elim (cases_lt (length cs) (reach / p)) [
                  | inl b ↦ are.ends_still b
                  | inr b ↦ (
                      let most : (reach / p + 1) * p ≤ (length cs + 1) * p = mul-le-mul_right p (omega arith) in
                      absurd (omega arith))
                ]
                | inr a ↦ (
                    let early : at + p ≤ (length cs + 1) * p = not_due p (length cs) at m test a next in
                    still_at (length cs * p) (omega arith) (omega arith) (omega arith))
              ]);
        }

    pub checkpoints_more : (cs' : List M) → cs' ≡ cond (is_due p (length cs) at m) (cs ++ c ∷ []) cs → AreCheckpoints proper after state p m cs'
    checkpoints_more cs' kept = subst (AreCheckpoints proper after state p m) (sym kept) (more_by _ refl)
