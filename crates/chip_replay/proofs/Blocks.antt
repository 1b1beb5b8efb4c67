-- Several steps of a run at once.
use Rattle.std.proofs.Common.{◌≡◌, ℕ, zero, suc, ◌+◌, ◌<◌, ◌≤◌, min, max, Bool, true, false, cond, List, length, slice_index, refl, sym, ap, ◌∙◌, subst, arith, inl, inr}
use Rattle.std.proofs.lemmas.Bool.{cases_lt, false≢true}
use Rattle.chip_machine.specs.Block.{block, first_noted, ticks}
use Rattle.chip_replay.specs.Limits.{last_step, memory_size, never}
use Rattle.chip_replay.specs.Run.{run}
use Rattle.chip_replay.specs.inner.Kept.{IsFirst, IsTouched}

-- step t is recorded if it passes the test
noted_by : (b : Bool) (p : ℕ → Bool) (n t v w : ℕ) → p t ≡ b → IsFirst p n v → t ≤ n → t < never → w ≡ cond b (min v t) v → IsFirst p (max n (t + 1)) w
noted_by true p n t v w passes f l small e =
    record {
      none_before = λ s ls h. elim (cases_lt s n) [ inl a ↦ omega (arith, f.none_before s a h) | inr a ↦ omega arith ];
      passes = λ lw. elim (cases_lt t v) [
        | inl a ↦ (let same : w ≡ t = omega arith in (omega arith, ap p same ∙ passes))
        | inr a ↦ (let same : w ≡ v = omega arith in (omega (arith, (f.passes (omega arith)).0), ap p same ∙ (f.passes (omega arith)).1))
      ];
    }
noted_by false p n t v w misses f l small e =
    record {
      none_before = λ s ls h. elim (cases_lt s n) [
        | inl a ↦ omega (arith, f.none_before s a h)
        | inr a ↦ (let same : t ≡ s = omega arith in absurd (false≢true (sym misses ∙ ap p same ∙ h)))
      ];
      passes = λ lw. (let before = f.passes (omega arith) in (omega (arith, before.0), ap p e ∙ before.1));
    }

module _ {S : Type 0} (after : S → ℕ → Bool → S) (touches : S → ℕ → Bool) (rate : ℕ) (held : ℕ → ℕ) (start : S) (at : ℕ) (s : S) (here : s ≡ run after rate held start at) where
  abbrev pub state : ℕ → S
  state = run after rate held start

  -- the state after n steps from a state of the run
  pub block_is : (n : ℕ) → block after rate held at s n ≡ state (at + n)
  block_is zero = let place : at ≡ at + 0 = omega arith in here ∙ ap state place
  block_is (suc n) =
      let place : suc (at + n) ≡ at + suc n = omega arith in
      ap (λ x. after x (held (at + n)) (ticks rate (at + n))) (block_is n) ∙ ap state place

  first_is : (reach a v n : ℕ) → at + n ≤ last_step → IsFirst (λ t. touches (state t) a) (max reach at) v → IsFirst (λ t. touches (state t) a) (max reach (at + n))
      (first_noted after rate held at s touches a v n)
  first_is reach a v zero small f =
      let same : max reach at ≡ max reach (at + 0) = omega arith in
      subst (λ m. IsFirst (λ t. touches (state t) a) m v) same f
  first_is reach a v (suc n) small f =
      let known = first_is reach a v n (omega arith) f in
      let known_now = first_noted after rate held at s touches a v n in
      let later = first_noted after rate held at s touches a v (suc n) in
      let is : touches (block after rate held at s n) a ≡ touches (state (at + n)) a = ap (λ x. touches x a) (block_is n) in
      let more = noted_by (touches (state (at + n)) a) (λ t. touches (state t) a) (max reach (at + n)) (at + n) known_now later refl known (omega arith) (omega arith) (ap (λ b. cond b (min known_now (at + n)) known_now) is) in
      let same : max (max reach (at + n)) (at + n + 1) ≡ max reach (at + suc n) = omega arith in
      subst (λ m. IsFirst (λ t. touches (state t) a) m later) same more

  -- the table after n steps
  pub table_block : (reach n : ℕ) (table later : List ℕ) → at + n ≤ last_step → length later ≡ memory_size
      → ((a : ℕ) → a < memory_size → slice_index later a ≡ first_noted after rate held at s touches a (slice_index table a) n) → IsTouched touches state (max reach at) table
      → IsTouched touches state (max reach (at + n)) later
  table_block reach n table later small size noted known =
      record {
        size = size;
        first = λ a l.
            subst (λ v. IsFirst (λ t. touches (state t) a) (max reach (at + n)) v) (sym (noted a l))
            (first_is reach a (slice_index table a) n small (known.first a l));
      }
