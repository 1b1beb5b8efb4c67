-- The laws of a machine's trait, and lists that contain the same addresses.
use Rattle.std.proofs.Common.{◌≡◌, ℕ, Bool, true, false, eqb, List, length, get_or, refl, sym, ◌∙◌, subst}
use Rattle.std.specs.Prelude.{All, Contains, IsFalse, ◌↔◌}
use Rattle.std.proofs.lemmas.List.Folds.{list_any_at, Any-from_list_any}
use Rattle.std.proofs.lemmas.Bool.{eq-eqb, eqb-true, false≢true}
use Rattle.chip_machine.specs.Touched.{is_among}
use Rattle.chip_replay.specs.Frame.{AgreeOff, IsFramed}
use Rattle.chip_replay.specs.Limits.{memory_size}

among : (xs : List ℕ) (at : ℕ) → Contains xs at → is_among xs at ≡ true
among xs at (k, l, e) = list_any_at (λ a. eqb at a) xs k at l (eq-eqb at (get_or xs k at) (sym e))

contained : (xs : List ℕ) (at : ℕ) → is_among xs at ≡ true → Contains xs at
contained xs at e =
    let (k, x, l, there, same) = Any-from_list_any (λ a. eqb at a) xs e in
    subst (λ y. Contains xs y) (sym (eqb-true at x same)) (k, l, there)

-- lists that contain the same addresses
pub is_among-same : (xs ys : List ℕ) (at : ℕ) → (Contains xs at ↔ Contains ys at) → is_among xs at ≡ is_among ys at
is_among-same xs ys at e =
    elim (is_among xs at) as (λ b. is_among xs at ≡ b → b ≡ is_among ys at) [
      | true ↦ λ h. sym (among ys at (e.0 (contained xs at h)))
      | false ↦ λ h. elim (is_among ys at) as (λ c. is_among ys at ≡ c → false ≡ c) [
        | true ↦ λ i. absurd (false≢true (sym h ∙ among xs at (e.1 (contained ys at i))))
        | false ↦ λ i. refl
      ] refl
    ] refl

-- the memory is one part of a state
pub record IsMemory {S : Type 0} (memory : S → List ℕ) (with_memory : S → List ℕ → S) : Type 0 where
  pub read_back : (s : S) (bytes : List ℕ) → memory (with_memory s bytes) ≡ bytes
  pub same : (s : S) → with_memory s (memory s) ≡ s
  pub replaced : (s : S) (old new : List ℕ) → with_memory (with_memory s old) new ≡ with_memory s new

-- the laws of a machine, in the form that its trait requires
pub record IsTraced {S : Type 0} (memory : S → List ℕ) (with_memory : S → List ℕ → S) (proper : S → Type 0) (touches : S → List ℕ) (after : S → ℕ → Bool → S) : Type 0 where
  pub part : IsMemory memory with_memory
  pub size : (s : S) → proper s → length (memory s) ≡ memory_size
  pub changed : (s : S) (m : List ℕ) → proper s → length m ≡ memory_size → proper (with_memory s m)
  pub by_step : (s : S) (keys : ℕ) (tick : Bool) → proper s → proper (after s keys tick)
  pub frame : (set : ℕ → Bool) (keys : ℕ) (tick : Bool) (a b : S) → proper a → proper b → AgreeOff memory with_memory set a b → All (λ at. IsFalse (set at)) (touches a) → IsFramed memory with_memory (λ s. after s keys tick) touches set a b
