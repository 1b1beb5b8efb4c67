-- The small machine that tests a replay.
-- Source: chosen by this project.
--     ToyState, toy_after, toy_touches     the machine, whose step adds the byte at the counter to a
--                                          sum and 1 to the counter
--     toy_framed                           the frame law of the machine
use Rattle.std.specs.Prelude.{◌≡◌, ℕ, ◌+◌, ◌%◌, ◌^◌, Bool, List, [], ◌∷◌, All, IsFalse, length, slice_index, refl}
use Rattle.std.specs.Coded.{Coded, code_by, coded×, coded_ℕ, coded_list}
use Rattle.std.proofs.Common.{ap, ◌∙◌, sym, arith}
use Rattle.chip_replay.specs.Limits.{memory_size}
use Rattle.chip_replay.specs.Frame.{AgreeOff, IsFramed}

pub record ToyState : Type 0 where
  pub bytes : List ℕ
  pub counter : ℕ
  pub sum : ℕ

abbrev pub toy_code : Coded ToyState
toy_code =
    code_by (List ℕ × (ℕ × ℕ)) (coded× (coded_list coded_ℕ) (coded× coded_ℕ coded_ℕ))
    (λ s. (s.bytes, (s.counter, s.sum))) (λ p. record { bytes = p.0; counter = p.1.0; sum = p.1.1 })
    (λ _. refl)

abbrev pub toy_memory : ToyState → List ℕ
toy_memory s = s.bytes

abbrev pub toy_with_memory : ToyState → List ℕ → ToyState
toy_with_memory s bytes = record s { bytes = bytes }

abbrev pub IsToy : ToyState → Type 0
IsToy s = length s.bytes ≡ memory_size

abbrev pub toy_touches : ToyState → List ℕ
toy_touches s = s.counter % memory_size ∷ []

abbrev pub toy_after : ToyState → ℕ → Bool → ToyState
toy_after s keys tick =
    record {
      bytes = s.bytes;
      counter = (s.counter + 1) % 2 ^ 64;
      sum = (s.sum + slice_index s.bytes (s.counter % memory_size)) % 256;
    }

-- the frame law for a step of two states that agree outside a set
abbrev pub ToyFramed : (ℕ → Bool) → ℕ → Bool → ToyState → ToyState → Type 0
ToyFramed set keys tick a b =
    IsFramed toy_memory toy_with_memory (λ s. toy_after s keys tick) toy_touches set a b

pub toy_framed : (set : ℕ → Bool) (keys : ℕ) (tick : Bool) (a b : ToyState) → IsToy a → IsToy b
    → AgreeOff toy_memory toy_with_memory set a b → All (λ at. IsFalse (set at)) (toy_touches a)
    → ToyFramed set keys tick a b
toy_framed set keys tick a b pa pb agree misses =
    let counter : a.counter ≡ b.counter = ap (λ (s : ToyState). s.counter) agree.rest in
    let sum : a.sum ≡ b.sum = ap (λ (s : ToyState). s.sum) agree.rest in
    let same : slice_index a.bytes (a.counter % memory_size)
    ≡ slice_index b.bytes (a.counter % memory_size)
    = agree.bytes (a.counter % memory_size) (misses 0 0 (omega arith)) in
    let read : slice_index a.bytes (a.counter % memory_size)
    ≡ slice_index b.bytes (b.counter % memory_size)
    = same ∙ ap (λ n. slice_index b.bytes (n % memory_size)) counter in
    record {
      same_touches = ap (λ n. n % memory_size ∷ []) (sym counter);
      still_agree = record {
        rest =
            ap
            (λ (n : ℕ). let t : ToyState = record {
              bytes = b.bytes;
              counter = (n + 1) % 2 ^ 64;
              sum = (a.sum + slice_index a.bytes (a.counter % memory_size)) % 256;
            } in t) counter
            ∙ ap
            (λ (n : ℕ). let t : ToyState = record {
              bytes = b.bytes;
              counter = (b.counter + 1) % 2 ^ 64;
              sum = (n + slice_index a.bytes (a.counter % memory_size)) % 256;
            } in t) sum
            ∙ ap
            (λ (n : ℕ). let t : ToyState = record {
              bytes = b.bytes;
              counter = (b.counter + 1) % 2 ^ 64;
              sum = (b.sum + n) % 256;
            } in t) read;
        bytes = agree.bytes;
      };
      first_keeps = λ at on. refl;
      second_keeps = λ at on. refl;
    }
