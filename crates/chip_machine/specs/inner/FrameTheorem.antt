-- Proofs, which a reader may skip: the frame law holds, and a step preserves that a state is proper.
-- The cases are what the instruction needs from memory: nothing, bytes that it reads, or bytes that
-- it writes.
-- Source: chosen by this project.
use Rattle.std.proofs.Common.{◌≡◌, ℕ, ◌+◌, ◌-◌, ◌<◌, ◌≤◌, Bool, true, false, IsFalse, List, [], ◌∷◌, length, take, drop, get_or, refl, sym, ap, ◌∙◌, arith, Some, suc, subst, Result, Ok, Err, nat_lt, is_some, if◌then◌else◌, inl, inr}
use Rattle.std.specs.List.{range_with_len}
use Rattle.std.proofs.lemmas.Bool.{cases_Bool}
use Rattle.std.proofs.lemmas.Bool.Decides.{nat_tests}
use Rattle.std.proofs.lemmas.List.{places}
use Rattle.std.proofs.lemmas.List.FromFn.{get_or-range_with_len, length-range_with_len}
use Rattle.std.proofs.lemmas.Grind.{same_number_lists}
use Rattle.chip_lang.specs.Decoding.{decode_of}
use Rattle.chip_lang.specs.declared.limits.TheConstants.{MEMORY_BYTES}
use Rattle.chip_machine.specs.declared.limits.TheConstants.{LAST_WORD}
use Rattle.chip_machine.specs.declared.stop.Stop.{Stop}
use Rattle.chip_machine.specs.declared.stop.Stop.TheVariants as cause
use Rattle.chip_machine.specs.State.{Core, State, overwrite}
use Rattle.chip_machine.specs.Step.{Effect, Stops, Changes, Keyed, Loads, Stores, perform, accessed, is_past, settle, step_of, touches, effect_at, effect_of_word, word_at, ticked}
use Rattle.chip_machine.specs.Frame.{FrameLaw, StepKeepsProper, SameOff, SameOn, Misses, DifferOnlyAt, IsFramed}
use Rattle.chip_machine.specs.inner.Overwritten.{get_or-overwrite, in_row_true, length-overwrite}
use Rattle.chip_machine.specs.Forgotten.{is_in_row}

-- two outcomes are alike, and each left the bytes in the set unchanged
abbrev AreAlike : (ℕ → Bool) → List ℕ → List ℕ → Result State Stop → Result State Stop → Type 0
AreAlike set m n (Ok x) (Ok y) =
    (x.core ≡ y.core) × SameOff set x.memory y.memory × SameOn set x.memory m
    × SameOn set y.memory n
AreAlike set m n (Err v) (Err w) = v ≡ w
AreAlike set m n _ _ = ⊥

-- an address in a span that misses the set isn't in the set
missed : (set : ℕ → Bool) (i count at : ℕ) → Misses set (range_with_len i count) → i ≤ at
    → at < i + count → IsFalse (set at)
missed set i count at misses low high =
    let e : get_or (range_with_len i count) (at - i) 0 ≡ at
    = grind (arith, get_or-range_with_len) in
    rw e at (misses (at - i) 0 (rw length-range_with_len (omega arith)))

-- the bytes read from both memories are the same
same_part : (set : ℕ → Bool) (m n : List ℕ) (i count : ℕ) → length m ≡ MEMORY_BYTES
    → length n ≡ MEMORY_BYTES → SameOff set m n → Misses set (range_with_len i count)
    → take count (drop i m) ≡ take count (drop i n)
same_part set m n i count lm ln same misses =
    same_number_lists _ _ (grind (arith, places))
    (λ k h. let inside : k < count = grind (arith, places) in
    let e = same (i + k) (missed set i count (i + k) misses (omega arith) (omega arith)) in
    grind (arith, places))

-- the written bytes are the same, and the other bytes stay
writes_alike : (set : ℕ → Bool) (m n : List ℕ) (i : ℕ) (bytes : List ℕ)
    → i + length bytes ≤ MEMORY_BYTES → length m ≡ MEMORY_BYTES → length n ≡ MEMORY_BYTES
    → SameOff set m n → SameOff set (overwrite m i bytes) (overwrite n i bytes)
writes_alike set m n i bytes fits lm ln same at off =
    get_or-overwrite m i bytes at (omega arith)
    ∙ ap (λ (b : ℕ). if is_in_row i (length bytes) at then get_or bytes (at - i) 0 else b)
    (same at off) ∙ sym (get_or-overwrite n i bytes at (omega arith))

writes_keep : (set : ℕ → Bool) (m : List ℕ) (i : ℕ) (bytes : List ℕ)
    → i + length bytes ≤ MEMORY_BYTES → length m ≡ MEMORY_BYTES
    → Misses set (range_with_len i (length bytes)) → SameOn set (overwrite m i bytes) m
writes_keep set m i bytes fits lm misses at on =
    elim (cases_Bool (is_in_row i (length bytes) at)) [
      | inl there ↦
          let within = in_row_true i (length bytes) at there in
          let off = missed set i (length bytes) at misses within.0 within.1 in
          absurd (cc)
      | inr other ↦ get_or-overwrite m i bytes at (omega arith) ∙ rw other refl
    ]

load_alike : (set : ℕ → Bool) (c : Core) (m n : List ℕ) (count : ℕ) (core_by : List ℕ → Core)
    → length m ≡ MEMORY_BYTES → length n ≡ MEMORY_BYTES → SameOff set m n → (past : Bool)
    → Misses set (if past then [] else range_with_len c.index count)
    → AreAlike set m n (if past then Err cause.AddressOutOfRange
    else Ok (record { core = core_by (take count (drop c.index m)); memory = m })) (if past
    then Err cause.AddressOutOfRange
    else Ok (record { core = core_by (take count (drop c.index n)); memory = n }))
load_alike set c m n count core_by lm ln same true misses = refl
load_alike set c m n count core_by lm ln same false misses =
    (ap core_by (same_part set m n c.index count lm ln same misses), same, λ _ _. refl, λ _ _. refl)

store_alike : (set : ℕ → Bool) (i : ℕ) (core : Core) (m n : List ℕ) (bytes : List ℕ)
    → length m ≡ MEMORY_BYTES → length n ≡ MEMORY_BYTES → SameOff set m n → (past : Bool)
    → is_past i (length bytes) ≡ past
    → Misses set (if past then [] else range_with_len i (length bytes))
    → AreAlike set m n (if past then Err cause.AddressOutOfRange
    else Ok (record { core = core; memory = overwrite m i bytes })) (if past
    then Err cause.AddressOutOfRange
    else Ok (record { core = core; memory = overwrite n i bytes }))
store_alike set i core m n bytes lm ln same true e misses = refl
store_alike set i core m n bytes lm ln same false e misses =
    let fits : i + length bytes ≤ MEMORY_BYTES = grind (arith, nat_tests) in (
      refl,
      writes_alike set m n i bytes fits lm ln same,
      writes_keep set m i bytes fits lm misses,
      writes_keep set n i bytes fits ln misses,
    )

-- the same effect performed on two memories
perform_alike : (set : ℕ → Bool) (keys : ℕ) (c : Core) (m n : List ℕ) (effect : Effect)
    → length m ≡ MEMORY_BYTES → length n ≡ MEMORY_BYTES → SameOff set m n
    → Misses set (accessed c.index effect)
    → AreAlike set m n (perform keys (record { core = c; memory = m }) effect)
    (perform keys (record { core = c; memory = n }) effect)
perform_alike set keys c m n (Stops why) lm ln same misses = refl
perform_alike set keys c m n (Changes core) lm ln same misses =
    (refl, same, λ _ _. refl, λ _ _. refl)
perform_alike set keys c m n (Keyed core_by) lm ln same misses =
    (refl, same, λ _ _. refl, λ _ _. refl)
perform_alike set keys c m n (Loads count core_by) lm ln same misses =
    load_alike set c m n count core_by lm ln same (is_past c.index count) misses
perform_alike set keys c m n (Stores bytes core) lm ln same misses =
    store_alike set c.index core m n bytes lm ln same (is_past c.index (length bytes)) refl misses

-- the ends of two steps
settle_alike : (set : ℕ → Bool) (tick : Bool) (c : Core) (m n : List ℕ) (r s : Result State Stop)
    → SameOff set m n → AreAlike set m n r s
    → (DifferOnlyAt set (settle tick (record { core = c; memory = m }) r)
    (settle tick (record { core = c; memory = n }) s))
    × SameOn set (settle tick (record { core = c; memory = m }) r).memory m
    × SameOn set (settle tick (record { core = c; memory = n }) s).memory n
settle_alike set tick c m n (Ok x) (Ok y) same h = (
  record { core = ap (λ (core : Core). if tick then ticked core else core) h.0; memory = h.1 },
  h.2,
  h.3,
)
settle_alike set tick c m n (Err v) (Err w) same h = (
  record { core = ap (λ (why : Stop). record c { stopped = Some why }) h; memory = same },
  λ _ _. refl,
  λ _ _. refl,
)
settle_alike set tick c m n _ _ same h = absurd h

-- the words at pc are the same, and so their effects are the same
effect_alike : (set : ℕ → Bool) (c : Core) (m n : List ℕ) (rest : List ℕ) (past : Bool)
    → SameOff set m n → nat_lt LAST_WORD c.pc ≡ past
    → Misses set (if past then [] else (c.pc ∷ (c.pc + 1) ∷ rest))
    → effect_at (record { core = c; memory = m }) ≡ effect_at (record { core = c; memory = n })
effect_alike set c m n rest true same e misses = rw e refl
effect_alike set c m n rest false same e misses =
    let high = same c.pc (misses 0 0 (omega arith)) in
    let low = same (c.pc + 1) (misses 1 0 (omega arith)) in
    let word : word_at m c.pc ≡ word_at n c.pc = cc in
    ap (λ (w : ℕ). if nat_lt LAST_WORD c.pc then Stops cause.PcOutOfRange
    else effect_of_word (decode_of w) c) word

-- the touches and the step, given the results of the first two tests
abbrev touched_by : Bool → Bool → Core → List ℕ → List ℕ
touched_by stopped past c m =
    if stopped then []
    else (if past then []
    else (c.pc ∷ (c.pc + 1) ∷ accessed c.index (effect_at (record { core = c; memory = m }))))

abbrev stepped_by : Bool → ℕ → Bool → Core → List ℕ → State
stepped_by stopped keys tick c m =
    let s : State = record { core = c; memory = m } in
    if stopped then s else settle tick s (perform keys s (effect_at s))

-- no accessed byte at I is in the set
access_misses : (set : ℕ → Bool) (c : Core) (m : List ℕ) (past : Bool)
    → nat_lt LAST_WORD c.pc ≡ past → Misses set (touched_by false past c m)
    → Misses set (accessed c.index (effect_at (record { core = c; memory = m })))
access_misses set c m true e misses = rw e (λ k d h. absurd (omega arith))
access_misses set c m false e misses = λ k d h. misses (suc (suc k)) d (omega arith)

-- the touches and the step of two states, by cases on the first two tests
step_alike : (set : ℕ → Bool) (keys : ℕ) (tick : Bool) (c : Core) (m n : List ℕ)
    → length m ≡ MEMORY_BYTES → length n ≡ MEMORY_BYTES → SameOff set m n → (stopped past : Bool)
    → nat_lt LAST_WORD c.pc ≡ past → Misses set (touched_by stopped past c m)
    → (touched_by stopped past c n ≡ touched_by stopped past c m)
    × (DifferOnlyAt set (stepped_by stopped keys tick c m) (stepped_by stopped keys tick c n))
    × SameOn set (stepped_by stopped keys tick c m).memory m
    × SameOn set (stepped_by stopped keys tick c n).memory n
step_alike set keys tick c m n lm ln same true past e misses =
    (refl, record { core = refl; memory = same }, λ _ _. refl, λ _ _. refl)
step_alike set keys tick c m n lm ln same false past e misses =
    let alike = effect_alike set c m n _ past same e misses in
    let outcomes = perform_alike set keys c m n
    (effect_at (record { core = c; memory = m })) lm ln same
    (access_misses set c m past e misses) in
    let both = subst (λ (x : Effect). AreAlike set m n
    (perform keys (record { core = c; memory = m }) (effect_at (record { core = c; memory = m })))
    (perform keys (record { core = c; memory = n }) x)) alike outcomes in
    let ends = settle_alike set tick c m n _ _ same both in
    let touched = ap (λ (x : Effect). if past then [] else (c.pc ∷ (c.pc + 1) ∷ accessed c.index x))
    (sym alike) in
    (touched, ends.0, ends.1, ends.2)

frame_core : (set : ℕ → Bool) (keys : ℕ) (tick : Bool) (c : Core) (m n : List ℕ)
    → length m ≡ MEMORY_BYTES → length n ≡ MEMORY_BYTES → SameOff set m n
    → Misses set (touches (record { core = c; memory = m }))
    → IsFramed set keys tick (record { core = c; memory = m }) (record { core = c; memory = n })
unfolding touches step_of
frame_core set keys tick c m n lm ln same misses =
    let t = step_alike set keys tick c m n lm ln same (is_some c.stopped)
    (nat_lt LAST_WORD c.pc) refl misses in
    record { same_touches = t.0; still_agree = t.1; first_keeps = t.2; second_keeps = t.3 }

pub frame_law : FrameLaw
frame_law set keys tick a b proper_a proper_b agree misses =
    let P : Core → Type 0
    = λ c. IsFramed set keys tick a (record { core = c; memory = b.memory }) in
    subst P agree.core
    (frame_core set keys tick a.core a.memory b.memory proper_a.memory_size proper_b.memory_size
    agree.memory misses)

-- the memory of an outcome has its full size
abbrev HasSize : Result State Stop → Type 0
HasSize (Ok s) = length s.memory ≡ MEMORY_BYTES
HasSize (Err why) = Unit {0}

load_size : (core : Core) (m : List ℕ) (past : Bool) → length m ≡ MEMORY_BYTES
    → HasSize
    (if past then Err cause.AddressOutOfRange else Ok (record { core = core; memory = m }))
load_size core m true lm = tt
load_size core m false lm = lm

store_size : (core : Core) (m : List ℕ) (i : ℕ) (bytes : List ℕ) (past : Bool)
    → is_past i (length bytes) ≡ past → length m ≡ MEMORY_BYTES
    → HasSize (if past then Err cause.AddressOutOfRange
    else Ok (record { core = core; memory = overwrite m i bytes }))
store_size core m i bytes true e lm = tt
store_size core m i bytes false e lm =
    let fits : i + length bytes ≤ MEMORY_BYTES = grind (arith, nat_tests) in
    length-overwrite m i bytes (omega arith) ∙ lm

perform_size : (keys : ℕ) (c : Core) (m : List ℕ) (effect : Effect) → length m ≡ MEMORY_BYTES
    → HasSize (perform keys (record { core = c; memory = m }) effect)
perform_size keys c m (Stops why) lm = tt
perform_size keys c m (Changes core) lm = lm
perform_size keys c m (Keyed core_by) lm = lm
perform_size keys c m (Loads count core_by) lm =
    load_size (core_by (take count (drop c.index m))) m (is_past c.index count) lm
perform_size keys c m (Stores bytes core) lm =
    store_size core m c.index bytes (is_past c.index (length bytes)) refl lm

settle_size : (tick : Bool) (s : State) (r : Result State Stop) → length s.memory ≡ MEMORY_BYTES
    → HasSize r → length (settle tick s r).memory ≡ MEMORY_BYTES
settle_size tick s (Ok after) lm h = h
settle_size tick s (Err why) lm h = lm

size_by : (stopped : Bool) (keys : ℕ) (tick : Bool) (s : State) → length s.memory ≡ MEMORY_BYTES
    → length (if stopped then s else settle tick s (perform keys s (effect_at s))).memory
    ≡ MEMORY_BYTES
size_by true keys tick s lm = lm
size_by false keys tick s lm =
    settle_size tick s _ lm (perform_size keys s.core s.memory (effect_at s) lm)

-- a step preserves that a state is proper
pub step_keeps_proper : StepKeepsProper
unfolding step_of
step_keeps_proper s keys tick proper =
    record { memory_size = size_by (is_some s.core.stopped) keys tick s proper.memory_size }
