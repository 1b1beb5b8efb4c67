-- Bytes that are loaded and stored, and what is known about the registers and the memory afterwards.
use Rattle.std.proofs.Common.{◌≡◌, ℕ, ◌+◌, ◌-◌, ◌*◌, ◌<◌, ◌≤◌, ◌⊎◌, inl, inr, Bool, true, false, List, [], ◌++◌, length, take, drop, get_or, Any, Some, Result, Ok, refl, sym, ap, ◌∙◌, arith, subst, if◌then◌else◌, length-append, length-drop}
use Rattle.std.proofs.lemmas.Bool.{cases_lt, cases_Bool, ltb-true, ltb-false}
use Rattle.std.proofs.lemmas.List.{places, get_or_append_left, get_or-append_right, get_or-drop}
use Rattle.chip_machine.specs.declared.stop.Stop.{Stop}
use Rattle.chip_machine.specs.declared.stop.Stop.TheVariants as cause
use Rattle.chip_machine.specs.inner.Overwritten.{length-overwrite, get_or-overwrite, in_row_true}
use Rattle.chip_machine.specs.Forgotten.{is_in_row}
use Rattle.chip_machine.specs.State.{Core, State, overwrite}
use Rattle.chip_machine.specs.Step.{Loads, Stores, index_past, is_past, next, perform, store_flags}
use Rattle.chip_machine.specs.declared.quirks.IndexMove.{IndexMove}
use Rattle.chip_machine.specs.declared.quirks.IndexMove.TheVariants as moves
use Rattle.chip_facts.specs.Sets.{Holds}
use Rattle.chip_facts.specs.inner.Indexes.{HoldsIndex}
use Rattle.chip_facts.specs.inner.Knowing.{AreKnown, HasRegister, IsKnown}
use Rattle.chip_facts.specs.inner.Steps.{AreStored, IsNext, IsStored, Meets, byte_at}
use Rattle.chip_facts.specs.inner.Transfer.{IsCalm}
use Rattle.chip_facts.specs.declared.known.Known.{Known}
use Rattle.chip_facts.specs.declared.outcome.Outcome.{Outcome}
use Rattle.chip_facts.specs.declared.outcome.Stored.{Stored}

-- one result if a test is true, and another result if it is false
pub meets_if : (frames : List ℕ) (out : Outcome) (s : State) (test : Bool) (x y : Result State Stop)
    → (test ≡ true → Meets frames out s x) → (test ≡ false → Meets frames out s y) → Meets frames out s (if test then x else y)
meets_if frames out s true x y h k = h refl
meets_if frames out s false x y h k = k refl

pub meets_load : (frames : List ℕ) (out : Outcome) (s : State) (keys count : ℕ) (core_by : List ℕ → Core)
    → (4096 < s.core.index + count → out.stop ≡ Some cause.AddressOutOfRange)
    → (s.core.index + count ≤ 4096 → Meets frames out s (Ok (record s { core = core_by (take count (drop s.core.index s.memory)) })))
    → Meets frames out s (perform keys s (Loads count core_by))
meets_load frames out s keys count core_by short fits =
    meets_if frames out s (is_past s.core.index count) _ _ (λ h. short (ltb-true _ _ h)) (λ h. fits (ltb-false _ _ h))

pub meets_store : (frames : List ℕ) (out : Outcome) (s : State) (keys : ℕ) (bytes : List ℕ) (core : Core)
    → (4096 < s.core.index + length bytes → out.stop ≡ Some cause.AddressOutOfRange)
    → (s.core.index + length bytes ≤ 4096 → Meets frames out s (Ok (record { core = core; memory = overwrite s.memory s.core.index bytes })))
    → Meets frames out s (perform keys s (Stores bytes core))
meets_store frames out s keys bytes core short fits =
    meets_if frames out s (is_past s.core.index (length bytes)) _ _ (λ h. short (ltb-true _ _ h)) (λ h. fits (ltb-false _ _ h))

-- ---- registers that bytes are loaded into

module _ (memory new : List ℕ) (k : Known) (s : State) (x i : ℕ) (bytes : List ℕ)
    (x-small : x < 16) (known : IsKnown k s.core)
    (small : (at : ℕ) → byte_at s at < 256) (around : (at : ℕ) → at < 4104 → Holds memory (256 * at + byte_at s at))
    (room : i + x < 4104) (count : length bytes ≡ x + 1) (are : (y : ℕ) → y ≤ x → get_or bytes y 0 ≡ byte_at s (i + y))
    (loaded : (y b : ℕ) → y ≤ x → i + y < 4104 → b < 256 → Holds memory (256 * (i + y) + b) → Holds new (256 * y + b))
    (others : (y b : ℕ) → x < y → y < 16 → b < 256 → Holds k.registers (256 * y + b) → Holds new (256 * y + b)) where
  abbrev registers : List ℕ
  registers = s.core.registers

  abbrev after : List ℕ
  after = bytes ++ drop (length bytes) registers

  after_count : length after ≡ 16
  after_count = length-append bytes (drop (length bytes) registers) ∙ (let rest = length-drop (length bytes) registers in omega (arith, rest, count, known.count, x-small))

  got : (y : ℕ) → y ≤ x → HasRegister new after y
  got y low =
      let is : get_or after y 0 ≡ byte_at s (i + y) = get_or_append_left bytes (drop (length bytes) registers) 0 y (omega (arith, count, low)) ∙ are y low in
      let within : i + y < 4104 = omega (arith, room, low) in
      record {
        small = subst (λ n. n < 256) (sym is) (small (i + y));
        among = subst (λ n. Holds new (256 * y + n)) (sym is) (loaded y (byte_at s (i + y)) low within (small (i + y)) (around (i + y) within));
      }

  kept : (y : ℕ) → x < y → y < 16 → HasRegister new after y
  kept y high in' =
      let place : length bytes + (y - length bytes) ≡ y = omega (arith, count, high) in
      let is : get_or after y 0 ≡ get_or registers y 0 =
      get_or-append_right bytes (drop (length bytes) registers) (length bytes) y 0 refl (omega (arith, count, high))
      ∙ get_or-drop (length bytes) registers (y - length bytes) 0 ∙ ap (λ n. get_or registers n 0) place in
      let before = known.each y in' in
      record {
        small = subst (λ n. n < 256) (sym is) before.small;
        among = subst (λ n. Holds new (256 * y + n)) (sym is) (others y (get_or registers y 0) high in' before.small before.among);
      }

  after_each : (y : ℕ) → y < 16 → HasRegister new after y
  after_each y in' = elim (cases_lt x y) [
    | inl high ↦ kept y high in'
    | inr low ↦ got y low
  ]

  pub known_loaded : (set : List ℕ) (index : ℕ) → index < 65536 → HoldsIndex set index
      → AreKnown (record k { registers = new; index = set }) after index s.core.delay s.core.high
  known_loaded set index index-small among = record {
    count = after_count;
    each = after_each;
    small = index-small;
    index = among;
    bound = known.bound;
    size = known.size;
  }

-- I is a number of 16 bits after registers are moved
pub index_past_small : (move : IndexMove) (x i : ℕ) → i < 65536 → index_past move x i < 65536
index_past_small moves.Stays x i small = small
index_past_small moves.AtLast x i small = omega arith
index_past_small moves.PastLast x i small = omega arith

-- ---- bytes that are stored

module _ (s : State) (new : Core) (bytes : List ℕ) (stored : Stored) (size : length s.memory ≡ 4096) (fits : s.core.index + length bytes ≤ 4096)
    (among : Holds stored.at s.core.index) (count : length bytes ≡ length stored.values.items) (flags : new.flags ≡ s.core.flags)
    (each : (j : ℕ) → j < length bytes → Holds (get_or stored.values.items j []) (get_or bytes j 0)) where
  abbrev memory-after : List ℕ
  memory-after = overwrite s.memory s.core.index bytes

  pub same_size : length memory-after ≡ length s.memory
  same_size = length-overwrite s.memory s.core.index bytes (omega (arith, size, fits))

  abbrev state-after : State
  state-after = record { core = new; memory = memory-after }

  by_row : (at : ℕ) (test : Bool) → is_in_row s.core.index (length bytes) at ≡ test → at < 4096
      → (byte_at state-after at ≡ byte_at s at) ⊎ IsStored stored at (byte_at state-after at)
  by_row at test is low =
      let new-is : byte_at state-after at ≡ (if test then get_or bytes (at - s.core.index) 0 else get_or s.memory at 0) =
      get_or_append_left memory-after new.flags 0 at (omega (arith, same_size, size, low))
      ∙ get_or-overwrite s.memory s.core.index bytes at (omega (arith, size, fits))
      ∙ ap (λ (b : Bool). if b then get_or bytes (at - s.core.index) 0 else get_or s.memory at 0) is in
      elim (cases_Bool test) [
        | inl yes-it-is ↦
            let row = in_row_true s.core.index (length bytes) at (is ∙ yes-it-is) in
            let value : byte_at state-after at ≡ get_or bytes (at - s.core.index) 0 =
            new-is ∙ ap (λ (b : Bool). if b then get_or bytes (at - s.core.index) 0 else get_or s.memory at 0) yes-it-is in
            inr (record {
              from = s.core.index;
              place = at - s.core.index;
              is_at = omega (arith, row.0);
              few = omega (arith, row.0, row.1, count);
              among = among;
              value = subst (Holds (get_or stored.values.items (at - s.core.index) [])) (sym value) (each (at - s.core.index) (omega (arith, row.0, row.1)));
            })
        | inr not-it ↦
            inl (new-is ∙ ap (λ (b : Bool). if b then get_or bytes (at - s.core.index) 0 else get_or s.memory at 0) not-it
            ∙ sym (get_or_append_left s.memory s.core.flags 0 at (omega (arith, size, low))))
      ]

  above : (at : ℕ) → 4096 ≤ at → byte_at state-after at ≡ byte_at s at
  above at high =
      get_or-append_right memory-after new.flags 4096 at 0 (same_size ∙ size) high
      ∙ ap (λ fs. get_or fs (at - 4096) 0) flags
      ∙ sym (get_or-append_right s.memory s.core.flags 4096 at 0 size high)

  pub are_stored : (at : ℕ) → (byte_at state-after at ≡ byte_at s at) ⊎ IsStored stored at (byte_at state-after at)
  are_stored at = elim (cases_lt at 4096) [
    | inl low ↦ by_row at (is_in_row s.core.index (length bytes) at) refl low
    | inr high ↦ inl (above at high)
  ]

  pub meets_stored : (frames : List ℕ) (out : Outcome) → out.stored ≡ Some stored → IsCalm s.core new → Any (IsNext frames new) out.next.items
      → Meets frames out s (Ok state-after)
  meets_stored frames out is calm any = (
    any,
    record {
      size = same_size;
      flags = ap length flags;
      tape = calm.tape_is;
      quirks = calm.quirks_are;
      stopped = calm.stop_is;
    },
    subst (λ st. AreStored st s state-after) (sym is) are_stored,
  )

-- ---- flag registers that are stored

module _ (s : State) (x : ℕ) (stored : Stored) (size : length s.memory ≡ 4096) (eight : length s.core.flags ≡ 8) (sixteen : length s.core.registers ≡ 16) (x-small : x < 8)
    (among : Holds stored.at 4096) (count : x + 1 ≡ length stored.values.items)
    (each : (j : ℕ) → j ≤ x → Holds (get_or stored.values.items j []) (get_or s.core.registers j 0)) where
  abbrev flags-after : List ℕ
  flags-after = take (x + 1) s.core.registers ++ drop (x + 1) s.core.flags

  abbrev then-state : State
  then-state = record s { core = next (store_flags x s.core) }

  still_eight : length flags-after ≡ length s.core.flags
  still_eight = grind (arith, places)

  flag_stored : (at : ℕ) → 4096 ≤ at → (byte_at then-state at ≡ byte_at s at) ⊎ IsStored stored at (byte_at then-state at)
  flag_stored at high =
      let j : ℕ = at - 4096 in
      let new-is : byte_at then-state at ≡ get_or flags-after j 0 = get_or-append_right s.memory flags-after 4096 at 0 size high in
      let old-is : byte_at s at ≡ get_or s.core.flags j 0 = get_or-append_right s.memory s.core.flags 4096 at 0 size high in
      elim (cases_lt x j) [
        | inl later ↦
            let same : get_or flags-after j 0 ≡ get_or s.core.flags j 0 = grind (arith, places) in
            inl (new-is ∙ same ∙ sym old-is)
        | inr early ↦
            let is : get_or flags-after j 0 ≡ get_or s.core.registers j 0 = grind (arith, places) in
            inr (record {
              from = 4096;
              place = j;
              is_at = omega (arith, high);
              few = omega (arith, early, count);
              among = among;
              value = subst (Holds (get_or stored.values.items j [])) (sym (new-is ∙ is)) (each j early);
            })
      ]

  all_stored : (at : ℕ) → (byte_at then-state at ≡ byte_at s at) ⊎ IsStored stored at (byte_at then-state at)
  all_stored at = elim (cases_lt at 4096) [
    | inl low ↦ inl (get_or_append_left s.memory flags-after 0 at (omega (arith, size, low)) ∙ sym (get_or_append_left s.memory s.core.flags 0 at (omega (arith, size, low))))
    | inr high ↦ flag_stored at high
  ]

  pub meets_flags : (frames : List ℕ) (out : Outcome) → out.stored ≡ Some stored → Any (IsNext frames (next (store_flags x s.core))) out.next.items
      → Meets frames out s (Ok then-state)
  meets_flags frames out is any = (
    any,
    record { size = refl; flags = still_eight; tape = refl; quirks = refl; stopped = refl },
    subst (λ st. AreStored st s then-state) (sym is) all_stored,
  )
