-- The parts of a machine that a search may forget (I, the screen, the sixteen registers), the bytes
-- of its memory that a search may forget, and how a step changes what is forgotten.
-- Source: chosen by this project, following the table of the instructions.
--     index_part       the numbers of I and of the screen; `register_part x` is that of register x
--     far_part         the number of a separate part that records whether I points at digits, which
--                      may be known even if the value of I is forgotten
--     has_part         whether a part is in a set of forgotten parts and bytes; part k is bit k,
--                      below bit 32
--     window_of        the lowest address that the set's window covers, stored in bits 32 to 47
--     has_byte         whether the byte at an address is in the set; the first byte of the window
--                      is bit 48
--     needs            the parts that decide more than the values of other parts and bytes: the next
--                      pc, the accessed addresses, the delay timer, a key's number, a flag register
--     uses             the other parts that an instruction computes with
--     spoils           the parts whose new values depend on those that the instruction uses
--     spoilt           the spoiled parts if the instruction uses a forgotten part, otherwise none
--     sets             the parts whose values after an instruction depend only on the parts that it
--                      needs and uses
--     loaded, stored   how many bytes at I an effect reads and writes; the bytes read are loaded
--                      into the first registers or drawn
--     draws            whether an instruction draws the bytes that it reads
--     stored_part      the part whose value determines a byte that is written
--     AreKept          none of `count` bytes starting at an address is forgotten
--     AreWithin        everything that is forgotten in `some` is also forgotten in `all`
--     IsUnneeded       the next step of a state needs nothing that is forgotten
--     IsForgottenAfter the set contains everything that is forgotten after the next step, which leads
--                      to a given pc. That includes registers loaded with forgotten bytes, and bytes
--                      stored from forgotten registers
use Rattle.std.specs.Prelude.{◌≡◌, ℕ, ◌+◌, ◌-◌, ◌/◌, ◌%◌, ◌^◌, ◌<◌, ◌≤◌, ◌==◌, ◌&&◌, ◌||◌, Bool, true, false, not, List, [], ◌∷◌, length, Option, Some, None, nat_lt, nat_le, if◌then◌else◌}
use Rattle.std.specs.List.{list_all, list_any, range_with_len}
use Rattle.chip_lang.specs.Decoding.{decode_of}
use Rattle.chip_lang.specs.declared.instr.Instr.{Instr}
use Rattle.chip_lang.specs.declared.instr.Instr.TheVariants as row
use Rattle.chip_machine.specs.declared.limits.TheConstants.{LAST_WORD}
use Rattle.chip_machine.specs.declared.quirks.Quirks.{Quirks}
use Rattle.chip_machine.specs.State.{State}
use Rattle.chip_machine.specs.Step.{Effect, Loads, Stores, effect_at, word_at}

abbrev pub index_part : ℕ
index_part = 0

abbrev pub screen_part : ℕ
screen_part = 1

abbrev pub far_part : ℕ
far_part = 2

abbrev pub register_part : ℕ → ℕ
register_part x = x + 3

abbrev pub flag_part : ℕ
flag_part = register_part 15

-- V0 to Vx
abbrev pub first_registers : ℕ → List ℕ
first_registers x = range_with_len (register_part 0) (x + 1)

abbrev pub has_part : (forgotten : ℕ) → (part : ℕ) → Bool
has_part forgotten part = forgotten % 2 ^ 32 / 2 ^ part % 2 == 1

abbrev pub window_of : (forgotten : ℕ) → ℕ
window_of forgotten = forgotten / 2 ^ 32 % 2 ^ 16

abbrev pub has_byte : (forgotten : ℕ) → (at : ℕ) → Bool
has_byte forgotten at =
    nat_le (window_of forgotten) at
    && forgotten / 2 ^ 32 / 2 ^ 16 / 2 ^ (at - window_of forgotten) % 2 == 1

-- ---- by the rows of the instruction table

-- a row that isn't listed needs no part
unfoldable pub needs : Quirks → Instr → List ℕ
needs q (row.SkipIfByte x byte) = register_part x ∷ []
needs q (row.SkipUnlessByte x byte) = register_part x ∷ []
needs q (row.SkipIfEqual x y) = register_part x ∷ register_part y ∷ []
needs q (row.SkipUnlessEqual x y) = register_part x ∷ register_part y ∷ []
needs q (row.JumpOffset address) =
    register_part (if q.jumps_by_first then 0 else address / 256) ∷ []
needs q (row.Draw x y n) = far_part ∷ []
needs q (row.SkipIfKey x) = register_part x ∷ []
needs q (row.SkipUnlessKey x) = register_part x ∷ []
needs q (row.SetDelay x) = register_part x ∷ []
needs q (row.StoreDecimal x) = index_part ∷ far_part ∷ []
needs q (row.StoreRegisters x) = index_part ∷ far_part ∷ []
needs q (row.LoadRegisters x) = index_part ∷ far_part ∷ []
needs q (row.StoreFlags x) = first_registers x
needs q instr = []

-- ADD with a number needs and uses nothing, because Vx stays forgotten if it was forgotten before.
-- Nothing depends on the sound timer.
unfoldable pub uses : Quirks → Instr → List ℕ
uses q (row.Copy x y) = register_part y ∷ []
uses q (row.Or x y) = register_part x ∷ register_part y ∷ []
uses q (row.And x y) = register_part x ∷ register_part y ∷ []
uses q (row.Xor x y) = register_part x ∷ register_part y ∷ []
uses q (row.Add x y) = register_part x ∷ register_part y ∷ []
uses q (row.Subtract x y) = register_part x ∷ register_part y ∷ []
uses q (row.ShiftRight x y) = register_part (if q.shifts_second then y else x) ∷ []
uses q (row.SubtractFrom x y) = register_part x ∷ register_part y ∷ []
uses q (row.ShiftLeft x y) = register_part (if q.shifts_second then y else x) ∷ []
uses q (row.Draw x y n) =
    index_part ∷ screen_part ∷ register_part x ∷ register_part y ∷ []
uses q (row.AddIndex x) = index_part ∷ register_part x ∷ []
uses q (row.SmallDigit x) = register_part x ∷ []
uses q (row.BigDigit x) = register_part x ∷ []
uses q instr = []

-- a digit's address is always among the digits, whichever digit it is; a sum with I may be any address
unfoldable pub spoils : Quirks → Instr → List ℕ
spoils q (row.Copy x y) = register_part x ∷ []
spoils q (row.Or x y) = register_part x ∷ []
spoils q (row.And x y) = register_part x ∷ []
spoils q (row.Xor x y) = register_part x ∷ []
spoils q (row.Add x y) = flag_part ∷ register_part x ∷ []
spoils q (row.Subtract x y) = flag_part ∷ register_part x ∷ []
spoils q (row.ShiftRight x y) = flag_part ∷ register_part x ∷ []
spoils q (row.SubtractFrom x y) = flag_part ∷ register_part x ∷ []
spoils q (row.ShiftLeft x y) = flag_part ∷ register_part x ∷ []
spoils q (row.Draw x y n) = flag_part ∷ screen_part ∷ []
spoils q (row.AddIndex x) =
    if q.flags_overflow then flag_part ∷ index_part ∷ far_part ∷ []
    else index_part ∷ far_part ∷ []
spoils q (row.SmallDigit x) = index_part ∷ []
spoils q (row.BigDigit x) = index_part ∷ []
spoils q instr = []

abbrev pub is_one_forgotten : (forgotten : ℕ) → List ℕ → Bool
is_one_forgotten forgotten parts = list_any (has_part forgotten) parts

abbrev pub spoilt : Quirks → (forgotten : ℕ) → Instr → List ℕ
spoilt q forgotten instr =
    if is_one_forgotten forgotten (uses q instr) then spoils q instr else []

-- `moved` is true if pc has changed; for a wait for a key, that means that the wait has ended
unfoldable pub sets : Quirks → (moved : Bool) → Instr → List ℕ
sets q moved row.ClearScreen = screen_part ∷ []
sets q moved row.LowSize = if q.clears_at_size then screen_part ∷ [] else []
sets q moved row.HighSize = if q.clears_at_size then screen_part ∷ [] else []
sets q moved (row.LoadByte x byte) = register_part x ∷ []
sets q moved (row.Copy x y) = register_part x ∷ []
sets q moved (row.Or x y) =
    if q.clears_flag then flag_part ∷ register_part x ∷ [] else register_part x ∷ []
sets q moved (row.And x y) =
    if q.clears_flag then flag_part ∷ register_part x ∷ [] else register_part x ∷ []
sets q moved (row.Xor x y) =
    if q.clears_flag then flag_part ∷ register_part x ∷ [] else register_part x ∷ []
sets q moved (row.Add x y) = flag_part ∷ register_part x ∷ []
sets q moved (row.Subtract x y) = flag_part ∷ register_part x ∷ []
sets q moved (row.ShiftRight x y) = flag_part ∷ register_part x ∷ []
sets q moved (row.SubtractFrom x y) = flag_part ∷ register_part x ∷ []
sets q moved (row.ShiftLeft x y) = flag_part ∷ register_part x ∷ []
sets q moved (row.LoadIndex address) = index_part ∷ far_part ∷ []
sets q moved (row.Random x byte) = register_part x ∷ []
sets q moved (row.Draw x y n) = flag_part ∷ []
sets q moved (row.ReadDelay x) = register_part x ∷ []
sets q moved (row.WaitKey x) = if moved then register_part x ∷ [] else []
sets q moved (row.AddIndex x) = if q.flags_overflow then flag_part ∷ [] else []
sets q moved (row.SmallDigit x) = index_part ∷ far_part ∷ []
sets q moved (row.BigDigit x) = index_part ∷ far_part ∷ []
sets q moved (row.LoadRegisters x) = first_registers x
sets q moved (row.LoadFlags x) = first_registers x
sets q moved instr = []

-- ---- by the effect of an instruction

abbrev pub loaded : Effect → ℕ
loaded (Loads count core_by) = count
loaded effect = 0

abbrev pub stored : Effect → ℕ
stored (Stores bytes core) = length bytes
stored effect = 0

-- ---- bytes, and whole sets

abbrev pub AreKept : (forgotten : ℕ) → (at count : ℕ) → Type 0
AreKept forgotten at count =
    (k : ℕ) → at ≤ k → k < at + count → has_byte forgotten k ≡ false

pub record AreWithin (some all : ℕ) : Type 0 where
  pub parts : (part : ℕ) → has_part some part ≡ true → has_part all part ≡ true
  pub bytes : (at : ℕ) → has_byte some at ≡ true → has_byte all at ≡ true

-- ---- by the next step of a state

abbrev pub next_instr : State → Option Instr
next_instr s =
    if nat_lt LAST_WORD s.core.pc then None else decode_of (word_at s.memory s.core.pc)

abbrev pub parts_by : (Instr → List ℕ) → Option Instr → List ℕ
parts_by parts None = []
parts_by parts (Some instr) = parts instr

abbrev pub draws : Option Instr → Bool
draws (Some (row.Draw x y n)) = true
draws instr = false

-- `place` is the index of the byte among the bytes that are written
abbrev pub stored_part : Option Instr → (place : ℕ) → ℕ
stored_part (Some (row.StoreDecimal x)) place = register_part x
stored_part instr place = register_part place

-- there are three conditions: on the parts, on the bytes at pc, and on the bytes at I that are drawn
pub record IsUnneeded (forgotten : ℕ) (s : State) : Type 0 where
  pub parts : list_all (λ part. not (has_part forgotten part))
      (parts_by (needs s.core.quirks) (next_instr s)) ≡ true
  pub fetched : s.core.pc ≤ LAST_WORD → AreKept forgotten s.core.pc 2
  pub drawn : draws (next_instr s) ≡ true
      → AreKept forgotten s.core.index (loaded (effect_at s))

abbrev pub is_one_of : List ℕ → ℕ → Bool
is_one_of parts part = list_any (λ p. part == p) parts

abbrev pub is_forgotten_by : (forgotten : ℕ) → (set spoiled : List ℕ) → (part : ℕ) → Bool
is_forgotten_by forgotten set spoiled part =
    has_part forgotten part && not (is_one_of set part) || is_one_of spoiled part

-- whether an address is one of `count` consecutive addresses from `start`
abbrev pub is_in_row : (start count : ℕ) → (at : ℕ) → Bool
is_in_row start count at = nat_le start at && nat_lt at (start + count)

-- `to` is the value of pc after the step
pub record IsForgottenAfter (before : ℕ) (s : State) (to after : ℕ) : Type 0 where
  pub parts : (part : ℕ) → is_forgotten_by before
      (parts_by (sets s.core.quirks (not (to == s.core.pc))) (next_instr s))
      (parts_by (spoilt s.core.quirks before) (next_instr s)) part ≡ true
      → has_part after part ≡ true
  pub bytes : (at : ℕ) → has_byte before at ≡ true
      → is_in_row s.core.index (stored (effect_at s)) at ≡ false → has_byte after at ≡ true
  pub loaded : (place : ℕ) → place < loaded (effect_at s)
      → has_byte before (s.core.index + place) ≡ true
      → has_part after (register_part place) ≡ true
  pub stored : (place : ℕ) → place < stored (effect_at s)
      → has_part before (stored_part (next_instr s) place) ≡ true
      → has_byte after (s.core.index + place) ≡ true
