-- Why a closed table contains each reached state.
use Rattle.std.proofs.Common.{◌≡◌, ℕ, ◌+◌, ◌*◌, ◌<◌, ◌≤◌, inl, inr, Bool, true, false, List, length, All, Any, Contains, replicate, is_some, refl, ◌-◌, arith, if◌then◌else◌, Option, Some, None, IfSome, Result, Ok, Err, get_or, sym, ap, ◌∙◌, subst}
use Rattle.std.proofs.lemmas.Bool.{cases_lt}
use Rattle.std.proofs.lemmas.List.{get_or_append_left, get_or-append_right, get_or-replicate, get_or_past}
use Rattle.chip_machine.specs.declared.quirks.Quirks.{Quirks}
use Rattle.chip_machine.specs.declared.stop.Stop.{Stop}
use Rattle.chip_machine.specs.Start.{start_core, start_memory, start_of}
use Rattle.chip_machine.specs.State.{Core, State}
use Rattle.chip_machine.specs.Step.{effect_at, perform, settle, step_of, ticked}
use Rattle.chip_facts.specs.Facts.{IsOneOf, is_among}
use Rattle.chip_facts.specs.Reached.{IsByteTape, IsReached}
use Rattle.chip_facts.specs.Sets.{Holds}
use Rattle.chip_facts.specs.inner.Steps.{AreStored, IsAround, IsKept, IsNext, IsStored, Meets, byte_at}
use Rattle.chip_facts.specs.inner.Tables.{IsAllowed, IsClosed, IsHeld, IsInTable, LiesIn}
use Rattle.chip_facts.specs.inner.Tables.IsHeld.{lies, stopped}
use Rattle.chip_facts.specs.Reached.IsReached.{starts, steps}
use Rattle.chip_facts.specs.inner.Transfer.{IsAt}
use Rattle.chip_facts.specs.declared.outcome.Outcome.{Outcome}
use Rattle.chip_facts.specs.declared.outcome.Stored.{Stored}
use Rattle.chip_facts.specs.declared.table.Row.{Row}
use Rattle.chip_facts.specs.declared.table.Table.{Table}
use Rattle.chip_facts.specs.declared.transfer.Before.{Before}

-- a number is a byte, and the table allows it at its address
abbrev IsByte : List ℕ → ℕ → ℕ → Type 0
IsByte memory at byte = (byte < 256) × (at < 4104 → Holds memory (256 * at + byte))

byte_then : (memory : List ℕ) (quirks : Quirks) (old new : State) (stored : Option Stored) → IsAround memory quirks old
    → IfSome stored (λ st. (at byte : ℕ) → IsStored st at byte → (byte < 256) × Holds memory (256 * at + byte))
    → AreStored stored old new → (at : ℕ) → IsByte memory at (byte_at new at)
byte_then memory quirks old new None around _ same at =
    subst (IsByte memory at) (sym (ap (λ bytes. get_or bytes at 0) same)) (around.small at, around.bytes at)
byte_then memory quirks old new (Some stored) around within are at = elim (are at) [
  | inl same ↦ subst (IsByte memory at) (sym same) (around.small at, around.bytes at)
  | inr put ↦
      let h = within at (byte_at new at) put in
      (h.0, λ _. h.1)
]

around_then : (memory : List ℕ) (quirks : Quirks) (old new : State) (stored : Option Stored) → IsAround memory quirks old
    → IfSome stored (λ st. (at byte : ℕ) → IsStored st at byte → (byte < 256) × Holds memory (256 * at + byte))
    → IsKept old new → AreStored stored old new → IsAround memory quirks new
around_then memory quirks old new stored around within kept are = record {
  size = kept.size ∙ around.size;
  flags = kept.flags ∙ around.flags;
  small = λ at. (byte_then memory quirks old new stored around within are at).0;
  bytes = λ at low. (byte_then memory quirks old new stored around within are at).1 low;
  tape = λ i. subst (λ t. get_or t i 0 < 256) (sym kept.tape) (around.tape i);
  same = kept.quirks ∙ around.same;
  runs = kept.stopped ∙ around.runs;
}

stop_then : (P : Stop → Type 0) (stop : Option Stop) (why : Stop) → stop ≡ Some why → IfSome stop P → P why
stop_then P stop why is h = subst (λ o. IfSome o P) is h

pub outcome_allowed : (table : Table) (before : Before) (out : Outcome)
    → IfSome out.stop (λ why. Contains table.left.items (record { pc = before.pc; stop = why }))
    → IfSome out.stored (λ st. (at byte : ℕ) → IsStored st at byte → (byte < 256) × Holds table.memory.items (256 * at + byte))
    → ((c : Core) → Any (IsNext before.frames.now c) out.next.items → IsInTable table.rows.items c)
    → before.memory.now ≡ table.memory.items
    → (s : State) → IsAt before s → (ended : Result State Stop) → Meets before.frames.now out s ended → IsAllowed table before.quirks before.pc ended
outcome_allowed table before out stop stored next same s at (Err why) meets =
    stop_then (λ why. Contains table.left.items (record { pc = before.pc; stop = why })) out.stop why meets stop
outcome_allowed table before out stop stored next same s at (Ok new) meets = (
  next new.core meets.0,
  around_then table.memory.items before.quirks s new out.stored (subst (λ m. IsAround m before.quirks s) same at.around) stored meets.1 meets.2,
)

-- ---- all reached states

pub record Starts (table : Table) (image : List ℕ) (quirks : Quirks) : Type 0 where
  pub memory : (at : ℕ) → at < 4096 → Holds table.memory.items (256 * at + get_or (start_memory image) at 0)
  pub flags : (at : ℕ) → 4096 ≤ at → at < 4104 → Holds table.memory.items (256 * at)
  pub row : (tape : List ℕ) → IsInTable table.rows.items (start_core tape quirks)
  pub bytes : (at : ℕ) → get_or (start_memory image) at 0 < 256
  pub size : length (start_memory image) ≡ 4096

flag_zero : (j : ℕ) → get_or {A = ℕ} (replicate 8 0) j 0 ≡ 0
flag_zero j = elim (cases_lt j 8) [
  | inl low ↦ get_or-replicate 8 j 0 0 low
  | inr high ↦ get_or_past (replicate 8 0) j 0 high
]

any_weaker : (P Q : Row → Type 0) (rows : List Row) → ((row : Row) → P row → Q row) → Any P rows → Any Q rows
any_weaker P Q rows f (k, row, within, is, h) = (k, row, within, is, f row h)

lies_after : (tick : Bool) (c : Core) (row : Row) → LiesIn c row → LiesIn (if tick then ticked c else c) row
lies_after true c row old = record {
  pc_is = old.pc_is;
  frames_are = old.frames_are;
  known = record {
    count = old.known.count;
    each = old.known.each;
    small = old.known.small;
    index = old.known.index;
    bound = omega (arith, old.known.bound);
    size = old.known.size;
  };
}
lies_after false c row old = old

around_after : (memory : List ℕ) (quirks : Quirks) (tick : Bool) (s : State) → IsAround memory quirks s
    → IsAround memory quirks (record s { core = (if tick then ticked s.core else s.core) })
around_after memory quirks true s around = record {
  size = around.size;
  flags = around.flags;
  small = around.small;
  bytes = around.bytes;
  tape = around.tape;
  same = around.same;
  runs = around.runs;
}
around_after memory quirks false s around = around

module _ (table : Table) (image : List ℕ) (quirks : Quirks) (begins : Starts table image quirks) (closed : All (IsClosed table quirks) table.rows.items) where
  start_byte : (tape : List ℕ) (at : ℕ) → IsByte table.memory.items at (byte_at (start_of image tape quirks) at)
  start_byte tape at = elim (cases_lt at 4096) [
    | inl low ↦
        subst (IsByte table.memory.items at) (sym (get_or_append_left (start_memory image) (replicate 8 0) 0 at (omega (arith, low, begins.size))))
        (begins.bytes at, λ _. begins.memory at low)
    | inr high ↦
        let zero : byte_at (start_of image tape quirks) at ≡ 0 = get_or-append_right (start_memory image) (replicate 8 0) 4096 at 0 begins.size high ∙ flag_zero (at - 4096) in
        let place : 256 * at ≡ 256 * at + 0 = omega arith in
        let tiny : 0 < 256 = omega arith in
        subst (IsByte table.memory.items at) (sym zero) (tiny, λ low. subst (Holds table.memory.items) place (begins.flags at high low))
  ]

  held_start : (tape : List ℕ) → IsByteTape tape → IsHeld table quirks (start_of image tape quirks)
  held_start tape bytes = lies (begins.row tape) (record {
    size = begins.size;
    flags = refl;
    small = λ at. (start_byte tape at).0;
    bytes = λ at low. (start_byte tape at).1 low;
    tape = bytes.1;
    same = refl;
    runs = refl;
  })

  held_settled : (s : State) (tick : Bool) (ended : Result State Stop) → Any (λ row. s.core.pc ≡ row.pc) table.rows.items
      → IsAllowed table quirks s.core.pc ended → IsHeld table quirks (settle tick s ended)
  held_settled s tick (Ok new) place allowed =
      lies (any_weaker (LiesIn new.core) (LiesIn (if tick then ticked new.core else new.core)) table.rows.items (lies_after tick new.core) allowed.0)
      (around_after table.memory.items quirks tick new allowed.1)
  held_settled s tick (Err why) place left = stopped why refl left place

  held_step : (s : State) (keys : ℕ) (tick : Bool) → IsHeld table quirks s → IsHeld table quirks (step_of s keys tick)
  unfolding step_of
  held_step s keys tick (lies (k, row, within, is, in-row) around) =
      let at : IsClosed table quirks row = subst (IsClosed table quirks) is (closed k row within) in
      subst (λ (o : Option Stop). IsHeld table quirks (if is_some o then s else settle tick s (perform keys s (effect_at s)))) (sym around.runs)
      (held_settled s tick (perform keys s (effect_at s)) (k, row, within, is, in-row.pc_is) (at s in-row around keys))
  held_step s keys tick (stopped why is left place) =
      subst (λ (o : Option Stop). IsHeld table quirks (if is_some o then s else settle tick s (perform keys s (effect_at s)))) (sym is) (stopped why is left place)

  pub all_held : (s : State) → IsReached image quirks s → IsHeld table quirks s
  all_held _ (starts tape bytes) = held_start tape bytes
  all_held _ (steps s reached keys tick) = held_step s keys tick (all_held s reached)

-- the facts about a state for which `IsHeld` is true
pub one_of : (table : Table) (quirks : Quirks) (executed : List Bool) → ((pc : ℕ) → Any (λ row. pc ≡ row.pc) table.rows.items → is_among executed pc ≡ true)
    → (s : State) → IsHeld table quirks s → IsOneOf table.left.items executed s
one_of table quirks executed among s (lies (k, row, within, is, in-row) around) = record {
  stop = subst (λ (o : Option Stop). IfSome o (λ why. Contains table.left.items (record { pc = s.core.pc; stop = why }))) (sym around.runs) tt;
  place = among s.core.pc (k, row, within, is, in-row.pc_is);
}
one_of table quirks executed among s (stopped why is left place) = record {
  stop = subst (λ (o : Option Stop). IfSome o (λ cause. Contains table.left.items (record { pc = s.core.pc; stop = cause }))) (sym is) left;
  place = among s.core.pc place;
}
