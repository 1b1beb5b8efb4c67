-- The possible results of a step from a state, given what is known about the state.
use Rattle.std.specs.Prelude.{◌≡◌, ℕ, ◌+◌, ◌-◌, ◌*◌, ◌<◌, ◌⊎◌, List, [], ◌∷◌, ◌++◌, length, take, slice_index, slice_index_or, Any, Option, Some, None, Result, Ok, Err}
use Rattle.chip_machine.specs.declared.quirks.Quirks.{Quirks}
use Rattle.chip_machine.specs.declared.stop.Stop.{Stop}
use Rattle.chip_machine.specs.State.{Core, State}
use Rattle.chip_facts.specs.Sets.{Holds}
use Rattle.chip_facts.specs.inner.Knowing.{IsKnown}
use Rattle.chip_facts.specs.declared.outcome.Way.{Way}
use Rattle.chip_facts.specs.declared.outcome.Way.TheVariants as way
use Rattle.chip_facts.specs.declared.outcome.Successor.{Successor}
use Rattle.chip_facts.specs.declared.outcome.Stored.{Stored}
use Rattle.chip_facts.specs.declared.outcome.Outcome.{Outcome}

-- the bytes of the memory, followed by the flag registers
abbrev pub all_bytes : State → List ℕ
all_bytes s = s.memory ++ s.core.flags

abbrev pub byte_at : State → ℕ → ℕ
byte_at s at = slice_index (all_bytes s) at

-- the table allows each byte at its address, and the machine hasn't stopped
pub record IsAround (memory : List ℕ) (quirks : Quirks) (s : State) : Type 0 where
  pub size : length s.memory ≡ 4096
  pub flags : length s.core.flags ≡ 8
  pub small : (at : ℕ) → byte_at s at < 256
  pub bytes : (at : ℕ) → at < 4104 → Holds memory (256 * at + byte_at s at)
  pub tape : (i : ℕ) → slice_index s.core.tape i < 256
  pub same : s.core.quirks ≡ quirks
  pub runs : s.core.stopped ≡ None

-- the call stack after a step
abbrev pub frames_by : Way → List ℕ → List ℕ
frames_by way.Same frames = frames
frames_by (way.Call back) frames = frames ++ back ∷ []
frames_by way.Return frames = take (length frames - 1) frames

-- a successor describes a core
pub record IsNext (frames : List ℕ) (c : Core) (n : Successor) : Type 0 where
  pub pc : c.pc ≡ n.pc
  pub frames_are : c.frames ≡ frames_by n.way frames
  pub known : IsKnown n.known c

-- a step that stores bytes consecutively, starting at one of several addresses, may put this byte at an address
pub record IsStored (stored : Stored) (at byte : ℕ) : Type 0 where
  pub from : ℕ
  pub place : ℕ
  pub is_at : at ≡ from + place
  pub few : place < length stored.values.items
  pub among : Holds stored.at from
  pub value : Holds (slice_index_or stored.values.items place []) byte

-- each byte is unchanged, or is a byte that may be stored there
abbrev pub AreStored : Option Stored → State → State → Type 0
AreStored None old new = all_bytes new ≡ all_bytes old
AreStored (Some stored) old new =
    (at : ℕ) → (byte_at new at ≡ byte_at old at) ⊎ IsStored stored at (byte_at new at)

-- the parts of a state that a step doesn't change
pub record IsKept (old new : State) : Type 0 where
  pub size : length new.memory ≡ length old.memory
  pub flags : length new.core.flags ≡ length old.core.flags
  pub tape : new.core.tape ≡ old.core.tape
  pub quirks : new.core.quirks ≡ old.core.quirks
  pub stopped : new.core.stopped ≡ old.core.stopped

-- an outcome allows the result of a step
abbrev pub Meets : List ℕ → Outcome → State → Result State Stop → Type 0
Meets frames out old (Err why) = out.stop ≡ Some why
Meets frames out old (Ok new) =
    Any (IsNext frames new.core) out.next.items × IsKept old new × AreStored out.stored old new
