-- The state after a step that set a register to a value of the delay timer, computed from the kept state
-- before it.
use Rattle.std.proofs.Common.{◌≡◌, ℕ, ◌≤◌, Bool, true, false, List, [], ◌∷◌, Option, Some, None, fold, nat_lt, refl, ap, sym, subst, ◌∙◌, if◌then◌else◌}
use Rattle.std.proofs.lemmas.Bool.{ltb-false}
use Rattle.chip_lang.specs.Decoding.{decode_of}
use Rattle.chip_lang.specs.declared.instr.Instr.{Instr}
use Rattle.chip_machine.specs.Limits.{MEMORY_BYTES}
use Rattle.chip_machine.specs.Restored.{core_with_parts, with_screen}
use Rattle.chip_machine.specs.State.{Core, State}
use Rattle.chip_machine.specs.Step.{word_at}
use Rattle.chip_machine.specs.declared.limits.TheConstants.{LAST_WORD}
use Rattle.chip_machine.specs.declared.parts.Parts.{Parts}
use Rattle.chip_explore.specs.declared.backdrop.Backdrop.{Backdrop}
use Rattle.chip_explore.specs.declared.backdrop.BytePatch.{BytePatch}
use Rattle.chip_explore.specs.declared.kept.Base.{Base}
use Rattle.chip_explore.specs.inner.Delays.{bound_after, delay_register, read_as, register_read, with_delay}
use Rattle.chip_explore.specs.inner.Kept.{parts_read, state_with, with_byte, with_row}
use Rattle.chip_explore.proofs.Delays.{read_step}

abbrev with_core : Core → State → State
with_core c s = record s { core = c }

byte_by : (test : Bool) (c : Core) (s changed : State) → (if test then with_core c changed else with_core c s) ≡ with_core c (if test then changed else s)
byte_by true c s changed = refl
byte_by false c s changed = refl

-- the bytes don't depend on the other parts of the state
bytes_core : (c : Core) (s : State) (patches : List BytePatch) → fold with_byte (with_core c s) patches ≡ with_core c (fold with_byte s patches)
bytes_core c s [] = refl
bytes_core c s (patch ∷ patches) =
    ap (λ (t : State). fold with_byte t patches) (byte_by (nat_lt patch.at MEMORY_BYTES) c s _) ∙ bytes_core c (with_byte s patch) patches

module _ (base : Base) (backdrop : Backdrop) where
  abbrev memory : List ℕ
  memory = (fold with_byte base.machine backdrop.bytes.items).memory

  -- the state with some parts, built from its core and its memory
  abbrev plain : Parts → State
  plain parts = with_screen (fold with_row base.rows.items backdrop.rows.items) (record { core = core_with_parts parts base.machine.core; memory = memory })

  is_plain : (parts : Parts) → state_with parts base backdrop ≡ plain parts
  is_plain parts =
      ap (with_screen (fold with_row base.rows.items backdrop.rows.items)) (bytes_core (core_with_parts parts base.machine.core) base.machine backdrop.bytes.items)

  pub state_read : (parts : Parts) (x value : ℕ) → delay_register (state_with parts base backdrop) ≡ Some x → state_with (parts_read x value parts) base backdrop ≡ read_as value (state_with parts base backdrop)
  state_read parts x value reads =
      let there : delay_register (with_delay value (plain parts)) ≡ Some x = subst (λ (s : State). delay_register s ≡ Some x) (is_plain parts) reads in
      is_plain (parts_read x value parts)
      ∙ sym (ap (read_as value) (is_plain parts) ∙ ap (with_delay (bound_after value parts.delay)) (read_step (with_delay value (plain parts)) x 0 there))

  pub reads_word : (parts : Parts) (x : ℕ) → delay_register (state_with parts base backdrop) ≡ Some x → parts.pc ≤ LAST_WORD
  reads_word parts x reads =
      inside (nat_lt LAST_WORD parts.pc) (decode_of (word_at memory parts.pc)) refl (subst (λ (s : State). delay_register s ≡ Some x) (is_plain parts) reads)
    where
      inside : (past : Bool) (word : Option Instr) → nat_lt LAST_WORD parts.pc ≡ past → register_read (if past then None else word) ≡ Some x → parts.pc ≤ LAST_WORD
      inside true word is h = absurd (cc)
      inside false word is h = ltb-false LAST_WORD parts.pc is
