-- What is known about the registers, I, the delay timer and the size of the screen.
use Rattle.std.specs.Prelude.{◌≡◌, ℕ, ◌+◌, ◌*◌, ◌<◌, ◌≤◌, Bool, true, List, length, slice_index, if◌then◌else◌}
use Rattle.chip_machine.specs.State.{Core}
use Rattle.chip_machine.specs.Step.{reg}
use Rattle.chip_facts.specs.Sets.{Holds}
use Rattle.chip_facts.specs.inner.Indexes.{HoldsIndex}
use Rattle.chip_facts.specs.declared.known.Known.{Known}
use Rattle.chip_facts.specs.declared.known.Second.{Second}
use Rattle.chip_facts.specs.declared.known.Second.TheVariants as second

-- a register has one of the bytes that its set contains
pub record HasRegister (sets registers : List ℕ) (x : ℕ) : Type 0 where
  pub small : slice_index registers x < 256
  pub among : Holds sets (256 * x + slice_index registers x)

-- each of these values is allowed by what is known
pub record AreKnown (k : Known) (registers : List ℕ) (at delay : ℕ) (high : Bool) : Type 0 where
  pub count : length registers ≡ 16
  pub each : (x : ℕ) → x < 16 → HasRegister k.registers registers x
  pub small : at < 65536
  pub index : HoldsIndex k.index at
  pub bound : delay ≤ k.delay
  pub size : (if high then k.may_be_high else k.may_be_low) ≡ true

abbrev pub IsKnown : Known → Core → Type 0
IsKnown k c = AreKnown k c.registers c.index c.delay c.high

-- the second byte of an operation
abbrev pub second_of : Second → Core → ℕ
second_of (second.Register y) c = reg c y
second_of (second.Byte b) c = b
