-- What is known about a core after one of its parts has changed.
use Rattle.std.proofs.Common.{◌≡◌, ◌≢◌, ℕ, ◌+◌, ◌*◌, ◌<◌, true, Bool, List, length, length-set, set, sym, ap, ◌∙◌, inl, inr, arith, subst, get_or-set_same, get_or-set_other}
use Rattle.std.proofs.lemmas.Bool.{cases_eq}
use Rattle.std.proofs.lemmas.List.{set-get_or}
use Rattle.chip_machine.specs.State.{Core}
use Rattle.chip_machine.specs.Step.{reg, with_reg}
use Rattle.chip_facts.specs.Sets.{has, Holds}
use Rattle.chip_facts.specs.inner.Knowing.{HasRegister, IsKnown}
use Rattle.chip_facts.specs.inner.Operations.{value_of, flag_of, IsMade}
use Rattle.chip_facts.specs.declared.known.Known.{Known}
use Rattle.chip_facts.specs.declared.operation.Operation.{Operation}
use Rattle.chip_facts.specs.declared.operation.Pairs.{Pairs}
use Rattle.chip_facts.proofs.BitSets.{holds_inside}
use Rattle.chip_facts.proofs.Blocks.{put_block, block_there, block_elsewhere}

abbrev with_block : Known → ℕ → List ℕ → Known
with_block k x values = record k { registers = put_block k.registers x values }

module _ (k : Known) (c : Core) (x : ℕ) (values : List ℕ) (b : ℕ) (known : IsKnown k c) (size : length k.registers ≡ 64) (four : length values ≡ 4) (within : x < 16) (among : Holds values b) where
  small : b < 256
  small = omega (arith, holds_inside values b among, four)

  room : 4 * x + 3 < length k.registers
  room = omega (arith, size, within)

  here : HasRegister (put_block k.registers x values) (set c.registers x b) x
  here =
      let is : reg (with_reg x b c) x ≡ b = get_or-set_same c.registers x b 0 (omega (arith, known.count, within)) in
      record {
        small = subst (λ n. n < 256) (sym is) small;
        among = subst (λ n. Holds (put_block k.registers x values) (256 * x + n)) (sym is) (block_there k.registers x values b room small ∙ among);
      }

  there : (y : ℕ) → y < 16 → y ≢ x → HasRegister (put_block k.registers x values) (set c.registers x b) y
  there y in' other =
      let is : reg (with_reg x b c) y ≡ reg c y = get_or-set_other c.registers x y b 0 other in
      let old = known.each y in' in
      record {
        small = subst (λ n. n < 256) (sym is) old.small;
        among = subst (λ n. Holds (put_block k.registers x values) (256 * y + n)) (sym is) (block_elsewhere k.registers x values y (reg c y) room other old.small ∙ old.among);
      }

  each : (y : ℕ) → y < 16 → HasRegister (put_block k.registers x values) (set c.registers x b) y
  each y in' = elim (cases_eq y x) [
    | inl same ↦ subst (λ n. HasRegister (put_block k.registers x values) (set c.registers x b) n) (sym same) here
    | inr other ↦ there y in' other
  ]

  pub put_known : IsKnown (with_block k x values) (with_reg x b c)
  put_known =
      record {
        count = length-set c.registers x b ∙ known.count;
        each = each;
        small = known.small;
        index = known.index;
        bound = known.bound;
        size = known.size;
      }

-- a register is set to the value that it already has
pub same_register : (k : Known) (c : Core) (x : ℕ) → IsKnown k (with_reg x (reg c x) c) → IsKnown k c
same_register k c x known = subst (λ rs. IsKnown k (record c { registers = rs })) (set-get_or c.registers x 0) known

-- the results computed from the possible bytes of two registers include the result of their actual bytes
pub made_of_two : (k : Known) (c : Core) (x y : ℕ) (m : Pairs) (operation : Operation) (flag : ℕ) (firsts seconds : List ℕ) (same : Bool)
    → ((a b : ℕ) → a < 256 → b < 256 → Holds firsts a → Holds seconds b → (same ≡ true → a ≡ b) → flag_of operation a b ≡ flag → IsMade m (value_of operation a b) b)
    → IsKnown k c → x < 16 → y < 16
    → ((b : ℕ) → b < 256 → has firsts b ≡ has k.registers (256 * x + b)) → ((b : ℕ) → b < 256 → has seconds b ≡ has k.registers (256 * y + b))
    → (same ≡ true → x ≡ y) → flag_of operation (reg c x) (reg c y) ≡ flag → IsMade m (value_of operation (reg c x) (reg c y)) (reg c y)
made_of_two k c x y m operation flag firsts seconds same made known x-in y-in first second is flags =
    let one = known.each x x-in in
    let two = known.each y y-in in
    made (reg c x) (reg c y) one.small two.small (first (reg c x) one.small ∙ one.among) (second (reg c y) two.small ∙ two.among) (λ h. ap (reg c) (is h)) flags
