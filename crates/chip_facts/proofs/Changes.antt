-- Changes that move pc to the next instruction, by the quirks and flags that they depend on.
use Rattle.std.proofs.Common.{◌≡◌, ℕ, ◌+◌, ◌%◌, ◌<◌, Bool, true, false, not, refl, sym, arith, subst, zero, suc, Option, Some, IfSome, if◌then◌else◌, nat_lt, find, cond, List, ap}
use Rattle.std.specs.FinSet as set
use Rattle.std.specs.List.{range_with_len}
use Rattle.chip_machine.specs.State.{Core}
use Rattle.chip_machine.specs.Step.{with_reg, with_flag, with_index, with_lit, with_size, with_sum, resized, next, bit_of}
use Rattle.chip_machine.specs.declared.quirks.Quirks.{Quirks}
use Rattle.chip_machine.specs.declared.stop.Stop.{Stop}
use Rattle.chip_facts.specs.inner.Knowing.{IsKnown}
use Rattle.chip_facts.specs.inner.Transfer.{IsOn}
use Rattle.chip_facts.specs.declared.known.Known.{Known}

-- the parts that a step to the next instruction leaves unchanged, and the new address
pub record Rest : Type 0 where
  pub pc : ℕ
  pub frames : List ℕ
  pub flags : List ℕ
  pub tape : List ℕ
  pub quirks : Quirks
  pub stopped : Option Stop

abbrev pub rest_of : Core → Rest
rest_of c = record { pc = c.pc; frames = c.frames; flags = c.flags; tape = c.tape; quirks = c.quirks; stopped = c.stopped }

pub on_next : (k : Known) (c new : Core) → rest_of new ≡ rest_of (next c) → IsKnown k new → IsOn k c new
on_next k c new same known = record {
  pc_is = ap (λ r. r.pc) same;
  frames_stay = ap (λ r. r.frames) same;
  calm = record { same_flags = ap (λ r. r.flags) same; tape_is = ap (λ r. r.tape) same; quirks_are = ap (λ r. r.quirks) same; stop_is = ap (λ r. r.stopped) same };
  then_known = known;
}

-- VF becomes 0, or stays
pub on_plain : (k : Known) (c : Core) (x v : ℕ) (clears : Bool) → IsKnown k (if clears then with_flag x v 0 c else with_reg x v c)
    → IsOn k c (next (if clears then with_flag x v 0 c else with_reg x v c))
on_plain k c x v true known = on_next _ _ _ refl known
on_plain k c x v false known = on_next _ _ _ refl known

-- I is increased; VF is set to whether the sum is above 0FFF, or stays
moved : Core → ℕ → Bool → Core
moved c n flags = if flags then with_reg 15 (bit_of (nat_lt 4095 (c.index + n))) (with_index ((c.index + n) % 65536) c) else with_index ((c.index + n) % 65536) c

on_moved : (k : Known) (c : Core) (n : ℕ) (flags : Bool) → IsKnown k (moved c n flags) → IsOn k c (next (moved c n flags))
unfolding moved
on_moved k c n true known = on_next _ _ _ refl known
on_moved k c n false known = on_next _ _ _ refl known

pub on_sum : (k : Known) (c : Core) (n : ℕ) (flags : Bool) → c.quirks.flags_overflow ≡ flags
    → (flags ≡ true → IsKnown k (with_reg 15 (bit_of (nat_lt 4095 (c.index + n))) (with_index ((c.index + n) % 65536) c)))
    → (flags ≡ false → IsKnown k (with_index ((c.index + n) % 65536) c))
    → IsOn k c (next (with_sum n c))
unfolding moved
on_sum k c n true is does stays = subst (λ f. IsOn k c (next (moved c n f))) (sym is) (on_moved k c n true (does refl))
on_sum k c n false is does stays = subst (λ f. IsOn k c (next (moved c n f))) (sym is) (on_moved k c n false (stays refl))

pub bit_under_two : (test : Bool) → bit_of test < 2
bit_under_two true = omega arith
bit_under_two false = omega arith

-- the size is set, and the screen is cleared or stays
with_new_size : Known → Bool → Known
with_new_size k high = record k { may_be_low = not high; may_be_high = high }

size_is : (high : Bool) → (if high then high else not high) ≡ true
size_is true = refl
size_is false = refl

on_sized : (k : Known) (c : Core) (high clears : Bool) → IsKnown k c
    → IsOn (record k { may_be_low = not high; may_be_high = high }) c (next (with_size high (if clears then with_lit set.empty c else c)))
on_sized k c high true known = record {
  pc_is = refl;
  frames_stay = refl;
  calm = record { same_flags = refl; tape_is = refl; quirks_are = refl; stop_is = refl };
  then_known = record { count = known.count; each = known.each; small = known.small; index = known.index; bound = known.bound; size = size_is high };
}
on_sized k c high false known = record {
  pc_is = refl;
  frames_stay = refl;
  calm = record { same_flags = refl; tape_is = refl; quirks_are = refl; stop_is = refl };
  then_known = record { count = known.count; each = known.each; small = known.small; index = known.index; bound = known.bound; size = size_is high };
}

pub on_resized : (k : Known) (c : Core) (high : Bool) → IsKnown k c
    → IsOn (record k { may_be_low = not high; may_be_high = high }) c (next (resized high c))
on_resized k c high known = on_sized k c high c.quirks.clears_at_size known

-- the key that is down is one of sixteen
either_found : (b : Bool) (a bound : ℕ) (rest : Option ℕ) → a < bound → IfSome rest (λ k. k < bound) → IfSome (cond b (Some a) rest) (λ k. k < bound)
either_found true a bound rest here there = here
either_found false a bound rest here there = there

pub found_below : (test : ℕ → Bool) (a n bound : ℕ) → a + n ≡ bound → IfSome (find test (range_with_len a n)) (λ k. k < bound)
found_below test a zero bound is = tt
found_below test a (suc n) bound is = either_found (test a) a bound _ (omega arith) (found_below test (a + 1) n bound (omega arith))
