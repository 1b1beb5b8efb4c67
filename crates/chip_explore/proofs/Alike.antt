-- States that are alike except for their forgotten parts.
use Rattle.std.proofs.Common.{◌≡◌, ◌==◌, ◌-◌, ◌<◌, ℕ, Bool, true, false, inl, inr, is_some, nat_le, ap, subst, sym, ◌∙◌, refl, arith}
use Rattle.std.proofs.lemmas.Bool.{and_right}
use Rattle.std.proofs.lemmas.Nat.Bits.{bit_at-zero}
use Rattle.chip_machine.specs.Forgotten.{AreWithin, far_part, has_byte, has_part, register_part, index_part, screen_part}
use Rattle.chip_machine.specs.Relevant.{Alike, AreNear}
use Rattle.chip_machine.specs.declared.limits.TheConstants.{DIGITS_END}
use Rattle.chip_machine.specs.State.{Core, State, IsProper}
use Rattle.chip_explore.specs.declared.setting.Setting.{Setting}
use Rattle.chip_explore.specs.inner.Delays.{AlikeTicks, with_delay}
use Rattle.chip_explore.proofs.Delays.{alike_delayed}

unless : (b c : Bool) → (b ≡ true → c ≡ true) → c ≡ false → b ≡ false
unless true c h none = let up : c ≡ true = h refl in absurd (cc)
unless false c h none = refl

no_part : (part : ℕ) → has_part 0 part ≡ false
no_part part = ap (λ b. b == 1) (bit_at-zero part)

no_byte : (at : ℕ) → has_byte 0 at ≡ false
no_byte at = and_right (nat_le 0 at) _ (ap (λ b. b == 1) (bit_at-zero (at - 0)))

pub all_within : (f : ℕ) → AreWithin 0 f
all_within f =
    record {
      parts = λ part up. let down = no_part part in absurd (cc);
      bytes = λ at up. let down = no_byte at in absurd (cc);
    }

pub within_both : (f g h : ℕ) → AreWithin f g → AreWithin g h → AreWithin f h
within_both f g h first second =
    record { parts = λ part up. second.parts part (first.parts part up); bytes = λ at up. second.bytes at (first.bytes at up) }

pub alike_same : (s : State) → IsProper s → Alike 0 s s
alike_same s proper =
    record {
      proper = proper;
      others = refl;
      size = refl;
      draws = refl;
      count = refl;
      registers = λ going x known. refl;
      index = λ going known. refl;
      near = λ going known. inl refl;
      screen = λ going known. refl;
      memory = λ going at known. refl;
    }

near_through : (i j k : ℕ) → AreNear i j → AreNear j k → AreNear i k
near_through i j k (inl same) there = subst (λ (n : ℕ). AreNear n k) (sym same) there
near_through i j k (inr low) (inl same) = inr (low.0, subst (λ (n : ℕ). n < DIGITS_END) same low.1)
near_through i j k (inr low) (inr more) = inr (low.0, more.1)

module _ (f : ℕ) (a b : State) (h : Alike f a b) where
  pub same_stop : is_some a.core.stopped ≡ is_some b.core.stopped
  same_stop = ap (λ (c : Core). is_some c.stopped) h.others

  pub alike_within : (g : ℕ) → AreWithin f g → Alike g a b
  alike_within g within =
      record {
        proper = h.proper;
        others = h.others;
        size = h.size;
        draws = h.draws;
        count = h.count;
        registers = λ going x known. h.registers going x (unless (has_part f (register_part x)) (has_part g (register_part x)) (within.parts (register_part x)) known);
        index = λ going known. h.index going (unless (has_part f index_part) (has_part g index_part) (within.parts index_part) known);
        near = λ going known. h.near going (unless (has_part f far_part) (has_part g far_part) (within.parts far_part) known);
        screen = λ going known. h.screen going (unless (has_part f screen_part) (has_part g screen_part) (within.parts screen_part) known);
        memory = λ going at known. h.memory going at (unless (has_byte f at) (has_byte g at) (within.bytes at) known);
      }

  pub alike_through : (c : State) → Alike f b c → Alike f a c
  alike_through c k =
      record {
        proper = h.proper;
        others = h.others ∙ k.others;
        size = h.size ∙ k.size;
        draws = h.draws ∙ k.draws;
        count = h.count ∙ k.count;
        registers = λ going x known. h.registers going x known ∙ k.registers (sym same_stop ∙ going) x known;
        index = λ going known. h.index going known ∙ k.index (sym same_stop ∙ going) known;
        near = λ going known. near_through a.core.index b.core.index c.core.index (h.near going known) (k.near (sym same_stop ∙ going) known);
        screen = λ going known. h.screen going known ∙ k.screen (sym same_stop ∙ going) known;
        memory = λ going at known. h.memory going at known ∙ k.memory (sym same_stop ∙ going) at known;
      }

-- the same, if the delay timer of the first state may be a bound
pub ticks_same : (p : Setting) (s : State) → IsProper s → AlikeTicks p 0 s s
ticks_same p s proper = record { delay = s.core.delay; most = omega arith; exact = λ _. refl; alike = alike_same s proper }

pub through_member : (p : Setting) (f g : ℕ) (m a b : State) → AreWithin f g → Alike g m a → AlikeTicks p f a b → AlikeTicks p g m b
through_member p f g m a b within joined near =
    let same : m.core.delay ≡ a.core.delay = ap (λ (c : Core). c.delay) joined.others in
    let most = near.most in
    record {
      delay = near.delay;
      most = omega arith;
      exact = λ at_rate. near.exact at_rate ∙ sym same;
      alike =
          alike_through g (with_delay near.delay m) (with_delay near.delay a) (alike_delayed g near.delay m a joined) b
          (alike_within f (with_delay near.delay a) b near.alike g within);
    }
