-- The successors of a step, given what is known before it.
use Rattle.std.proofs.Common.{◌≡◌, ℕ, ◌+◌, ◌/◌, ◌%◌, ◌==◌, ◌<◌, ◌⊎◌, inl, inr, nat_lt, nat_le, Bool, true, false, not, if◌then◌else◌, ◌++◌, Any, MatchOption, Option, Some, None, option_to_list, refl, sym, ap, ◌∙◌, arith, subst}
use Rattle.std.proofs.lemmas.Bool.{cases_eq}
use Rattle.chip_machine.specs.State.{Core, State}
use Rattle.chip_machine.specs.Step.{bit_of}
use Rattle.chip_facts.specs.inner.Operations.{flag_of}
use Rattle.chip_facts.specs.declared.operation.Operation.{Operation}
use Rattle.chip_facts.specs.declared.operation.Operation.TheVariants as op
use Rattle.chip_facts.specs.inner.Knowing.{IsKnown}
use Rattle.chip_facts.specs.inner.Steps.{IsNext, frames_by}
use Rattle.chip_facts.specs.inner.Transfer.{IsAt}
use Rattle.chip_facts.specs.declared.known.Known.{Known}
use Rattle.chip_facts.specs.declared.outcome.Successor.{Successor}
use Rattle.chip_facts.specs.declared.outcome.Way.TheVariants as way
use Rattle.chip_facts.specs.declared.transfer.Before.{Before}

-- a core at a later instruction, with the same call stack
pub is_past : (before : Before) (s : State) (by : ℕ) (n : Successor) (k : Known) (c : Core) → IsAt before s
    → n.pc ≡ before.pc + by → n.known ≡ k → n.way ≡ way.Same
    → c.pc ≡ s.core.pc + by → c.frames ≡ s.core.frames → IsKnown k c → IsNext before.frames.now c n
is_past before s by n k c at pc known same pc-c frames-c is = record {
  pc = pc-c ∙ ap (λ p. p + by) at.pc ∙ sym pc;
  frames_are = frames-c ∙ at.frames_are ∙ ap (λ w. frames_by w before.frames.now) (sym same);
  known = subst (λ k. IsKnown k c) (sym known) is;
}

-- one of two successors that may exist
pub any_first : (P : Successor → Type 0) (one two : Option Successor) → MatchOption one ⊥ P → Any P (option_to_list one ++ option_to_list two)
any_first P None two h = absurd h
any_first P (Some n) two h = (0, n, omega arith, refl, h)

pub any_second : (P : Successor → Type 0) (one two : Option Successor) → MatchOption two ⊥ P → Any P (option_to_list one ++ option_to_list two)
any_second P one None h = absurd h
any_second P None (Some n) h = (0, n, omega arith, refl, h)
any_second P (Some m) (Some n) h = (1, n, omega arith, refl, h)

under_two : (n : ℕ) → n < 2 → (n ≡ 0) ⊎ (n ≡ 1)
under_two n small = elim (cases_eq n 0) [ inl zero ↦ inl zero | inr other ↦ inr (omega arith) ]

bit_small : (test : Bool) → (bit_of test ≡ 0) ⊎ (bit_of test ≡ 1)
bit_small true = inr refl
bit_small false = inl refl

-- the flag of an operation on bytes is 0 or 1
pub flag_small : (operation : Operation) (a b : ℕ) → b < 256 → (flag_of operation a b ≡ 0) ⊎ (flag_of operation a b ≡ 1)
flag_small op.Second a b small = inl refl
flag_small op.Or a b small = inl refl
flag_small op.And a b small = inl refl
flag_small op.Xor a b small = inl refl
flag_small op.Sum a b small = inl refl
flag_small op.Add a b small = bit_small (nat_lt 255 (a + b))
flag_small op.Subtract a b small = bit_small (nat_le b a)
flag_small op.SubtractFrom a b small = bit_small (nat_le a b)
flag_small op.ShiftRight a b small = under_two (b % 2) (omega arith)
flag_small op.ShiftLeft a b small = under_two (b / 128) (omega arith)
flag_small op.Compare a b small = bit_small (a == b)

-- one of the two results of an operation with a flag is impossible
pub either_way : (before : Before) (c : Core) (operation : Operation) (a b : ℕ) (one two : Option Successor) → b < 256
    → (flag_of operation a b ≡ 0 → MatchOption one ⊥ (IsNext before.frames.now c))
    → (flag_of operation a b ≡ 1 → MatchOption two ⊥ (IsNext before.frames.now c))
    → Any (IsNext before.frames.now c) (option_to_list one ++ option_to_list two)
either_way before c operation a b one two small first second =
    elim (flag_small operation a b small) [
      | inl zero ↦ any_first _ one two (first zero)
      | inr is ↦ any_second _ one two (second is)
    ]

-- a skip if two bytes are equal or if they differ, given the result of comparing them
pub where_other : (test if_same : Bool) → bit_of test ≡ 0 → (if if_same then test else not test) ≡ not if_same
where_other true same h = absurd (let no : 1 ≡ 0 = h in omega arith)
where_other false true h = refl
where_other false false h = refl

pub where_same : (test if_same : Bool) → bit_of test ≡ 1 → (if if_same then test else not test) ≡ if_same
where_same false same h = absurd (let no : 0 ≡ 1 = h in omega arith)
where_same true true h = refl
where_same true false h = refl
