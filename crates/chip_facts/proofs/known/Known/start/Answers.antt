use Rattle.std.proofs.Common.{◌≡◌, ◌<◌, ◌+◌, ◌*◌, ℕ, Bool, List, length, get_or, replicate, ap, sym, subst, arith, ◌∙◌, true, false, if◌then◌else◌}
use Rattle.std.proofs.lemmas.List.{get_or-replicate}
use Rattle.chip_facts.specs.Sets.{Holds}
use Rattle.chip_facts.specs.inner.Indexes.{HoldsIndex}
use Rattle.chip_facts.specs.inner.Knowing.{HasRegister}
use Rattle.chip_facts.proofs.known.Known.start.Goals as goal

zero_register : (sets registers : List ℕ) → registers ≡ replicate 16 0 → ((x : ℕ) → x < 16 → Holds sets (256 * x)) → (x : ℕ) → x < 16 → HasRegister sets registers x
zero_register sets registers same holds x small =
    let is : get_or registers x 0 ≡ 0 = ap (λ rs. get_or rs x 0) same ∙ get_or-replicate 16 x 0 0 small in
    let place : 256 * x ≡ 256 * x + 0 = omega arith in
    let tiny : 0 < 256 = omega arith in
    record {
      small = subst (λ n. n < 256) (sym is) tiny;
      among = subst (λ n. Holds sets (256 * x + n)) (sym is) (subst (Holds sets) place (holds x small));
    }

pub returns : goal.returns
returns c = λ core registers index delay high.
    record {
      count = ap length registers;
      each = zero_register c.loop-x.registers core.registers registers (λ x small. c.loop-x.invariant x (omega (arith, small, c.loop-x-test.false)));
      small = omega (arith, index);
      index = subst (HoldsIndex c.only.result) (sym index) c.only.ensures;
      bound = omega (arith, delay);
      size = ap (λ (b : Bool). if b then false else true) high;
    }
