use Rattle.std.proofs.Common.{◌+◌, ap, sym}
use Rattle.chip_facts.specs.inner.Knowing.{IsKnown}
use Rattle.chip_facts.proofs.Knowing.{same_register}
use Rattle.chip_machine.specs.Step.{with_reg}
use Rattle.std.proofs.Common.{subst}
use Rattle.chip_facts.proofs.transfer.Before.jumped.Goals as goal

pub returns : goal.returns
returns c = λ s at is. record {
  pc = ap (λ n. n + c.args.byte) (sym c.number.ensures.value);
  frames_are = at.frames_are;
  known = same_register c.put.new.self s.core c.args.x
      (subst (λ b. IsKnown c.put.new.self (with_reg c.args.x b s.core)) (sym is) (c.put.ensures.known s.core c.args.byte at.known c.single.ensures));
}
