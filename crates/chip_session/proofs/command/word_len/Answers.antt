use Rattle.std.proofs.Common.{sym, arith, length, eq-eqb, get_or}
use Rattle.std.proofs.lemmas.List.Sums.{position_or_len_is}
use Rattle.chip_session.specs.Commands.{is_space}
use Rattle.chip_session.proofs.command.word_len.Goals as goal

pub returns-then-byte-eq32-clause-value : goal.returns-then-byte-eq32-clause-value
returns-then-byte-eq32-clause-value c =
    sym (position_or_len_is is_space c.args.text.now c.loop-i.i 0 (omega arith) c.loop-i.invariant (λ _. eq-eqb (get_or c.args.text.now c.loop-i.i 0) 32 c.if-byte-eq32.true))

pub returns-clause-value : goal.returns-clause-value
returns-clause-value c =
    sym (position_or_len_is is_space c.args.text.now (length c.args.text.now) 0 (omega arith) (λ k h. c.loop-i.invariant k (omega arith)) (λ h. absurd (omega (arith, h))))
