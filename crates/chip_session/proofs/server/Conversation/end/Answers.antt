use Rattle.std.proofs.Common.{◌≡◌, ◌==◌, ◌<◌, ℕ, Bool, true, false, arith}
use Rattle.std.proofs.lemmas.Bool.Decides.{nat_tests}
use Rattle.chip_session.proofs.ProgressLemmas.{ended_empty, ended_said}
use Rattle.chip_session.proofs.server.Conversation.end.Goals as goal

zero : (n m : ℕ) (test : Bool) → n ≡ m → test ≡ (n == 0) → test ≡ true → m ≡ 0
zero n m test same is holds = grind (arith, nat_tests)

above_zero : (n m : ℕ) (test : Bool) → n ≡ m → test ≡ (n == 0) → test ≡ false → 0 < m
above_zero n m test same is fails = grind (arith, nat_tests)

pub returns-then-is_empty-clause-ended : goal.returns-then-is_empty-clause-ended
returns-then-is_empty-clause-ended g c = λ start before given r. ended_empty r (zero _ _ _ (omega arith) c.is_empty.ensures c.if-is_empty.true)

pub returns-clause-ended : goal.returns-clause-ended
returns-clause-ended g c = λ start before given r. ended_said _ c.say.result r (above_zero _ _ _ (omega arith) c.is_empty.ensures c.if-is_empty.false) (rw c.deref.ensures.value at c.say.ensures.said)
