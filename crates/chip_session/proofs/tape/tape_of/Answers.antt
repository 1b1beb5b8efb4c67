use Rattle.std.proofs.Common.{◌∙◌, ◌++◌, sym, ap, append-nil, List, ℕ}
use Rattle.chip_session.proofs.TapeLemmas.{lowest_bytes-next, no_more}
use Rattle.chip_session.proofs.tape.tape_of.Goals as goal

pub loop-preserved : goal.loop-preserved
loop-preserved c = rw c.in_ok-push.ensures.items (lowest_bytes-next c.loop.tape.items c.loop.generator _ _ c.loop.counter c.loop-test.true c.next_word-lowest.ensures ∙ c.loop.invariant)

pub returns : goal.returns
returns c =
    sym (append-nil _) ∙ ap (λ (rest : List ℕ). c.loop.tape.items ++ rest) (sym (no_more c.loop.generator c.loop.counter c.loop-test.false)) ∙ c.loop.invariant
