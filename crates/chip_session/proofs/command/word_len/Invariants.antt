use Rattle.std.proofs.Common.{◌≡◌, ℕ, ◌<◌, get_or, false}
use Rattle.chip_session.specs.Commands.{is_space}
use Rattle.chip_session.proofs.command.word_len.Given as goal

abbrev pub invariant-loop-i : goal.invariant-loop-i
invariant-loop-i l = (k : ℕ) → k < l.i → is_space (get_or l.text k 0) ≡ false
