use Rattle.std.proofs.Common.{◌≡◌, ◌++◌, ◌-◌, ◌%◌, map}
use Rattle.rand_core.specs.Steps.{first_words}
use Rattle.rand_pcg.specs.Pcg.{pcg32}
use Rattle.chip_session.specs.Tape.{tape_of}
use Rattle.chip_session.proofs.tape.tape_of.Given as goal

abbrev pub invariant-loop : goal.invariant-loop
invariant-loop l =
    l.tape.items ++ map (λ word. word % 256) (first_words pcg32 (256 - l.counter) l.generator) ≡ tape_of l.fn.seed
