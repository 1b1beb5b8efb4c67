use Rattle.std.proofs.Common.{refl, Some, None}
use Rattle.chip_session.specs.Answers.{machine_of}
use Rattle.chip_bench.proofs.tracing.difference.Goals as goal

pub returns-in-Ok-None : goal.returns-in-Ok-None
returns-in-Ok-None c =
    let found = rw (c.new-trace.ensures.lines (machine_of c.args.bench.now.session), c.in-Ok-None.field-0-is) at c.in-Ok-None.ensures.found in
    (None, found, rw c.new.ensures.items refl)

pub returns-in-Ok-Some : goal.returns-in-Ok-Some
returns-in-Ok-Some c =
    let found = rw (c.new-trace.ensures.lines (machine_of c.args.bench.now.session), c.in-Ok-Some.field-0-is) at c.in-Ok-Some.ensures.found in
    (Some c.in-Ok-Some.found, found, (refl, c.in_ok-text-in-Ok-Some.ensures))
