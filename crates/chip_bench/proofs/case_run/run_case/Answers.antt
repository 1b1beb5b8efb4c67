use Rattle.std.proofs.Common.{map}
use Rattle.chip_cases.specs.Steps.{expectation_of}
use Rattle.chip_bench.proofs.TestLemmas.{not_case, passes_case, unmade_case}
use Rattle.chip_bench.proofs.case_run.run_case.Goals as goal

pub returns-in-Ok-Ok : goal.returns-in-Ok-Ok
returns-in-Ok-Ok c =
    passes_case c.args.settings c.args.source.now c.args.keys.now.bytes.items (map expectation_of c.args.steps.now) _ _
    (rw c.in-Ok-Ok.field-0-is at c.in-Ok-Ok.ensures.opened) c.in_ok-others-in-Ok-Ok.ensures

pub returns-in-Ok-Err : goal.returns-in-Ok-Err
returns-in-Ok-Err c =
    not_case c.args.settings c.args.source.now c.args.keys.now.bytes.items (map expectation_of c.args.steps.now) c.in-Ok-Err.error
    c.in_default.not-OutOfMemory (rw c.in-Ok-Err.field-0-is at c.in-Ok-Err.ensures.unopened)

pub returns-in-Err-BadKeys : goal.returns-in-Err-BadKeys
returns-in-Err-BadKeys c =
    unmade_case c.args.settings c.args.source.now c.args.keys.now.bytes.items (map expectation_of c.args.steps.now) _ _ _
    (rw c.in-Err-BadKeys.field-0-is at c.in-Err-BadKeys.ensures.err)
