use Rattle.std.proofs.Common.{◌≡◌, refl, sym}
use Rattle.chip_host.specs.Printing.{printed_faults}
use Rattle.chip_host.specs.declared.ending.Ending.TheVariants.{Done, Faulty}
use Rattle.chip_bench.proofs.entry.assemble.Goals as goal

pub returns-in-Some-clause-did : goal.returns-in-Some-clause-did
returns-in-Some-clause-did g c = rw (sym c.in-Some.ensures.value) (c.write.ensures.ended, refl)

pub returns-in-Some-clause-written : goal.returns-in-Some-clause-written
returns-in-Some-clause-written g c = λ done.
    let wrote = rw done at c.write.ensures.written in
    rw (sym c.in-Some.ensures.value) wrote

pub returns-in-None-clause-did : goal.returns-in-None-clause-did
returns-in-None-clause-did g c = rw (sym c.in-None.ensures.value) (c.deliver.ensures.wanted (printed_faults c.args.source.now.lines) c.faults.ensures)

pub returns-in-None-clause-written : goal.returns-in-None-clause-written
returns-in-None-clause-written g c = λ done.
    let told = c.deliver.ensures.wanted (printed_faults c.args.source.now.lines) c.faults.ensures in
    let printed = rw done at told in
    absurd (other printed.0)
  where
    other : Done ≡ Faulty → ⊥
    other h = cc
