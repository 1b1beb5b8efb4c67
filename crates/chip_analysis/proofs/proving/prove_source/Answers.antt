use Rattle.std.proofs.Common.{rules, ◌≡◌, refl, sym, ap, Err}
use Rattle.chip_host.specs.Reading.{image_in}
use Rattle.chip_host.specs.declared.ending.Failure.TheVariants as failure
use Rattle.chip_host.proofs.OpenedLemmas.{short_of}
use Rattle.chip_analysis.specs.Checking.{Checking}
use Rattle.chip_analysis.proofs.ProveLemmas.{by_faults, by_machine, by_short, by_unopened}
use Rattle.chip_analysis.proofs.proving.prove_source.Goals as goal

pub returns-in_default : goal.returns-in_default
returns-in_default g c =
    let asked = c.args.asked.now in
    let json = ap (λ (k : Checking). k.is_json) c.for_faults-checker.ensures in
    let painted = ap (λ (k : Checking). k.is_painted) c.for_faults-checker.ensures in
    let is = rw (json, painted, c.as_bytes-name.ensures.value, sym c.deref.ensures.value) at c.in_ok-text-in-Ok.ensures in
    by_faults g.O.Write.contents c.args.output.now c.print.new.output asked.arguments.now asked.settings.now asked.keys c.args.bytes.now c.print.result
    c.in-Ok.source.lines c.deref.result.now c.in-Ok.ensures.ok.0 c.in-Ok.ensures.ok.1 c.in_default.ensures.value is c.print.ensures

pub returns-in_err-start-in-Ok : goal.returns-in_err-start-in-Ok
returns-in_err-start-in-Ok g c =
    let asked = c.args.asked.now in
    let short : c.from_residual-in_err-start-in-Ok.result ≡ Err failure.OutOfMemory = search rules in
    by_short g.O.Write.contents c.args.output.now c.args.output.now asked.arguments.now asked.settings.now asked.keys c.args.bytes.now
    c.from_residual-in_err-start-in-Ok.result (image_in c.args.bytes.now) short refl

pub returns-in_ok-start-in-Ok : goal.returns-in_ok-start-in-Ok
returns-in_ok-start-in-Ok g c =
    let asked = c.args.asked.now in
    by_machine g.O.Write.contents c.args.output.now c.prove.new.output asked.arguments.now asked.settings.now asked.keys c.args.bytes.now c.prove.result
    c.in-Ok.source.lines c.in-Some.image.now c.in-Ok.ensures.ok.0 c.in-Ok.ensures.ok.1 c.in-Some.ensures.value
    (rw (sym c.rate.ensures.value, sym c.tape-in-Ok.ensures.value, sym c.quirks-in-Ok.ensures, sym c.in_ok-start-in-Ok.ensures) c.prove.ensures)

pub returns-in-Err : goal.returns-in-Err
returns-in-Err g c =
    let asked = c.args.asked.now in
    let json = ap (λ (k : Checking). k.is_json) c.for_faults-checker.ensures in
    let painted = ap (λ (k : Checking). k.is_painted) c.for_faults-checker.ensures in
    let told = rw (json, painted, c.as_bytes-name.ensures.value) at c.unopened.ensures.answer in
    by_unopened g.O.Write.contents c.args.output.now c.deliver.new.output asked.arguments.now asked.settings.now asked.keys c.args.bytes.now c.deliver.result
    c.in-Err.error c.in-Err.ensures.err (c.deliver.ensures.wanted _ told) (λ memory. short_of c.unopened.result (c.unopened.ensures.memory memory) c.deliver.ensures.short)
