use Rattle.chip_session.specs.Pictures.{picture_asked}
use Rattle.chip_host.specs.Printing.{printed_faults}
use Rattle.chip_bench.proofs.SessionLemmas.{told_why}
use Rattle.chip_bench.proofs.output.picture_at.Goals as goal

pub returns-in-Err-clause-answer : goal.returns-in-Err-clause-answer
returns-in-Err-clause-answer c =
    let session = c.args.bench.now.session in
    let told = rw c.in-Err.ensures.session at c.unanswered.ensures.answer in
    told_why (picture_asked session c.args.form c.args.step) c.in-Err.why c.unanswered.result (printed_faults session.lines)
    c.in-Err.ensures.err told c.unanswered.ensures.memory
