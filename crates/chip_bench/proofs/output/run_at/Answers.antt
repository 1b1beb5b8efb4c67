use Rattle.chip_session.specs.Answers.{answer_to}
use Rattle.chip_session.specs.declared.question.Question.TheVariants.{Registers, Screen}
use Rattle.chip_host.specs.Printing.{printed_faults}
use Rattle.chip_bench.proofs.SessionLemmas.{told_first, told_second}
use Rattle.chip_bench.proofs.output.run_at.Goals as goal

pub returns-in-Err : goal.returns-in-Err
returns-in-Err c =
    let session = c.args.bench.now.session in
    let told = rw c.in-Err.ensures.session at c.unanswered.ensures.answer in
    told_first (answer_to session (Registers c.args.step)) (answer_to session (Screen c.args.step)) c.in-Err.why c.unanswered.result
    (printed_faults session.lines) c.in-Err.ensures.answer.0 told c.unanswered.ensures.memory

pub returns-in-Err-ask : goal.returns-in-Err-ask
returns-in-Err-ask c =
    let session = c.args.bench.now.session in
    let second = rw c.in_default.ensures.session at c.in-Err-ask.ensures.answer in
    let told = rw (c.in-Err-ask.ensures.session, c.in_default.ensures.session) at c.unanswered-in-Err-ask.ensures.answer in
    told_second (answer_to session (Registers c.args.step)) (answer_to session (Screen c.args.step)) _ c.in-Err-ask.why c.unanswered-in-Err-ask.result
    (printed_faults session.lines) c.in_default.ensures.answer second.0 told c.unanswered-in-Err-ask.ensures.memory
