use Rattle.std.proofs.Common.{◌≡◌, rules, None, false}
use Rattle.std.specs.Prelude.{is_none}
use Rattle.chip_asm.specs.Program.{image_of}
use Rattle.chip_session.specs.Answers.{step_refusal, state_answer}
use Rattle.chip_session.specs.Kept.{machine_after}
use Rattle.chip_session.proofs.AnswerLemmas.{is_answer}
use Rattle.chip_session.proofs.ask.answer_at.Goals as goal

pub returns-in-Ok-clause-answer : goal.returns-in-Ok-clause-answer
returns-in-Ok-clause-answer c =
    let lines = c.args.source.now.lines in
    let some : is_none (image_of lines) ≡ false = search rules in
    let fits : step_refusal c.args.asked c.args.step ≡ None = search rules in
    let told : c.answer.new.out.items ≡ state_answer c.args.asked (machine_after c.args.run.now c.args.step) = search rules in
    is_answer lines c.args.run.now (image_of lines) c.args.asked c.args.step c.answer.new.out.items c.requires.is_last some fits told
