use Rattle.std.proofs.Common.{◌+◌, ◌*◌, ℕ}
use Rattle.chip_session.specs.MachineAnswers.{word_line}
use Rattle.chip_views.proofs.Parts.{parts_more}
use Rattle.chip_session.proofs.machine_answer.push_disassembly.Goals as goal

pub loop-place-preserved : goal.loop-place-preserved
loop-place-preserved c =
    let more = parts_more (λ (place : ℕ). word_line c.args.machine.now (c.args.at + 2 * place)) c.args.answer.now.items c.loop-place.place in
    rw (c.in_ok-push_word_line.ensures, c.loop-place.invariant) more
