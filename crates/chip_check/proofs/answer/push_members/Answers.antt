use Rattle.std.proofs.Common.{ap}
use Rattle.chip_check.specs.Answer.{answer_members}
use Rattle.chip_check.proofs.AnswerPieces.{one_member}
use Rattle.chip_check.proofs.answer.push_members.Goals as goal

pub returns-in-Within : goal.returns-in-Within
returns-in-Within c =
    one_member c.push_member-in-Within.result c.push_member-in-Within.new.text.items c.args.text.now.items _ _ c.args.outcome.now
    (ap answer_members c.in-Within.is) c.push_member-in-Within.ensures
