use Rattle.std.proofs.Common.{◌∙◌, arith}
use Rattle.chip_session.proofs.ProgressLemmas.{kept_more}
use Rattle.chip_session.proofs.server.Conversation.keep.Goals as goal

pub returns-clause-line : goal.returns-clause-line
returns-clause-line c = λ short. c.in_ok-extend_from_slice.ensures.items
    ∙ kept_more c.args.self.now.line.items c.args.part.now _ short (omega (arith, c.min.ensures, c.saturating_sub-room.ensures, c.len.ensures))
