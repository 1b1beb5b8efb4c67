use Rattle.std.proofs.Common.{◌≡◌, rules, false, nat_lt}
use Rattle.std.specs.Prelude.{is_none}
use Rattle.chip_asm.specs.Program.{image_of}
use Rattle.chip_replay.specs.Limits.{last_step}
use Rattle.chip_session.proofs.AnswerLemmas.{is_picture}
use Rattle.chip_session.proofs.picture.picture_at.Goals as goal

pub returns-in-Ok-clause-picture : goal.returns-in-Ok-clause-picture
returns-in-Ok-clause-picture c =
    let lines = c.args.source.now.lines in
    let some : is_none (image_of lines) ≡ false = search rules in
    let fits : nat_lt last_step c.args.step ≡ false = search rules in
    is_picture lines c.args.run.now (image_of lines) c.args.form c.args.step c.in-Ok.picture.items c.requires some fits c.in-Ok.ensures.picture
