use Rattle.std.proofs.Common.{sym}
use Rattle.chip_session.specs.declared.picture.PictureForm.TheVariants.{Text}
use Rattle.chip_bench.specs.Printing.{printed_picture}
use Rattle.chip_bench.proofs.picturing.show.Goals as goal

pub returns-in-None-None : goal.returns-in-None-None
returns-in-None-None g c =
    rw (c.in-None-None.is-0, c.in-None-None.is-1, sym c.letters_of.ensures)
    (c.deliver.ensures.wanted (printed_picture c.args.bench.now.session c.args.arguments.now.run.steps (Text c.letters_of.result)) c.picture_at-picture.ensures.answer)
