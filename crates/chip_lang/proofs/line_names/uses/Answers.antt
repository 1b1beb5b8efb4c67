use Rattle.std.proofs.Common.{◌∙◌, ap, drop}
use Rattle.std.proofs.lemmas.List.{drop-drop}
use Rattle.chip_lang.specs.SeenLine.{seen_line}
use Rattle.chip_lang.specs.Uses.{names_used}
use Rattle.chip_lang.proofs.line_names.uses.Goals as goal

pub loop-preserved : goal.loop-preserved
loop-preserved c =
    c.next.ensures.rest ∙ ap (drop 1) c.loop.invariant
    ∙ drop-drop 1 c.loop.counter (names_used (seen_line c.args.line.now))
