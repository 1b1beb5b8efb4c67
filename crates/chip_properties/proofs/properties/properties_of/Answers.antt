use Rattle.std.proofs.Common.{◌≤◌, length, arith}
use Rattle.chip_asm.specs.LineViews.{line_facts}
use Rattle.chip_properties.proofs.Told.{none_yet, up_to_more, all_told}
use Rattle.chip_properties.proofs.properties.properties_of.Goals as goal

pub loop-index-init : goal.loop-index-init
loop-index-init c = none_yet c.args.source.now.lines _ c.new.ensures.items c.new-2.ensures.items

pub loop-index-preserved : goal.loop-index-preserved
loop-index-preserved c = up_to_more c.args.source.now.lines c.loop-index.index c.loop-index.found _ c.loop-index.invariant c.in_ok-read_line.ensures

pub returns : goal.returns
returns c =
    let many : length (line_facts c.args.source.now.lines) ≤ c.loop-index.index = omega (arith, c.lines-index-end.ensures.told, c.loop-index-test.false) in
    all_told c.args.source.now.lines c.loop-index.index c.loop-index.found many c.loop-index.invariant
