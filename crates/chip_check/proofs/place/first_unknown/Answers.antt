use Rattle.std.proofs.Common.{arith}
use Rattle.chip_lang.proofs.TokenList.{each_lies_in}
use Rattle.chip_check.proofs.TokenPlaces.{rises_there}
use Rattle.chip_check.proofs.place.first_unknown.Goals as goal

pub is_unknown-requires : goal.is_unknown-requires
is_unknown-requires c =
    let inside = each_lies_in c.args.line.now 0 c.args.tokens.now c.loop-token.token-index _ c.requires c.loop-token-test.true in
    record { rises = omega (arith, inside.rises); inside = inside.inside }

pub returns-then-branch-clause-rises : goal.returns-then-branch-clause-rises
returns-then-branch-clause-rises c =
    rises_there c.args.line.now c.args.tokens.now c.loop-token.token-index _ c.requires c.loop-token-test.true

pub returns-then-branch-clause-inside : goal.returns-then-branch-clause-inside
returns-then-branch-clause-inside c =
    (each_lies_in c.args.line.now 0 c.args.tokens.now c.loop-token.token-index _ c.requires c.loop-token-test.true).inside
