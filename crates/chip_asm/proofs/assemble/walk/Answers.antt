use Rattle.std.proofs.Common.{◌≡◌, arith, length, subst}
use Rattle.chip_asm.specs.inner.Passes.{IsUnderWay}
use Rattle.chip_asm.proofs.assemble.walk.Goals as goal

pub loop-place-init : goal.loop-place-init
loop-place-init c = record { within = c.run-place.ensures.within; under_way = c.run-place.ensures.under_way }

pub pass_line-requires-clause-under_way : goal.pass_line-requires-clause-under_way
pass_line-requires-clause-under_way c = (c.requires.0, c.loop-place.invariant.under_way c.requires.0 c.requires.1)

pub run-place-requires-in-loop-place : goal.run-place-requires-in-loop-place
run-place-requires-in-loop-place c = (c.requires.0, c.pass_line.ensures c.requires.0 (c.loop-place.invariant.under_way c.requires.0 c.requires.1))

pub loop-place-preserved : goal.loop-place-preserved
loop-place-preserved c = record {
  within = c.run-place-in-loop-place.ensures.within;
  under_way = λ e u. c.run-place-in-loop-place.ensures.under_way e (c.pass_line.ensures e (c.loop-place.invariant.under_way e u));
}

pub returns : goal.returns
returns c = λ e u.
    (let all : c.loop-place.place ≡ length c.args.lines.now = omega (arith, c.loop-place.invariant.within, c.loop-place-test.false) in
    subst (IsUnderWay e c.args.lines.now c.loop-place.pass c.loop-place.placements c.loop-place.tally c.args.from.now c.loop-place.image) all (c.loop-place.invariant.under_way e u))
