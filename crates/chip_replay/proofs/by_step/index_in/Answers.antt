use Rattle.std.proofs.Common.{◌+◌, ◌-◌, ◌/◌, ◌<◌, false, length, ap, arith}
use Rattle.std.proofs.lemmas.List.{get_or_default}
use Rattle.chip_replay.specs.inner.Changes.{rank}
use Rattle.chip_replay.specs.declared.by_step.Event.{Event}
use Rattle.chip_replay.proofs.InOrder.{below_all, above_all}
use Rattle.chip_replay.proofs.by_step.index_in.Goals as goal

pub loop-low-preserved-then-rank-wanted : goal.loop-low-preserved-then-rank-wanted
loop-low-preserved-then-rank-wanted c =
    let es = c.args.events.now in
    let middle = c.loop-low.low + (c.loop-low.high - c.loop-low.low) / 2 in
    let before = c.loop-low.invariant in
    let none : Event = record { step = 0; key = 0; down = false } in
    let inside : middle < length es = omega (arith, before.within, c.loop-low-test.true) in
    record {
      parted = omega (arith, c.loop-low-test.true);
      within = before.within;
      before = below_all es c.requires middle c.args.wanted inside (λ d. omega (arith, ap rank (get_or_default es middle d none inside), c.rank.ensures, c.if-rank-wanted.true));
      after = before.after;
    }

pub loop-low-preserved : goal.loop-low-preserved
loop-low-preserved c =
    let es = c.args.events.now in
    let middle = c.loop-low.low + (c.loop-low.high - c.loop-low.low) / 2 in
    let before = c.loop-low.invariant in
    let none : Event = record { step = 0; key = 0; down = false } in
    let inside : middle < length es = omega (arith, before.within, c.loop-low-test.true) in
    record {
      parted = omega arith;
      within = omega (arith, inside);
      before = before.before;
      after = above_all es c.requires middle c.args.wanted (λ d. omega (arith, ap rank (get_or_default es middle d none inside), c.rank.ensures, c.if-rank-wanted.false));
    }
