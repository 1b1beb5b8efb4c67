use Rattle.std.proofs.Common.{◌≡◌, ◌+◌, ◌-◌, ◌/◌, ap, arith}
use Rattle.chip_replay.specs.inner.Changes.{rank, all_events, count_before}
use Rattle.chip_replay.proofs.InOrder.{below_all, above_all}
use Rattle.chip_replay.proofs.by_step.Steps.page.Goals as goal

pub loop-low-preserved-then-rank-wanted : goal.loop-low-preserved-then-rank-wanted
loop-low-preserved-then-rank-wanted c =
    let pages = c.args.self.now.pages.items in
    let es = all_events pages in
    let middle = c.loop-low.low + (c.loop-low.high - c.loop-low.low) / 2 in
    let before = c.loop-low.invariant in
    let found = c.last_of-event.ensures in
    let last = count_before pages (middle + 1) - 1 in
    let at : last + 1 ≡ count_before pages (middle + 1) = omega (arith, found.some) in
    record {
      parted = omega (arith, c.loop-low-test.true);
      within = before.within;
      before = λ i d l. below_all es c.requires last c.args.wanted (omega (arith, at, found.within)) (λ e. omega (arith, ap rank (found.last last e at), c.rank.ensures, c.if-rank-wanted.true)) i d (omega (arith, at));
      after = before.after;
    }

pub loop-low-preserved : goal.loop-low-preserved
loop-low-preserved c =
    let pages = c.args.self.now.pages.items in
    let es = all_events pages in
    let middle = c.loop-low.low + (c.loop-low.high - c.loop-low.low) / 2 in
    let before = c.loop-low.invariant in
    let found = c.last_of-event.ensures in
    let last = count_before pages (middle + 1) - 1 in
    let at : last + 1 ≡ count_before pages (middle + 1) = omega (arith, found.some) in
    record {
      parted = omega arith;
      within = omega (arith, c.loop-low-test.true, before.within);
      before = before.before;
      after = λ i d l from li. above_all es c.requires last c.args.wanted (λ e. omega (arith, ap rank (found.last last e at), c.rank.ensures, c.if-rank-wanted.false)) i d (omega (arith, at, from)) li;
    }
