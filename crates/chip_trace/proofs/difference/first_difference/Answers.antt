use Rattle.std.proofs.Common.{ap, sym, ◌∙◌, refl, arith, Some}
use Rattle.chip_trace.proofs.Comparing.{taken, none_taken, alike_more, is_first, none_differs, none_some, some_none, some_same, same_runs, no_lines}
use Rattle.chip_trace.proofs.TraceLemmas.{same_states}
use Rattle.chip_trace.proofs.difference.first_difference.Goals as goal

pub returns-then-not-has_line-clause-found : goal.returns-then-not-has_line-clause-found
returns-then-not-has_line-clause-found c =
    let same = same_states c.args.replay.now c.loop-left.replay c.loop-left.invariant.run in
    let none = none_taken _ _ _ _ (rw (c.if-not-has_line.true, same) at c.in_ok-has_line.ensures.line) in
    let so_far = rw (none.0, c.first_line.ensures.first) at c.loop-left.invariant.so_far in
    is_first _ _ _ _ _ so_far (none_some _) refl (ap Some c.in_ok-copied.ensures.copy)

pub returns-then-not-is_alike-clause-found : goal.returns-then-not-is_alike-clause-found
returns-then-not-is_alike-clause-found c =
    let same = same_states c.args.replay.now c.loop-left.replay c.loop-left.invariant.run in
    let line = taken _ _ _ (rw (c.if-not-has_line.false, c.clear.ensures.items, same) at c.in_ok-has_line.ensures.line) in
    let so_far = rw (line, c.first_line.ensures.first) at c.loop-left.invariant.so_far in
    let test = rw c.deref.ensures.value at c.if-not-is_alike.ensures.test in
    is_first _ _ _ _ _ so_far (λ same. absurd (let e = test.1 (some_same _ _ same) in cc)) refl (ap Some c.in_ok-copied-2.ensures.copy)

pub loop-left-preserved : goal.loop-left-preserved
loop-left-preserved c =
    let same = same_states c.args.replay.now c.loop-left.replay c.loop-left.invariant.run in
    let line = taken _ _ _ (rw (c.if-not-has_line.false, c.clear.ensures.items, same) at c.in_ok-has_line.ensures.line) in
    let test = rw c.deref.ensures.value at c.if-not-is_alike.ensures.test in
    record {
      so_far = alike_more _ _ _ _ _ _ c.loop-left.invariant.so_far _ _ _ _ _ line c.first_line.ensures.first (test.0 refl) c.in_ok-ours.ensures.kept;
      run = same_runs _ _ _ c.loop-left.invariant.run c.in_ok-has_line.ensures.run;
      to = c.next_line.ensures.to ∙ c.loop-left.invariant.to;
      next = omega (arith, c.next_line.ensures.next, c.loop-left.invariant.to, c.loop-left.invariant.next);
      room = omega (arith, c.first_line.ensures.shorter, c.loop-left.invariant.room);
    }

pub returns-then-not-is_longer-clause-found : goal.returns-then-not-is_longer-clause-found
returns-then-not-is_longer-clause-found c =
    let same = same_states c.args.replay.now c.loop-left.replay c.loop-left.invariant.run in
    let none = none_taken _ _ _ _ (rw (c.if-not-is_longer.true, same) at c.in_ok-is_longer.ensures.line) in
    none_differs _ _ _ _ _ _ c.loop-left.invariant.so_far none.0 (no_lines c.loop-left.left.now (sym c.is_empty.ensures ∙ c.loop-left-test.false))

pub returns-clause-found : goal.returns-clause-found
returns-clause-found c =
    let same = same_states c.args.replay.now c.loop-left.replay c.loop-left.invariant.run in
    let line = taken _ _ _ (rw (c.if-not-is_longer.false, c.clear-2.ensures.items, same) at c.in_ok-is_longer.ensures.line) in
    let no_more = no_lines c.loop-left.left.now (sym c.is_empty.ensures ∙ c.loop-left-test.false) in
    let so_far = rw (line, no_more) at c.loop-left.invariant.so_far in
    is_first _ _ _ _ _ so_far (some_none _) refl refl
