use Rattle.std.proofs.Common.{◌≡◌, ap, sym, ◌∙◌, refl, arith, ◌++◌, [], take, drop, ◌∷◌, rules, append-nil}
use Rattle.chip_trace.specs.Lines.{remaining, newline_ended, states_of}
use Rattle.chip_trace.proofs.Comparing.{same_run, same_runs, none_taken}
use Rattle.chip_trace.proofs.LinesLemmas.{one_line_more, all_taken, more_remain}
use Rattle.chip_trace.proofs.TraceLemmas.{same_states}
use Rattle.chip_trace.proofs.trace.Trace.push_lines.Goals as goal

pub loop-made-init : goal.loop-made-init
loop-made-init c = record { added = sym (append-nil c.args.text.now.items); left = refl; run = same_run c.args.replay.now; to = refl; next = omega arith }

pub loop-made-preserved : goal.loop-made-preserved
loop-made-preserved c =
    let same = same_states c.args.replay.now c.loop-made.replay c.loop-made.invariant.run in
    let line = rw (c.if-not-has_line.false, same) at c.in_ok-has_line.ensures.line in
    let more = one_line_more (remaining (states_of c.args.replay.now) c.args.self.now) _ _ c.loop-made._made c.args.text.now.items _ _ c.loop-made.invariant.added c.loop-made.invariant.left line in
    let added : c.push.new.self.items ≡ c.next_line.new.text.items ++ 10 ∷ [] = search rules in
    record {
      added = added ∙ more.0;
      left = more.1;
      run = same_runs _ _ _ c.loop-made.invariant.run c.in_ok-has_line.ensures.run;
      to = c.next_line.ensures.to ∙ c.loop-made.invariant.to;
      next = omega (arith, c.next_line.ensures.next, c.loop-made.invariant.to, c.loop-made.invariant.next);
    }

pub returns-then-not-has_line-clause-lines : goal.returns-then-not-has_line-clause-lines
returns-then-not-has_line-clause-lines c =
    let same = same_states c.args.replay.now c.loop-made.replay c.loop-made.invariant.run in
    let line = rw (c.if-not-has_line.true, same) at c.in_ok-has_line.ensures.line in
    let none = none_taken _ _ _ _ line in
    let all = all_taken (remaining (states_of c.args.replay.now) c.args.self.now) c.loop-made._made c.args.most (sym c.loop-made.invariant.left ∙ none.0) (omega arith) in
    record {
      added = none.1 ∙ c.loop-made.invariant.added ∙ ap (λ ls. c.args.text.now.items ++ newline_ended ls) all.0;
      left = none.2 ∙ sym all.1;
      answer = (λ e. absurd (cc), λ lt. absurd (omega (arith, all.2)));
    }

pub returns-clause-lines : goal.returns-clause-lines
returns-clause-lines c =
    let whole : c.loop-made._made ≡ c.args.most = omega arith in
    let left : remaining (states_of c.args.replay.now) c.loop-made.self ≡ drop c.args.most (remaining (states_of c.args.replay.now) c.args.self.now) =
    c.loop-made.invariant.left ∙ ap (λ n. drop n (remaining (states_of c.args.replay.now) c.args.self.now)) whole in
    let more = more_remain (states_of c.args.replay.now) c.loop-made.self (remaining (states_of c.args.replay.now) c.args.self.now) c.args.most left in
    record {
      added = c.loop-made.invariant.added ∙ ap (λ n. c.args.text.now.items ++ newline_ended (take n (remaining (states_of c.args.replay.now) c.args.self.now))) whole;
      left = left;
      answer = rw (← c.self.view_is) at more;
    }
