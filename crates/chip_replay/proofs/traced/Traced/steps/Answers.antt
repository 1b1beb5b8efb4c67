use Rattle.std.proofs.Common.{◌≡◌, ℕ, ◌+◌, add-one, ap, ◌∙◌, subst, cond, min, slice_index, arith}
use Rattle.chip_machine.specs.Block.{first_noted, ticks}
use Rattle.chip_machine.specs.Touched.{touched}
use Rattle.chip_replay.proofs.TracedLaws.{is_among-same}
use Rattle.chip_replay.proofs.traced.Traced.steps.Goals as goal

pub loop-made-preserved : goal.loop-made-preserved
loop-made-preserved g c =
    let m = g.Self.Traced in
    let before = c.loop-made.invariant in
    let held = g.K.HeldKeys.held c.args.keys.now in
    let start = c.args.self.now in
    let from = c.args.from in
    let rate = c.args.rate in
    let made = c.loop-made.made in
    let n = from + made in
    let place : n + 1 ≡ from + (made + 1) = omega arith in
    let down : c.at-down.result ≡ held n = c.at-down.ensures.keys ∙ ap (λ (h : ℕ → ℕ). h n) before.keys in
    record {
      state = rw add-one (
          c.step.ensures.state
          ∙ ap (λ k. m.step_of c.loop-made.self k (ticks rate n)) down
          ∙ ap (λ s. m.step_of s (held n) (ticks rate n)) before.state);
      size = omega (arith, c.note.auto.first_touch, before.size);
      noted = λ at l. rw add-one (
          let known = slice_index c.loop-made.first_touch at in
          let old = first_noted m.step_of rate held from start (touched m.touches) at (slice_index c.args.first_touch.now at) made in
          c.note.ensures at l
          ∙ ap (λ b. cond b (min known n) known) (is_among-same c.step.new.touch (m.touches c.loop-made.self) at (c.step.ensures.touched at))
          ∙ ap (λ v. cond (touched m.touches c.loop-made.self at) (min v n) v) (before.noted at l)
          ∙ ap (λ s. cond (touched m.touches s at) (min old n) old) before.state);
      keys = c.at-down.ensures.same ∙ before.keys;
      ready = subst (g.K.HeldKeys.is_ready c.at-down.new.self) place c.at-down.ensures.ready;
    }
