use Rattle.std.proofs.Common.{◌≡◌, ◌-◌, ◌%◌, ◌<◌, ◌≤◌, ℕ, max, true, slice_index, ap, refl, subst, sym, ◌∙◌, arith}
use Rattle.std.proofs.lemmas.Option.{IfSome_then}
use Rattle.std.proofs.lemmas.Result.{on_ok_weaker}
use Rattle.chip_machine.specs.Touched.{touched}
use Rattle.chip_replay.specs.Run.{run, IsStill}
use Rattle.chip_replay.specs.Keys.{held}
use Rattle.chip_replay.proofs.Spaced.{multiple_left, within_next}
use Rattle.chip_replay.proofs.Sound.{stays_to, table_same}
use Rattle.chip_replay.proofs.kept.Kept.go_to.Goals as goal

pub loop-at-init : goal.loop-at-init
loop-at-init g c =
    let is_at = c.in_ok-at.ensures.known c.args.rate c.requires.right in
    let right = c.in_ok-at.ensures.right c.args.rate c.requires.right in
    rw c.in_ok-at.ensures.others (record {
      spacing = refl;
      right = rw c.in_ok-at.ensures.others at right;
      is_at = rw c.in_ok-at.ensures.others at is_at;
      within = c.in_ok-at.ensures.within;
      reach_kept = omega arith;
      from = omega arith;
      ran_kept = omega arith;
      steps = omega arith;
    })

pub go_on-requires-clause-next : goal.go_on-requires-clause-next
go_on-requires-clause-next g c =
    let now = c.loop-at.self in
    let at = c.loop-at.at in
    let above : 0 < now.spacing = omega (arith, c.loop-at.invariant.spacing, c.requires.spaced) in
    omega (arith, c.min-count.ensures, multiple_left at now.spacing (now.spacing - at % now.spacing) above refl)

pub loop-at-preserved : goal.loop-at-preserved
loop-at-preserved g c =
    let before = c.loop-at.invariant in
    let went = c.in_ok-go_on.ensures in
    record {
      spacing = c.go_on.ensures.spacing ∙ before.spacing;
      right = c.go_on.ensures.right c.args.start.now before.right before.is_at;
      is_at = went.is_at c.args.start.now before.right before.is_at;
      within = omega (arith, c.min-count.ensures, c.loop-at-test.true);
      reach_kept = omega (arith, c.go_on.ensures.reach_kept, before.reach_kept);
      from = omega (arith, before.from);
      ran_kept = omega (arith, c.go_on.ensures.ran_kept, before.ran_kept);
      steps = omega (arith, c.go_on.ensures.made, before.steps, before.from);
    }

-- the current state doesn't change up to the step
pub returns-then-stays-clause-right : goal.returns-then-stays-clause-right
returns-then-stays-clause-right g c =
    let m = g.M.Traced in
    let now = c.loop-at.self in
    let at = c.loop-at.at in
    let step = c.args.step in
    let table = now.first_touch.items in
    let right = c.loop-at.invariant.right in
    let is_at = c.loop-at.invariant.is_at in
    let state = run m.step_of c.args.rate (held c.args.keys.now) c.args.start.now in
    let above : 0 < now.spacing = omega (arith, c.loop-at.invariant.spacing, c.requires.spaced) in
    let stays : IsStill m.step_of now.current = λ down tick. c.stays.ensures.still c.if-stays.true down tick tt in
    let still = subst (IsStill m.step_of) is_at.current stays in
    let noted = λ (s a : ℕ) (ls : now.reach ≤ s) (lm : s < max now.reach step) (touches : touched m.touches (state s) a ≡ true). (
    let same : state s ≡ now.current = stays_to m.step_of c.args.rate (held c.args.keys.now) c.args.start.now at s still (omega (arith, is_at.reached)) ∙ sym is_at.current in
    let before : slice_index c.deref.result.now a < at = c.stays.ensures.noted c.if-stays.true a (sym (ap (λ x. touched m.touches x a) same) ∙ touches) in
    let early : slice_index table a < now.reach = omega (arith, subst (λ xs. slice_index xs a < at) c.deref.ensures.value before, is_at.reached) in early) in
    c.extend.ensures.right c.args.rate c.args.start.now c.args.keys.now (record {
      known = record {
        checkpoints = right.checkpoints;
        table = table_same (touched m.touches) state table now.reach (max now.reach step) right.table (omega arith) noted;
        current = IfSome_then now.current_step right.current (λ t is. record { reached = omega (arith, is.reached); current = is.current; holding = is.holding });
      };
      order = omega (arith, c.loop-at-test.true);
      next = within_next at now.reach now.spacing above is_at.reached;
      current = is_at.current;
      stays = λ l. stays;
    })

pub returns-then-stays-clause-state : goal.returns-then-stays-clause-state
returns-then-stays-clause-state g c =
    let m = g.M.Traced in
    let at = c.loop-at.at in
    let state = run m.step_of c.args.rate (held c.args.keys.now) c.args.start.now in
    let here : c.loop-at.self.current ≡ state at = c.loop-at.invariant.is_at.current in
    let still = subst (IsStill m.step_of) here (λ down tick. c.stays.ensures.still c.if-stays.true down tick tt) in
    let later = stays_to m.step_of c.args.rate (held c.args.keys.now) c.args.start.now at c.args.step still (omega (arith, c.loop-at-test.true)) in
    on_ok_weaker c.extend.result (λ _. rw c.extend.ensures.others (here ∙ sym later)) c.extend.ensures.reached
