use Rattle.std.proofs.Common.{◌≡◌, ◌+◌, ◌*◌, ◌/◌, ◌≤◌, max, subst, arith}
use Rattle.std.proofs.Math.Nat.{mul-le-mul_right}
use Rattle.std.proofs.lemmas.Result.{on_ok_weaker}
use Rattle.chip_machine.specs.Touched.{touched}
use Rattle.chip_replay.specs.Run.{run}
use Rattle.chip_replay.specs.Keys.{held}
use Rattle.chip_replay.specs.inner.Kept.{IsTouched}
use Rattle.chip_replay.proofs.Spaced.{div_mono}
use Rattle.chip_replay.proofs.kept.Kept.go_on.Goals as goal

pub returns-clause-right : goal.returns-clause-right
returns-clause-right g c = λ start right is_at.
    let m = g.M.Traced in
    let was = c.args.self.now in
    let made = c.make_steps-made.ensures in
    let state = run m.step_of c.args.rate (held c.args.keys.now) start in
    let known : was.reach ≡ max was.reach c.args.at = omega (arith, is_at.reached) in
    let noted = made.noted start was.reach (record {
      current = is_at.current;
      table = subst (λ n. IsTouched (touched m.touches) state n was.first_touch.items) known right.table;
    }) in
    let next : (c.args.at / was.spacing + 1) * was.spacing ≤ (was.reach / was.spacing + 1) * was.spacing =
    mul-le-mul_right was.spacing (omega (arith, div_mono c.args.at was.reach was.spacing c.requires.spaced is_at.reached)) in
    c.extend.ensures.right c.args.rate start c.args.keys.now (rw made.others (record {
      known = record {
        checkpoints = right.checkpoints;
        table = noted.table;
        current = record { reached = omega arith; current = noted.current; holding = made.holding };
      };
      order = omega arith;
      next = omega (arith, c.requires.next, next);
      current = noted.current;
      stays = λ l. absurd (omega arith);
    }))

pub returns-clause-is_at : goal.returns-clause-is_at
returns-clause-is_at g c = on_ok_weaker c.extend.result (λ reached start right is_at.
    let m = g.M.Traced in
    let was = c.args.self.now in
    let made = c.make_steps-made.ensures in
    let known : was.reach ≡ max was.reach c.args.at = omega (arith, is_at.reached) in
    let noted = made.noted start was.reach (record {
      current = is_at.current;
      table = subst (λ n. IsTouched (touched m.touches) (run m.step_of c.args.rate (held c.args.keys.now) start) n was.first_touch.items) known right.table;
    }) in
    rw c.extend.ensures.others (record { reached = reached; current = noted.current; holding = made.holding })) c.extend.ensures.reached
