use Rattle.std.proofs.Common.{◌≡◌, ℕ, ◌≤◌, Bool, true, false, List, [], Option, Some, None, is_some, ap, sym, ◌∙◌, subst, arith}
use Rattle.std.proofs.lemmas.Bool.{false≢true}
use Rattle.std.proofs.lemmas.Grind.{common_steps}
use Rattle.std.specs.Prelude.{IfSome}
use Rattle.chip_machine.specs.Touched.{is_among, touched}
use Rattle.chip_replay.specs.Run.{run, IsStill}
use Rattle.chip_replay.specs.Keys.{held, Events}
use Rattle.chip_replay.specs.inner.Kept.{IsAt}
use Rattle.chip_replay.specs.declared.keys.Holding.{Holding}
use Rattle.chip_replay.proofs.Changed.{table_cut, table_stays}
use Rattle.chip_replay.proofs.Sound.{stays_to}
use Rattle.chip_replay.proofs.kept.Kept.cut_touches.Goals as goal

-- no later step touches anything
none_later : {M : Type 0} (after : M → ℕ → Bool → M) (touches : M → List ℕ) (rate : ℕ) (events : Events) (start : M) (known reach : ℕ) (current : M) (holding : Holding) (step : Option ℕ)
    → is_some step ≡ true → IfSome step (λ t. t ≤ reach) → IfSome step (IsAt after rate start events current holding known) → IsStill after current → touches current ≡ []
    → (s a : ℕ) → reach ≤ s → touched touches (run after rate (held events) start s) a ≡ false
none_later after touches rate events start known reach current holding None some within is still none s a l = absurd (false≢true some)
none_later after touches rate events start known reach current holding (Some t) some within is still none s a l =
    ap (λ x. touched touches x a) (stays_to after rate (held events) start t s (subst (IsStill after) is.current still) (omega arith) ∙ sym is.current)
    ∙ ap (λ xs. is_among xs a) none

pub returns-clause-table : goal.returns-clause-table
returns-clause-table g c = λ rate start events known was is l.
    let m = g.M.Traced in
    table_cut (touched m.touches) (run m.step_of rate (held events) start) c.args.self.now.first_touch.items _ known c.args.reach was l (grind (arith, common_steps))

pub returns-then-is_still-clause-table : goal.returns-then-is_still-clause-table
returns-then-is_still-clause-table g c = λ rate start events known was is l.
    let m = g.M.Traced in
    let now = c.args.self.now in
    let some : is_some now.current_step ≡ true = cc in
    table_stays (touched m.touches) (run m.step_of rate (held events) start) now.first_touch.items known c.args.reach was l
    (none_later m.step_of m.touches rate events start known c.args.reach now.current now.holding now.current_step some c.requires.within is
    (c.is_still.ensures.still c.if-is_still.true) (c.is_still.ensures.untouched c.if-is_still.true))
