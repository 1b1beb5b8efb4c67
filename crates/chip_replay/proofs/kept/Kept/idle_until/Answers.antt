use Rattle.std.proofs.Common.{◌≡◌, ◌+◌, ◌-◌, ◌<◌, ◌≤◌, ℕ, Bool, max, true, slice_index, ap, arith, subst, sym, ◌∙◌, refl}
use Rattle.chip_machine.specs.Touched.{touched}
use Rattle.chip_replay.proofs.ByStep.{holds_held, holds_later}
use Rattle.chip_replay.proofs.Sound.{table_same, stays_under}
use Rattle.chip_replay.specs.Keys.{Events, held}
use Rattle.chip_replay.specs.Run.{run}
use Rattle.chip_replay.specs.inner.Changes.{HoldsKeys}
use Rattle.chip_replay.specs.declared.keys.Holding.{Holding}
use Rattle.chip_replay.proofs.kept.Kept.idle_until.Goals as goal

-- a state that doesn't change under the keys of a step doesn't change in any step before the next event
still_in_each : {M : Type 0} (after : M → ℕ → Bool → M) (events : Events) (known : Holding) (at n : ℕ) (s : M) → HoldsKeys events at known → at + n ≤ known.until
    → ((tick : Bool) → after s known.keys tick ≡ s) → (t : ℕ) → at ≤ t → t < at + n → (tick : Bool) → after s (held events t) tick ≡ s
still_in_each after events known at n s holds within still t low high tick =
    subst (λ k. after s k tick ≡ s) (holds_held events t known (holds_later events at t known holds low (omega (arith, high, within)))) (still tick)

pub returns-clause-noted : goal.returns-clause-noted
returns-clause-noted g c = λ is rate start reach was.
    let m = g.M.Traced in
    let events = c.args.keys.now in
    let at = c.args.at in
    let end = at + c.args.count in
    let now = c.args.self.now in
    let table = now.first_touch.items in
    let state = run m.step_of rate (held events) start in
    let still = still_in_each m.step_of events c.hold.new.known at c.args.count now.current c.hold.ensures c.if-at-count.false
    (λ tick. c.stays.ensures.still c.if-not-stays.false c.hold.new.known.keys tick refl) in
    let stays = λ (n : ℕ) (few : n ≤ c.args.count). was.current ∙ sym (stays_under m.step_of rate (held events) start at n
    (λ t low high tick. subst (λ s. m.step_of s (held events t) tick ≡ s) was.current (still t low (omega (arith, high, few)) tick))) in
    let noted = λ (s a : ℕ) (above : max reach at ≤ s) (below : s < max reach end) (touches : touched m.touches (state s) a ≡ true). (
    let place : s ≡ at + (s - at) = omega (arith, above) in
    let same : now.current ≡ state s = stays (s - at) (omega (arith, above, below)) ∙ sym (ap state place) in
    let before : slice_index c.deref.result.now a < at = c.stays.ensures.noted c.if-not-stays.false a (ap (λ x. touched m.touches x a) same ∙ touches) in
    let early : slice_index table a < max reach at = omega (arith, subst (λ xs. slice_index xs a < at) c.deref.ensures.value before) in early) in
    record {
      current = stays c.args.count (omega arith);
      table = table_same (touched m.touches) state table (max reach at) (max reach end) was.table (omega arith) noted;
    }
