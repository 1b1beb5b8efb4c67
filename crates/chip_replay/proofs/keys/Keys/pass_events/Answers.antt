use Rattle.std.proofs.Common.{◌≡◌, ℕ, ◌+◌, ◌-◌, ◌<◌, false, ◌∙◌, length, slice_index_or, ap, inl, inr, arith}
use Rattle.std.proofs.lemmas.Bool.{cases_lt}
use Rattle.chip_replay.specs.Keys.{Events, event_at}
use Rattle.chip_replay.specs.inner.Changes.{all_events, index_of}
use Rattle.chip_replay.specs.declared.by_step.Event.{Event}
use Rattle.chip_replay.proofs.InOrder.{steps_rise}
use Rattle.chip_replay.proofs.ByStep.{length-after, up_to_first, up_to_passed, up_to_holds}
use Rattle.chip_replay.proofs.keys.Keys.pass_events.Goals as goal

pub loop-until-init : goal.loop-until-init
loop-until-init c =
    let pages = c.self.inside.steps.pages.items in
    let es = all_events pages in
    let place = index_of pages c.first_from-place.result in
    let found = c.first_from-place.ensures.first in
    let says = λ (s k : ℕ) (lk : k < 16). c.self.invariant.1 s k lk ∙ ap (λ (e : Events). event_at e s k) c.self.view_is in
    record {
      size = c.requires.known.size;
      as_mask = c.requires.known.as_mask;
      place = c.first_from-place.ensures.place;
      within = found.at_most;
      next = c.step_at-until.ensures.there;
      past = c.step_at-until.ensures.past;
      early = λ i d l. omega (arith, found.before i d l, c.requires.passed);
      up_to = up_to_first c.args.self.now es c.self.invariant.2 says c.args.known.now.until place c.args.known.now.down found
          (λ k l. c.requires.known.before c.args.known.now.until k (omega (arith, c.requires.passed)) (omega arith) l);
    }

pub pass-passed-requires-clause-keys : goal.pass-passed-requires-clause-keys
pass-passed-requires-clause-keys c = λ i d l.
    let pages = c.self.inside.steps.pages.items in
    let place = index_of pages c.loop-until.place in
    let part = c.rest_of_page-events.ensures in
    omega (arith, c.self.invariant.2.keys (place + i) d (omega (arith, l, part.within)), ap (λ (x : Event). x.key) (part.same i d l))

pub loop-until-preserved : goal.loop-until-preserved
loop-until-preserved c =
    let pages = c.self.inside.steps.pages.items in
    let es = all_events pages in
    let events = c.rest_of_page-events.result.now in
    let part = c.rest_of_page-events.ensures in
    let pass = c.pass-passed.ensures in
    let passed = c.pass-passed.result in
    let place = index_of pages c.loop-until.place in
    let before = c.loop-until.invariant in
    let says = λ (s k : ℕ) (lk : k < 16). c.self.invariant.1 s k lk ∙ ap (λ (e : Events). event_at e s k) c.self.view_is in
    let next : index_of pages c.later-place.result ≡ place + passed = c.later-place.ensures.later in
    record {
      size = ap length pass.down ∙ length-after c.loop-until.known.down events passed ∙ before.size;
      as_mask = pass.mask;
      place = c.later-place.ensures.place;
      within = omega (arith, part.within, pass.at_most, next);
      next = c.step_at-until-in-loop-until.ensures.there;
      past = c.step_at-until-in-loop-until.ensures.past;
      early = λ i d l. elim (cases_lt i place) [
        | inl a ↦ before.early i d a
        | inr a ↦ (
            let among : i - place < passed = omega (arith, l, next, a) in
            let at : place + (i - place) ≡ i = omega (arith, a) in
            omega (arith, pass.early (i - place) d among, ap (λ (x : Event). x.step) (part.same (i - place) d (omega (arith, among, pass.at_most))), ap (λ n. (slice_index_or es n d).step) at))
      ];
      up_to = rw (next, pass.down) (up_to_passed c.args.self.now es c.self.invariant.2 says c.args.known.now.until place c.loop-until.known.down events passed part.within part.same pass.at_most before.size before.up_to);
    }

-- the event at the position is one of those that are passed
pub loop-until-smaller : goal.loop-until-smaller
loop-until-smaller c =
    let pages = c.self.inside.steps.pages.items in
    let es = all_events pages in
    let part = c.rest_of_page-events.ensures in
    let events = c.rest_of_page-events.result.now in
    let pass = c.pass-passed.ensures in
    let passed = c.pass-passed.result in
    let place = index_of pages c.loop-until.place in
    let before = c.loop-until.invariant in
    let none : Event = record { step = 0; key = 0; down = false } in
    let inside : place < length es = omega (arith, part.some, part.within) in
    let next : index_of pages c.later-place.result ≡ place + passed = c.later-place.ensures.later in
    let some : 0 < passed = elim (cases_lt 0 passed) [
      | inl a ↦ a
      | inr a ↦ (
          let zeroth : passed ≡ 0 = omega (arith, a) in
          let at : place + 0 ≡ place = omega arith in
          absurd (omega (arith, pass.next none (omega (arith, a, part.some)), ap (λ n. (slice_index_or events n none).step) zeroth, ap (λ (x : Event). x.step) (part.same 0 none part.some), ap (λ n. (slice_index_or es n none).step) at, before.next none inside, c.loop-until-test.true)))
    ] in
    omega (arith, inside, some, next)

pub returns : goal.returns
returns c =
    let pages = c.self.inside.steps.pages.items in
    let es = all_events pages in
    let place = index_of pages c.loop-until.place in
    let before = c.loop-until.invariant in
    let says = λ (s k : ℕ) (lk : k < 16). c.self.invariant.1 s k lk ∙ ap (λ (e : Events). event_at e s k) c.self.view_is in
    record {
      within = omega (arith, c.loop-until-test.false);
      size = before.size;
      as_mask = before.as_mask;
      stays = up_to_holds c.args.self.now es c.self.invariant.2 says c.args.known.now.until place c.args.step c.loop-until.until c.loop-until.known.down c.requires.passed before.up_to before.early (λ i d l li. elim (cases_lt place i) [
        | inl a ↦ omega (arith, steps_rise es c.self.invariant.2 place i d a li, before.next d (omega (arith, a, li)))
        | inr a ↦ (let same : place ≡ i = omega (arith, a, l) in omega (arith, before.next d (omega (arith, same, li)), ap (λ n. (slice_index_or es n d).step) same))
      ]);
    }
