use Rattle.std.proofs.Common.{◌≡◌, ◌≢◌, ◌<◌, false, true, refl, inr, ⊎_elim, arith, ◌∙◌, length, get_or}
use Rattle.std.proofs.lemmas.List.{length-set, get_or-set_other}
use Rattle.chip_explore.proofs.Growth.{closed_set, goes, set_early, set_phased}
use Rattle.chip_explore.proofs.members.Members.lower.Goals as goal

pub returns-clause-goes : goal.returns-clause-goes
returns-clause-goes c =
    let m = c.args.self.now in
    let p = c.args.setting.now in
    let place = c.args.place in
    let step = c.args.step in
    let kept = c.requires.there.kept in
    let count = c.requires.there.holds.closed in
    let inside : place < length m.closed.items = omega arith in
    goes p m _ c.requires.there.holds refl
    (record {
      limit = omega arith;
      count = omega (arith, length-set m.steps.items place step);
      member = λ j l. refl;
      forgotten = λ j l. refl;
      early = λ j l. set_early m.steps.items place step j kept c.requires.early;
      phased = λ j l. set_phased p m.steps.items place step j kept c.requires.phased;
      executed = λ pc h. h;
    })
    (c.requires.there.holds.states ∙ omega (arith, length-set m.steps.items place step))
    (c.requires.there.holds.forgotten ∙ omega (arith, length-set m.steps.items place step))
    (length-set m.closed.items place false ∙ count ∙ omega (arith, length-set m.steps.items place step))
    (λ j h.
    inr (⊎_elim
    (λ (here : (j ≡ place) × (false ≡ true)). absurd (cc))
    (λ (other : (j ≢ place) × (get_or m.closed.items j false ≡ true)). (other.1, get_or-set_other m.steps.items place j step 0 other.0))
    (closed_set m.closed.items place j false inside h)))

pub returns-clause-count : goal.returns-clause-count
returns-clause-count c = length-set c.args.self.now.steps.items c.args.place c.args.step
