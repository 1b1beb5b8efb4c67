use Rattle.std.proofs.Common.{◌≡◌, ◌≢◌, ◌<◌, ℕ, false, true, refl, sym, subst, inl, inr, ⊎_elim, arith, ◌∙◌, length, get_or}
use Rattle.std.proofs.lemmas.List.{length-set}
use Rattle.chip_explore.specs.inner.Cover.{IsTaken, view_of}
use Rattle.chip_explore.proofs.Growth.{closed_set, extends_as, goes}
use Rattle.chip_explore.proofs.members.Members.close.Goals as goal

pub returns-clause-goes : goal.returns-clause-goes
returns-clause-goes c =
    let m = c.args.self.now in
    let p = c.args.setting.now in
    let place = c.args.place in
    let kept = c.requires.there.kept in
    let count = c.requires.there.holds.closed in
    let inside : place < length m.closed.items = omega arith in
    goes p m _ c.requires.there.holds refl (extends_as p m m.limit m.executed (omega arith) (λ pc h. h))
    c.requires.there.holds.states
    c.requires.there.holds.forgotten
    (length-set m.closed.items place true ∙ count)
    (λ j h.
    ⊎_elim
    (λ (here : (j ≡ place) × (true ≡ true)). inl (subst (λ (i : ℕ). IsTaken p (view_of m) i) (sym here.0) c.requires.taken))
    (λ (other : (j ≢ place) × (get_or m.closed.items j false ≡ true)). inr (other.1, refl))
    (closed_set m.closed.items place j true inside h))
