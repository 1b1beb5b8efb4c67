use Rattle.std.proofs.Common.{arith, ◌≡◌, ◌∙◌, ap, sym, subst, length}
use Rattle.chip_explore.specs.declared.property.Property.{Property}
use Rattle.chip_analysis.specs.Proving.{IsForeseen}
use Rattle.chip_analysis.specs.inner.Proofs.{met_property}
use Rattle.chip_analysis.proofs.NextLemmas.{Rights, is_excluded, is_foreseen, is_the_can, others_next, property_is, property_there}
use Rattle.chip_analysis.proofs.PropertiesLemmas.{same_count}
use Rattle.chip_analysis.proofs.proving.Prover.next.Goals as goal

pub returns-clause-right : goal.returns-clause-right
returns-clause-right g c = λ asked is one there.
    let p = c.args.self.now in
    let from = rw c.in-Some.is at c.requires.facts in
    is_excluded p.rate p.keys p.start.now c.never_met_is_never.ensures.rate c.in-Some.facts c.args.left.now c.in-Some-first_excluded.place c.excluded.result asked
    from (rw c.in-Some-first_excluded.is at c.first_excluded.ensures) is c.excluded.ensures.outcome c.excluded.ensures.scope one there

pub returns-in-Some-first_can-clause-right : goal.returns-in-Some-first_can-clause-right
returns-in-Some-first_can-clause-right g c = λ asked is one there.
    let p = c.args.self.now in
    let explored = c.foresee-explored.result in
    let left = c.args.left.now in
    let property : c.index.result.now ≡ one.property =
    property_is left.properties.items c.in-Some-first_can.place one.property c.index.result.now (property_there asked left is c.in-Some-first_can.place one there) c.index.ensures in
    is_foreseen p.rate p.keys p.start.now c.of.result one (is_the_can asked left is c.in-Some-first_can.place one (sym c.in-Some-first_can.ensures) there)
    c.of.ensures.scope
    (rw (c.of.ensures.outcome, sym property) c.foresee-explored.ensures.foreseen)

pub returns-2-clause-right : goal.returns-2-clause-right
returns-2-clause-right g c = λ asked is.
    let p = c.args.self.now in
    let left = c.args.left.now in
    let explored = c.search-explored.result in
    let rights : Rights p.rate p.keys p.start.now left.properties.items explored =
    subst (λ ps. Rights p.rate p.keys p.start.now ps explored) c.deref.ensures.value
    (record { answers = c.search-explored.ensures.answers; any_speed = c.search-explored.ensures.any_speed }) in
    let count : c.len.result ≡ length left.heads.items = omega (arith, left.heads.ok.0, c.len.ensures) in
    let long : length c.deref.result.now ≡ length left.heads.items = ap length c.deref.ensures.value ∙ same_count asked left is in
    others_next p.rate p.keys p.start.now asked left c.met_property-place.result c.of-2.result explored p.arguments.now.search.is_any_speed is c.of-2.ensures.outcome c.of-2.ensures.scope rights
    (sym c.in_default-2.ensures)
    (λ none. c.search-explored.ensures.met (ap (met_property explored.outcome) long ∙ none))
    (c.met_property-place.ensures ∙ ap (met_property explored.outcome) count)
