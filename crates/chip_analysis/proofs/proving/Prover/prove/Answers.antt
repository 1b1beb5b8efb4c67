use Rattle.std.proofs.Common.{◌≡◌, ◌∙◌, ap, inl, refl, subst, sym, Bool, Err, None, Some}
use Rattle.chip_analysis.specs.Proving.{IsReport, asked_of, has_faults, unstated_line}
use Rattle.chip_check.specs.Check.{AreTexts}
use Rattle.chip_analysis.specs.inner.Proofs.{IsLeft}
use Rattle.chip_host.specs.declared.ending.Failure.TheVariants as failure
use Rattle.chip_analysis.proofs.PropertiesLemmas.{asked_none, left_none, with_none, with_some}
use Rattle.chip_analysis.proofs.ProvingLemmas.{missing, not_missing}
use Rattle.chip_analysis.proofs.proving.Prover.prove.Goals as goal

pub returns-in-Some : goal.returns-in-Some
returns-in-Some g c =
    let p = c.args.self.now in
    let properties = c.in_ok-stated.field-0 in
    let asked = asked_of p.arguments.now.only properties.stated.items in
    let is : IsLeft asked c.in_ok-left.left = c.in_ok-left.ensures in
    let faulty : c.has_faults-is_faulty.result ≡ has_faults p.arguments.now.only properties.faults.items =
    c.has_faults-is_faulty.ensures ∙ ap (has_faults p.arguments.now.only) c.deref-2.ensures.value in
    let none : unstated_line p.arguments.now.only asked c.has_faults-is_faulty.result ≡ Some c.in-Some.line =
    missing p.arguments.now.only c.in-Some.line c.is_empty-is_empty.result c.has_faults-is_faulty.result asked c.in-Some.ensures
    (asked_none asked c.in_ok-left.left c.is_empty-is_empty.result is c.is_empty-is_empty.ensures) in
    inl (
      properties,
      c.in_ok-stated.ensures,
      with_none g.O.Write.contents c.args.output.now c.args.output.now p.arguments.now p.source.now.lines p.rate p.keys
          p.start.now properties (Err (failure.NoProperty c.in-Some.line)) c.in-Some.line (subst (λ (b : Bool). unstated_line p.arguments.now.only asked b ≡ Some c.in-Some.line) faulty none)
          (refl, refl),
    )

pub returns : goal.returns
returns g c =
    let p = c.args.self.now in
    let properties = c.in_ok-stated.field-0 in
    let asked = asked_of p.arguments.now.only properties.stated.items in
    let is : IsLeft asked c.in_ok-left.left = c.in_ok-left.ensures in
    let faulty : c.has_faults-is_faulty.result ≡ has_faults p.arguments.now.only properties.faults.items =
    c.has_faults-is_faulty.ensures ∙ ap (has_faults p.arguments.now.only) c.deref-2.ensures.value in
    let some : unstated_line p.arguments.now.only asked c.has_faults-is_faulty.result ≡ None =
    not_missing p.arguments.now.only c.is_empty-is_empty.result c.has_faults-is_faulty.result asked c.in_default.ensures
    (left_none asked c.in_ok-left.left c.is_empty-is_empty.result is c.is_empty-is_empty.ensures) in
    let reported : AreTexts (IsReport p.arguments.now p.source.now.lines) properties.faults.items c.deref-4.result.now =
    rw (sym c.deref-3.ensures.value, c.deref-4.ensures.value) c.in_ok-reports.ensures in
    inl (
      properties,
      c.in_ok-stated.ensures,
      with_some g.O.Write.contents c.args.output.now c.prove_left.new.output p.arguments.now p.source.now.lines p.rate p.keys
          p.start.now properties c.prove_left.result
          (subst (λ (b : Bool). unstated_line p.arguments.now.only asked b ≡ None) faulty some)
          (c.prove_left.ensures asked is properties.faults.items faulty reported),
    )
