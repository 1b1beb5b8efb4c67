use Rattle.std.proofs.Common.{◌≡◌, ◌∙◌, ◌+◌, ◌-◌, Some, ap, arith, length, get_or, slice_get, sym}
use Rattle.std.proofs.lemmas.List.{length-map}
use Rattle.std.proofs.lemmas.Option.{slice_get-get_or, slice_get_within}
use Rattle.chip_lang.specs.declared.limits.TheConstants.{IMAGE_START}
use Rattle.chip_asm.specs.declared.placement.Placement.{Placement}
use Rattle.chip_asm.specs.inner.KeptLine.{KeptLine}
use Rattle.chip_asm.specs.inner.Placements.{found}
use Rattle.chip_asm.specs.inner.Records.{readings_in}
use Rattle.chip_asm.proofs.WholeImage.{facts-at, none-at, read-kept, text-kept}
use Rattle.chip_asm.proofs.LinesByPlace.{AtPlace, at-place, high, low}
use Rattle.chip_asm.proofs.source.Source.line.Goals as goal
use Rattle.chip_asm.proofs.source.Source.line.Goals.{After-index-placement}
use Rattle.chip_asm.proofs.KeptSteps.{placed-many}

-- the line at the place and its placement exist

stands : (c : After-index-placement) → slice_get c.self.inside.kept.lines.items (c.args.number - 1) ≡ Some c.in_ok-kept.kept.now
stands c =
    let found = c.in_ok-kept.ensures.lookup in
    ap (λ ls. slice_get ls (c.args.number - 1)) (sym c.deref.ensures.value) ∙ slice_get-get_or c.deref.result.now (c.args.number - 1) c.in_ok-kept.kept.now found.3.0 ∙ ap Some (sym found.1)

noted : (c : After-index-placement) → slice_get c.self.inside.kept.layout.placements.items (c.args.number - 1) ≡ Some c.index-placement.result.now
noted c =
    let kept = c.self.inside.kept in
    slice_get-get_or kept.layout.placements.items (c.args.number - 1) c.index-placement.result.now
    (omega (arith, slice_get_within kept.lines.items (c.args.number - 1) c.in_ok-kept.kept.now (stands c), placed-many kept c.self.invariant)) ∙ ap Some (sym c.index-placement.ensures)

at-kept : (c : After-index-placement) → AtPlace (readings_in c.self.inside.kept.lines.items) (c.args.number - 1) (found c.index-placement.result.now)
at-kept c = let kept = c.self.inside.kept in at-place (readings_in kept.lines.items) kept.layout c.self.invariant.laid_out (c.args.number - 1) c.index-placement.result.now (noted c)

pub returns-in_err-kept-clause-value : goal.returns-in_err-kept-clause-value
returns-in_err-kept-clause-value c =
    let kept = c.self.inside.kept.lines in
    let past = c.in_err-kept.ensures.lookup.3 in
    c.from_residual.ensures
    ∙ sym (none-at c.args.self.now.lines c.args.number c.if-number-eq0.false
    (omega (arith, past, ap length c.deref.ensures.value, length-map kept.items (λ (line : KeptLine). line.text), ap length (ap (λ t. t.lines) c.self.view_is))))

pub index-placement-requires : goal.index-placement-requires
index-placement-requires c =
    let kept = c.self.inside.kept in
    omega (arith, c.in_ok-kept.ensures.lookup.3.0, ap length c.deref.ensures.value, placed-many kept c.self.invariant, kept.layout.placements.ok.0)

pub bytes_at-bytes-requires-clause-low : goal.bytes_at-bytes-requires-clause-low
bytes_at-bytes-requires-clause-low c = low _ _ _ (at-kept (goal.at.bytes_at-bytes-requires-clause-low c).After-index-placement)

pub bytes_at-bytes-requires-clause-high : goal.bytes_at-bytes-requires-clause-high
bytes_at-bytes-requires-clause-high c = high _ _ _ (at-kept (goal.at.bytes_at-bytes-requires-clause-high c).After-index-placement)

pub of-requires-clause-is_read : goal.of-requires-clause-is_read
of-requires-clause-is_read c = read-kept c.self.inside.kept _ c.in_ok-kept.kept.now c.self.invariant (stands (goal.at.of-requires-clause-is_read c).After-index-placement)

pub of-requires-clause-high : goal.of-requires-clause-high
of-requires-clause-high c = let within = high _ _ _ (at-kept (goal.at.of-requires-clause-high c).After-index-placement) in omega (arith, within)

pub returns-clause-value : goal.returns-clause-value
returns-clause-value c =
    let q : Placement = c.index-placement.result.now in
    let by = (goal.at.returns-clause-value c).After-index-placement in
    ap Some c.of.ensures
    ∙ sym (facts-at c.self.inside.kept c.args.self.now.lines c.args.number c.in_ok-kept.kept.now q c.bytes_at-bytes.result.now c.self.invariant (ap (λ t. t.lines) c.self.view_is) c.if-number-eq0.false (stands by)
    (noted by) c.bytes_at-bytes.ensures.long (λ k h. c.bytes_at-bytes.ensures.each k h ∙ ap (λ image. get_or image (q.here - IMAGE_START + k) 0) c.deref-2.ensures.value))

pub returns-clause-text : goal.returns-clause-text
returns-clause-text c =
    text-kept c.self.inside.kept c.args.self.now.lines _ c.in_ok-kept.kept.now (ap (λ t. t.lines) c.self.view_is) (stands (goal.at.returns-clause-text c).After-index-placement)
    ∙ ap Some (ap (λ f. f.text) (sym c.of.ensures))
