use Rattle.std.proofs.Common.{◌≡◌, ◌∙◌, ap, arith, length, map, sym, subst, sum_by}
use Rattle.std.proofs.lemmas.List.{length-map, with_items_is}
use Rattle.std.specs.List.{enumerate_from}
use Rattle.std.specs.Vec.{with_items}
use Rattle.chip_asm.specs.inner.Kept.{IsExchanged}
use Rattle.chip_asm.specs.inner.Placements.{AreCodesNoted, placements_of, count_of, found}
use Rattle.chip_asm.specs.inner.Codes.{IsImageOf}
use Rattle.chip_asm.specs.inner.Passes.{AreCoded, Change, IsEncodedUnder, is_encoded_again}
use Rattle.chip_asm.specs.inner.Records.{reading_in}
use Rattle.chip_asm.proofs.PassSteps.{ArePlaces, IsHalfWay, all-places, codes-noted, half-done, image-coded, names-kept, tally-places, walked-all}
use Rattle.chip_asm.proofs.LinesByPlace.{count_by-take, all-among}
use Rattle.chip_asm.proofs.kept.Kept.assemble.Goals.{else-has_differences, then-has_differences}
use Rattle.chip_asm.proofs.kept.Kept.assemble.Goals as goal

pub mark_unclosed-requires-clause-among : goal.mark_unclosed-requires-clause-among
mark_unclosed-requires-clause-among c =
    let e = c.requires.0 in
    let u = rw (← c.as_mut_slice-placements.ensures.value) at (c.first_pass-pass.ensures.passed e c.requires.1) in
    let many : length c.as_mut_slice-placements.result.now ≡ length e.now = omega (arith, u.placed_many, ap length u.now, length-map c.first_pass-pass.new.self.lines.items reading_in) in
    rw (c.deref.ensures.value, many) (all-among e.now _ (walked-all e _ _ _ _ _ _ u).follows.open_blocks)

pub encode_lines-requires-clause-laid : goal.encode_lines-requires-clause-laid
encode_lines-requires-clause-laid c =
    let e = c.requires.0 in
    let u = rw (← c.as_mut_slice-placements.ensures.value) at (c.first_pass-pass.ensures.passed e c.requires.1) in
    let half = half-done e _ _ _ _ _ _ _ u c.mark_unclosed.auto.placements (rw c.deref.ensures.value at c.mark_unclosed.ensures.marked) in
    rw c.deref-2.ensures.value (half.laid ∙ ap placements_of u.now)

pub returns : goal.returns
returns c =
    let kept = c.first_pass-pass.new.self in
    let pass = c.first_pass-pass.result.0 in
    let marked = c.mark_unclosed.new.placements in
    let places = c.if-has_differences.places in
    let way : (e : Change) → IsExchanged e c.args.self.now c.args.first c.args.here → IsHalfWay e kept.lines.items pass marked kept.image.items
    = λ e x. half-done e _ _ _ _ _ _ _ (rw (← c.as_mut_slice-placements.ensures.value) at (c.first_pass-pass.ensures.passed e x)) c.mark_unclosed.auto.placements (rw c.deref.ensures.value at c.mark_unclosed.ensures.marked) in
    let h = way c.requires.0 c.requires.1 in
    let quiet : ArePlaces pass.names marked (length kept.lines.items) places.start places.end
    = elim c.if-has_differences.branch [
      | then-has_differences v ↦ all-places pass.names marked (length kept.lines.items) places.start places.end (ap (λ p. p.start) v.places-is) (omega (arith, ap (λ p. p.end) v.places-is, v.len.ensures, kept.lines.ok.0))
      | else-has_differences v ↦ tally-places pass.names marked c.mark_unclosed.new.tally (length kept.lines.items) places.start places.end c.mark_unclosed.ensures.tally (h.coded.placed_many ∙ h.many)
          (c.has_differences.ensures v.if-has_differences.false)
          (omega (arith, v.range-places.ensures.ordered, ap (λ p. p.start) v.places-is, ap (λ p. p.end) v.places-is)) (omega (arith, v.range-places.ensures.within, ap (λ p. p.end) v.places-is))
          (λ less. ap (λ p. p.start) v.places-is ∙ v.range-places.ensures.low less) (λ less. ap (λ p. p.end) v.places-is ∙ v.range-places.ensures.high less)
    ] in
    let under : (e : Change) → IsExchanged e c.args.self.now c.args.first c.args.here → IsEncodedUnder e pass.names c.deref-2.result.now = λ e x. rw c.deref-2.ensures.value (way e x).under in
    let begun : (e : Change) → IsExchanged e c.args.self.now c.args.first c.args.here → AreCoded e marked c.as_mut_slice-image.result.now places.start
    = λ e x. rw c.as_mut_slice-image.ensures.value (names-kept e pass.names kept.lines.items marked kept.image.items 0 places.start (way e x).under quiet.before (omega arith) (way e x).coded) in
    let qs = c.encode_lines.new.placements in
    let image = c.encode_lines.new.image in
    record {
      lines = c.first_pass-pass.ensures.lines;
      settled = c.first_pass-pass.ensures.settled;
      assembled = λ e x.
          (let u = c.first_pass-pass.ensures.passed e x in
          let w = way e x in
          let done : AreCoded e qs image (length e.now)
          = rw w.many (names-kept e pass.names kept.lines.items qs image places.end (length kept.lines.items) w.under (λ j q from to there. quiet.behind j q from to (sym (c.encode_lines.ensures.behind j from) ∙ there)) quiet.within
          (c.encode_lines.ensures.coded e (under e x) (begun e x))) in
          let qs_is : (with_items kept.layout.placements qs).items ≡ qs = with_items_is kept.layout.placements qs (omega (arith, c.encode_lines.auto.placements, c.mark_unclosed.auto.placements, c.as_mut_slice-placements.ensures.len)) in
          let image_is : (with_items kept.image image).items ≡ image = with_items_is kept.image image (omega (arith, c.encode_lines.auto.image, c.as_mut_slice-image.ensures.len)) in
          record {
            infos = u.infos;
            symbols = w.under.symbols;
            laid_out = record {
              placements = ap (map found) qs_is ∙ c.encode_lines.ensures.laid ∙ w.laid;
              codes = subst (λ ps. AreCodesNoted ps e.now) (sym qs_is) (codes-noted e qs image done);
              end_address = w.follows.at_address;
              counted = c.encode_lines.ensures.tally.counted ∙ ap (sum_by count_of) (sym qs_is);
            };
            image = subst (λ bytes. IsImageOf bytes e.now) (sym image_is) (image-coded e qs image done);
          });
      encoded = λ e x. (let more = c.encode_lines.ensures.encoded e (under e x) (begun e x) in omega (arith, more, count_by-take (is_encoded_again e.was e.now e.origin) (enumerate_from 0 e.now) places.end));
      not_lowered = c.encode_lines.ensures.not_lowered;
      parsed = c.encode_lines.ensures.parsed;
    }
