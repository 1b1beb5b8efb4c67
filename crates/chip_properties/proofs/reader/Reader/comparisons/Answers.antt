use Rattle.std.proofs.Common.{◌∙◌, ◌++◌, [], ◌∷◌, sym, inr, ap, map, arith}
use Rattle.std.proofs.lemmas.List.{map-append, length-map}
use Rattle.chip_properties.specs.SeenProperty.{seen_comparison, seen_comparisons}
use Rattle.std.specs.Prelude.{option_map}
use Rattle.chip_properties.specs.computed.Separated.{pieces_in}
use Rattle.chip_properties.specs.inner.Parts.{tokens_in}
use Rattle.chip_properties.specs.inner.Reads.{symbols_read}
use Rattle.chip_properties.specs.computed.Reading.{comparison_in, found_with}
use Rattle.chip_properties.proofs.Loops.{failed, condition_full, condition_fails, condition_goes_on}
use Rattle.chip_properties.proofs.reader.Reader.comparisons.Goals as goal

pub returns-then-len-eq-MOST_COMPARISONS : goal.returns-then-len-eq-MOST_COMPARISONS
returns-then-len-eq-MOST_COMPARISONS c =
    let so = rw c.in-Some.is at c.loop-rest.invariant in
    inr (sym so ∙ condition_full (symbols_read c.args.self.now) c.args.joint (seen_comparisons c.loop-rest.comparisons) c.in-Some.tokens.tokens.now
    (omega (arith, length-map c.loop-rest.comparisons.items seen_comparison, c.len.ensures, c.if-len-eq-MOST_COMPARISONS.true)))

pub returns-in_err-comparison : goal.returns-in_err-comparison
returns-in_err-comparison c =
    let so = rw c.in-Some.is at c.loop-rest.invariant in
    let front = c.split_around.result.0.tokens.now in
    failed seen_comparisons (comparison_in (symbols_read c.args.self.now) front) _ c.from_residual.result c.in_err-comparison.field-0.0
    c.from_residual.ensures.1 c.in_err-comparison.ensures
    (λ none. sym so ∙ condition_fails (symbols_read c.args.self.now) c.args.joint (seen_comparisons c.loop-rest.comparisons) c.in-Some.tokens.tokens.now front
    (λ full. c.if-len-eq-MOST_COMPARISONS.false (omega (arith, length-map c.loop-rest.comparisons.items seen_comparison, c.len.ensures, full)))
    c.split_around.ensures.front none)

pub loop-rest-preserved : goal.loop-rest-preserved
loop-rest-preserved c =
    let so = rw c.in-Some.is at c.loop-rest.invariant in
    let on = condition_goes_on (symbols_read c.args.self.now) c.args.joint (seen_comparisons c.loop-rest.comparisons) (seen_comparison c.in_ok-comparison.comparison) c.in-Some.tokens.tokens.now
    c.split_around.result.0.tokens.now _
    (λ full. c.if-len-eq-MOST_COMPARISONS.false (omega (arith, length-map c.loop-rest.comparisons.items seen_comparison, c.len.ensures, full)))
    c.split_around.ensures.front c.split_around.ensures.back c.in_ok-comparison.ensures in
    let put = ap (map seen_comparison) (c.push_reserved.ensures.items ∙ ap (λ xs. xs ++ c.in_ok-comparison.comparison ∷ []) c.reserve.ensures.items)
    ∙ map-append seen_comparison c.loop-rest.comparisons.items (c.in_ok-comparison.comparison ∷ []) in
    ap (λ found. found_with (symbols_read c.args.self.now) found (pieces_in c.args.joint (option_map tokens_in c.split_around.result.1))) put ∙ sym on ∙ so
