use Rattle.std.proofs.Common.{◌≡◌, ◌∙◌, ap, sym, subst}
use Rattle.chip_lang.specs.FaultPlace.{span_of_fault}
use Rattle.chip_lang.specs.declared.fault.Fault.{Fault}
use Rattle.chip_symbols.specs.Names.{values_of}
use Rattle.chip_asm.specs.Program.{symbols_of}
use Rattle.chip_check.specs.Place.{out_of_range_place, place_in}
use Rattle.chip_check.specs.inner.Known.{listed}
use Rattle.chip_check.proofs.KnownNames.{same-values}
use Rattle.chip_check.proofs.place.place_in.Goals as goal

pub returns-in-OutOfRange-clause-span : goal.returns-in-OutOfRange-clause-span
returns-in-OutOfRange-clause-span c =
    let known = listed c.args.known.now.symbols.entries in
    let lines = c.args.source.now.lines in
    let line = c.args.line.now.text in
    let span = c.in_ok-span.span in
    let values = ap (λ vs. out_of_range_place vs line span) (same-values known (symbols_of lines) c.requires.known) in
    let placed : out_of_range_place (values_of (symbols_of lines)) line span ≡ place_in c.args.fault lines c.args.line.now.number line
    = subst (λ (f : Fault). span ≡ span_of_fault f line → out_of_range_place (values_of (symbols_of lines)) line span ≡ place_in f lines c.args.line.now.number line) (sym c.in-OutOfRange.is)
    (λ there. ap (out_of_range_place (values_of (symbols_of lines)) line) there) c.in_ok-span.ensures.span in
    c.out_of_range_place.ensures.span ∙ values ∙ placed
