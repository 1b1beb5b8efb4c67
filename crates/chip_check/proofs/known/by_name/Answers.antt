use Rattle.std.proofs.Common.{◌∙◌, ◌++◌, ◌∷◌, [], ap, sym, arith, take}
use Rattle.std.proofs.lemmas.List.{take_more}
use Rattle.chip_symbols.specs.Names.{lookup_name}
use Rattle.chip_check.specs.inner.Known.{listed}
use Rattle.chip_check.proofs.KnownNames.{agree-behind}
use Rattle.chip_check.proofs.known.by_name.Goals as goal

pub loop-name-preserved : goal.loop-name-preserved
loop-name-preserved c name =
    let symbols = c.args.symbols.now in
    let k = c.loop-name.name-index in
    let e = c.loop-name-item.result in
    let found = listed c.loop-name.found.entries in
    c.in_ok-add_last.ensures name
    ∙ ap (λ n. lookup_name (found ++ (n, e.1) ∷ []) name) c.get.ensures
    ∙ agree-behind found (take k symbols) (e ∷ []) c.loop-name.invariant name
    ∙ ap (λ l. lookup_name l name) (sym (take_more symbols k e (omega (arith, c.loop-name-test.true)) ∙ ap (λ x. take k symbols ++ x ∷ []) (sym c.loop-name-item.is)))
