use Rattle.std.proofs.Common.{◌∙◌, ◌<◌, ◌++◌, ◌∷◌, [], ℕ, ap, sym, refl, arith, length, take, get_or}
use Rattle.std.proofs.lemmas.List.{take_more}
use Rattle.chip_symbols.specs.declared.table.Entry.{Entry}
use Rattle.chip_symbols.specs.declared.table.Symbol.{Symbol}
use Rattle.chip_symbols.specs.Names.{Name}
use Rattle.chip_symbols.proofs.SymbolSteps.{entry-listed, no-entry, seen}
use Rattle.chip_symbols.proofs.table.Table.symbols.Goals as goal

abbrev named : Name → Symbol → Name × Symbol
named name symbol = (name, symbol)

pub loop-entry-preserved : goal.loop-entry-preserved
loop-entry-preserved c =
    let k : ℕ = c.loop-entry.entry-index in
    let e : Entry = get_or c.deref-entry-items.result.now k no-entry in
    let inside : k < length c.deref-entry-items.result.now = omega (arith, c.loop-entry-test.true) in
    let s = entry-listed c.args.self.now _ c.self.inside.entries.items c.deref-entry-items.result.now k c.self.view_is c.deref-entry-items.ensures.value refl inside in
    c.in_ok-push.ensures.items
    ∙ ap (λ xs. xs ++ named c.in_ok-name.name e.symbol ∷ []) c.loop-entry.invariant
    ∙ ap (λ (n : Name). take k c.args.self.now.symbols ++ named n e.symbol ∷ []) (c.in_ok-name.ensures ∙ c.name.ensures)
    ∙ ap (λ (x : Name × Symbol). take k c.args.self.now.symbols ++ x ∷ []) (sym s.1)
    ∙ sym (take_more c.args.self.now.symbols k (seen c.args.self.now.keys e) s.0)
