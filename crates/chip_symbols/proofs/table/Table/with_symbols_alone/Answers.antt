use Rattle.std.proofs.Common.{◌∙◌, ◌<◌, ◌++◌, ◌∷◌, [], ℕ, ap, sym, refl, arith, length, List, take, get_or}
use Rattle.std.proofs.lemmas.List.{take_more}
use Rattle.chip_symbols.specs.declared.table.Entry.{Entry}
use Rattle.chip_symbols.specs.declared.table.Symbol.{Symbol}
use Rattle.chip_symbols.specs.Names.{Name, lookup_name}
use Rattle.chip_symbols.specs.Tables.{key_at}
use Rattle.chip_symbols.proofs.SymbolSteps.{entry-listed, no-entry, once-listed, seen}
use Rattle.chip_symbols.proofs.table.Table.with_symbols_alone.Goals as goal

pub define-requires-clause-new : goal.define-requires-clause-new
define-requires-clause-new c =
    let k : ℕ = c.loop-entry.entry-index in
    let inside : k < length c.deref-entry-items.result.now = omega (arith, c.loop-entry-test.true) in
    let once = once-listed c.args.self.now _ c.self.inside.entries.items c.deref-entry-items.result.now _ k c.self.view_is c.deref-entry-items.ensures.value refl c.self.invariant.1.0 inside in
    ap (λ (names : List (Name × Symbol)). lookup_name names (key_at c.reserve.new.self.keys c.in_ok-id.id.number)) (c.reserve.ensures.symbols ∙ c.number.ensures.symbols ∙ c.loop-entry.invariant)
    ∙ ap (lookup_name (take k c.args.self.now.symbols)) (ap (λ (ks : List Name). key_at ks c.in_ok-id.id.number) c.reserve.ensures.keys ∙ c.in_ok-id.ensures.id.named ∙ c.name.ensures) ∙ once

pub loop-entry-preserved : goal.loop-entry-preserved
loop-entry-preserved c =
    let k : ℕ = c.loop-entry.entry-index in
    let e : Entry = get_or c.deref-entry-items.result.now k no-entry in
    let inside : k < length c.deref-entry-items.result.now = omega (arith, c.loop-entry-test.true) in
    let s = entry-listed c.args.self.now _ c.self.inside.entries.items c.deref-entry-items.result.now k c.self.view_is c.deref-entry-items.ensures.value refl inside in
    c.define.ensures.symbols
    ∙ ap (λ (names : List (Name × Symbol)). names ++ (key_at c.reserve.new.self.keys c.in_ok-id.id.number, e.symbol) ∷ []) (c.reserve.ensures.symbols ∙ c.number.ensures.symbols ∙ c.loop-entry.invariant)
    ∙ ap (λ (n : Name). take k c.args.self.now.symbols ++ (n, e.symbol) ∷ []) (ap (λ (ks : List Name). key_at ks c.in_ok-id.id.number) c.reserve.ensures.keys ∙ c.in_ok-id.ensures.id.named ∙ c.name.ensures)
    ∙ ap (λ (x : Name × Symbol). take k c.args.self.now.symbols ++ x ∷ []) (sym s.1)
    ∙ sym (take_more c.args.self.now.symbols k (seen c.args.self.now.keys e) s.0)
