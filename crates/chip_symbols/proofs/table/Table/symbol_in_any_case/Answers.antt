use Rattle.std.proofs.Common.{◌∙◌, ◌<◌, ℕ, ap, sym, refl, arith, length, map, get_or}
use Rattle.std.specs.Str.{bytes_eq}
use Rattle.chip_lang.specs.Line.{upper}
use Rattle.chip_symbols.specs.declared.table.Entry.{Entry}
use Rattle.chip_symbols.proofs.SymbolSteps.{entry-listed, lookup-at, lookup-next, no-entry, seen}
use Rattle.chip_symbols.proofs.table.Table.symbol_in_any_case.Goals as goal

pub returns-then-is_spelled : goal.returns-then-is_spelled
returns-then-is_spelled c =
    let k : ℕ = c.loop-entry.entry-index in
    let e : Entry = get_or c.deref-entry-items.result.now k no-entry in
    let inside : k < length c.deref-entry-items.result.now = omega (arith, c.loop-entry-test.true) in
    let s = entry-listed c.args.self.now _ c.self.inside.entries.items c.deref-entry-items.result.now k c.self.view_is c.deref-entry-items.ensures.value refl inside in
    sym (lookup-at c.args.self.now.symbols k (seen c.args.self.now.keys e) (map upper c.args.name.now) s.0 s.1 c.loop-entry.invariant
    (ap (bytes_eq (map upper c.args.name.now)) (sym c.name.ensures) ∙ sym c.is_spelled.ensures ∙ c.if-is_spelled.true))

pub loop-entry-preserved : goal.loop-entry-preserved
loop-entry-preserved c =
    let k : ℕ = c.loop-entry.entry-index in
    let e : Entry = get_or c.deref-entry-items.result.now k no-entry in
    let inside : k < length c.deref-entry-items.result.now = omega (arith, c.loop-entry-test.true) in
    let s = entry-listed c.args.self.now _ c.self.inside.entries.items c.deref-entry-items.result.now k c.self.view_is c.deref-entry-items.ensures.value refl inside in
    lookup-next c.args.self.now.symbols k (seen c.args.self.now.keys e) (map upper c.args.name.now) s.0 s.1 c.loop-entry.invariant
    (ap (bytes_eq (map upper c.args.name.now)) (sym c.name.ensures) ∙ sym c.is_spelled.ensures ∙ c.if-is_spelled.false)
