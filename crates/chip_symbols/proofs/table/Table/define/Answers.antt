use Rattle.std.proofs.Common.{◌≡◌, ◌<◌, ◌∙◌, ◌++◌, ◌∷◌, [], ap, arith, sym, subst, length, length-set, None, Some, of_z, to_z, w32}
use Rattle.std.proofs.lemmas.Int.{to_z-of_z}
use Rattle.chip_symbols.specs.Names.{lookup_name}
use Rattle.chip_symbols.specs.Tables.{Tables, key_at}
use Rattle.chip_symbols.specs.inner.Entries.{symbols_in}
use Rattle.chip_symbols.proofs.SymbolSteps.{defined-more, names_of, symbols-push}
use Rattle.chip_symbols.proofs.table.Table.define.Goals as goal

pub invariant_of-self : goal.invariant_of-self
invariant_of-self c =
    let same : to_z w32 (of_z w32 c.args.symbol.value) ≡ c.args.symbol.value = grind (arith, to_z-of_z) in
    rw (c.push_reserved.ensures.items, c.set.ensures.now, c.set.ensures.past, same) (
      c.self.invariant.0,
      (
        defined-more (names_of c.self.inside.keys.keys) _ _ (record { id = c.args.id; symbol = c.args.symbol }) c.self.invariant.0 c.self.invariant.1.0
            (subst (λ (t : Tables). c.args.id.number < length t.keys) (sym c.self.view_is) c.requires.within)
            (subst (λ (t : Tables). lookup_name t.symbols (key_at t.keys c.args.id.number) ≡ None) (sym c.self.view_is) c.requires.new),
        c.self.invariant.1.1 ∙ sym (length-set c.self.inside.values.current c.args.id.number (Some c.args.symbol.value)),
      ),
    )

pub returns-clause-symbols : goal.returns-clause-symbols
returns-clause-symbols c =
    ap (symbols_in (names_of c.self.inside.keys.keys)) c.push_reserved.ensures.items
    ∙ symbols-push (names_of c.self.inside.keys.keys) c.self.inside.entries.items (record { id = c.args.id; symbol = c.args.symbol })
    ∙ ap (λ (t : Tables). t.symbols ++ (key_at t.keys c.args.id.number, c.args.symbol) ∷ []) c.self.view_is
