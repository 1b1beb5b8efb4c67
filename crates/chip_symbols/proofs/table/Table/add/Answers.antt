use Rattle.std.proofs.Common.{◌≡◌, ◌∙◌, ◌∷◌, [], None, ap, subst, arith, length, length-append}
use Rattle.std.specs.FinMap as finite
use Rattle.chip_symbols.specs.Tables.{Extends, Tables}
use Rattle.chip_symbols.proofs.SymbolSteps.{OneMore, apart-more, defined-under, extends-more, key-there, names_of, one-more, same-keys, symbols-more, valued-more}
use Rattle.chip_symbols.proofs.table.Table.add.Goals as goal
use Rattle.chip_symbols.proofs.table.Table.add.Goals.{Then-is_new}

more : (c : Then-is_new) → OneMore (names_of c.self.inside.keys.keys) (names_of c.insert_full.new.self.keys) c.in_ok-key.key.items
more c = one-more c.self.inside.keys.keys c.insert_full.new.self.keys c.in_ok-key.key c.in_ok-index.is_new c.if-is_new.true c.in_ok-index.ensures.added c.in_ok-index.ensures.keys

pub invariant_of-self-then-is_new : goal.invariant_of-self-then-is_new
invariant_of-self-then-is_new c =
    let o = more (goal.at.invariant_of-self-then-is_new c).Then-is_new in
    rw (c.add.ensures.now, c.add.ensures.past, c.reserve.ensures.now, c.reserve.ensures.past) (apart-more _ _ _ o c.self.invariant.0, (defined-under _ _ _ _ _ o c.self.invariant.1.0, omega (arith, c.self.invariant.1.1, length-append c.self.inside.values.past (None ∷ []), length-append c.self.inside.values.current (None ∷ []))))

pub returns-then-is_new-clause-symbols : goal.returns-then-is_new-clause-symbols
returns-then-is_new-clause-symbols c =
    symbols-more _ _ _ c.self.inside.entries.items (more (goal.at.returns-then-is_new-clause-symbols c).Then-is_new) c.self.invariant.1.0.inside ∙ ap (λ (t : Tables). t.symbols) c.self.view_is

pub returns-then-is_new-clause-before : goal.returns-then-is_new-clause-before
returns-then-is_new-clause-before c =
    let o = more (goal.at.returns-then-is_new-clause-before c).Then-is_new in
    let known : length c.self.inside.values.past ≡ length (names_of c.self.inside.keys.keys) = c.self.invariant.1.1 ∙ c.self.invariant.1.0.long in
    rw (c.add.ensures.past, c.reserve.ensures.past, o.is) (ap finite.from_entries (valued-more (names_of c.self.inside.keys.keys) c.self.inside.values.past c.in_ok-key.key.items known) ∙ ap (λ (t : Tables). t.before) c.self.view_is)

pub returns-then-is_new-clause-named : goal.returns-then-is_new-clause-named
returns-then-is_new-clause-named c = key-there c.insert_full.new.self.keys c.in_ok-index.index c.in_ok-key.key.items c.in_ok-index.ensures.stored ∙ c.in_ok-key.ensures.items

pub returns-else-is_new-clause-named : goal.returns-else-is_new-clause-named
returns-else-is_new-clause-named c = key-there c.insert_full.new.self.keys c.in_ok-index.index c.in_ok-key.key.items c.in_ok-index.ensures.stored ∙ c.in_ok-key.ensures.items

pub returns-then-is_new-clause-keys : goal.returns-then-is_new-clause-keys
returns-then-is_new-clause-keys c =
    subst (λ (t : Tables). Extends t.keys (names_of c.insert_full.new.self.keys)) c.self.view_is (extends-more _ _ _ (more (goal.at.returns-then-is_new-clause-keys c).Then-is_new))

pub invariant_of-self-else-is_new : goal.invariant_of-self-else-is_new
invariant_of-self-else-is_new c =
    let same : c.insert_full.new.self.keys ≡ c.self.inside.keys.keys
    = same-keys c.self.inside.keys.keys c.insert_full.new.self.keys c.in_ok-key.key c.in_ok-index.is_new c.if-is_new.false c.in_ok-index.ensures.added c.in_ok-index.ensures.keys in
    rw (same, c.reserve.ensures.now, c.reserve.ensures.past) c.self.invariant
