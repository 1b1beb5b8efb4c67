use Rattle.std.proofs.Common.{◌≡◌, ◌∙◌, ◌++◌, ◌∷◌, [], ℕ, None, ap, is_some, subst, sym}
use Rattle.std.specs.Global.{Vec}
use Rattle.std.specs.Map.{lookup}
use Rattle.std.specs.Str.{bytes_eq}
use Rattle.std.proofs.lemmas.List.{map-append}
use Rattle.indexmap.proofs.CallerLemmas.{insert_entry-new}
use Rattle.chip_symbols.specs.declared.table.Symbol.{Symbol}
use Rattle.chip_symbols.specs.Names.{lookup_name}
use Rattle.chip_check.specs.inner.Known.{listed}
use Rattle.chip_check.proofs.KnownNames.{agree-known, lookup-listed}
use Rattle.chip_check.proofs.known.add_last.Goals as goal

pub returns-in-Some : goal.returns-in-Some
returns-in-Some c name =
    agree-known (listed c.args.symbols.now.entries) (c.args.name.now, c.args.symbol)
    (ap is_some (sym (c.in-Some.ensures.value ∙ lookup-listed c.args.symbols.now.entries c.args.name.now))) name

pub returns-in_ok-insert-in-None : goal.returns-in_ok-insert-in-None
returns-in_ok-insert-in-None c name =
    let entries = c.args.symbols.now.entries in
    let key = c.in_ok-from_slice-in-None.field-0 in
    let none : lookup (λ (k : Vec ℕ). bytes_eq key.items k.items) entries ≡ None
    = subst (λ n. lookup (λ (k : Vec ℕ). bytes_eq n k.items) entries ≡ None) (sym c.in_ok-from_slice-in-None.ensures.items) (sym c.in-None.ensures.value) in
    let more = c.in_ok-insert-in-None.ensures.entries ∙ insert_entry-new (λ (x y : Vec ℕ). bytes_eq x.items y.items) c.args.symbols.now key c.args.symbol none in
    ap (λ es. lookup_name (listed es) name) more
    ∙ ap (λ l. lookup_name l name) (map-append (λ (e : Vec ℕ × Symbol). (e.0.items, e.1)) entries ((key, c.args.symbol) ∷ []))
    ∙ ap (λ n. lookup_name (listed entries ++ (n, c.args.symbol) ∷ []) name) c.in_ok-from_slice-in-None.ensures.items
