use Rattle.std.proofs.Common.{◌≡◌, ◌∙◌, ◌<◌, ℕ, Bool, true, false, not, List, Some, ap, sym, subst, refl, arith, length, slice_get}
use Rattle.std.specs.Global.{Vec}
use Rattle.std.specs.Str.{bytes_eq}
use Rattle.std.proofs.lemmas.List.{length-map}
use Rattle.std.proofs.lemmas.Option.{slice_get_within}
use Rattle.chip_symbols.specs.Tables.{IsNumber, Tables}
use Rattle.chip_symbols.proofs.SymbolSteps.{key-there}
use Rattle.chip_symbols.proofs.table.Scope.number_at.Goals as goal

not-not : (b : Bool) → not b ≡ false → b ≡ true
not-not true h = refl
not-not false h = cc

pub returns : goal.returns
returns c =
    let keys : List (Vec ℕ) = c.table.inside.keys.keys in
    let number : ℕ = c.in_ok-id.id.now.number in
    let there : slice_get keys number ≡ Some c.in_ok-key.key.now = sym c.in_ok-key.ensures.key in
    let low : number < length keys = slice_get_within keys number c.in_ok-key.key.now there in
    let same : bytes_eq c.args.name.now c.in_ok-key.key.now.items ≡ true
    = ap (bytes_eq c.args.name.now) (sym c.as_slice.ensures.value) ∙ not-not (bytes_eq c.args.name.now c.as_slice.result.now) (sym c.ne.ensures ∙ c.if-ne.false) in
    subst (λ (t : Tables). IsNumber t.keys c.in_ok-id.id.now c.args.name.now) (c.table.view_is ∙ c.self.view_is)
    (record { within = omega (arith, low, length-map keys (λ (k : Vec ℕ). k.items)); named = key-there keys number c.args.name.now (c.in_ok-key.key.now, there, same) })
