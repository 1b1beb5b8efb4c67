use Rattle.std.proofs.Common.{◌≡◌, ◌∙◌, ℤ, Bool, List, Option, ap, false, is_some, not, sym, true}
use Rattle.chip_lang.specs.SeenLine.{seen_body}
use Rattle.chip_lang.specs.Value.{value_of_name}
use Rattle.chip_asm.specs.Layout.{condition_of}
use Rattle.chip_symbols.specs.Names.{Name, lookup_name, values_of}
use Rattle.chip_symbols.specs.declared.table.Symbol.{Symbol}
use Rattle.chip_symbols.specs.Tables.{Tables}
use Rattle.chip_symbols.proofs.NameValues.{value-of-name}
use Rattle.chip_symbols.proofs.SymbolSteps.{valued-given}
use Rattle.chip_asm.proofs.pass.Pass.condition.Goals as goal

given : (names : List (Name × Symbol)) (name : Name) (x : Option ℤ) → x ≡ value_of_name (values_of names) name → is_some x ≡ is_some (lookup_name names name)
given names name x e = ap is_some (e ∙ value-of-name names name) ∙ valued-given names name

flipped : (a b : Bool) → a ≡ not b → b ≡ not a
flipped a true e = ap not (sym e)
flipped a false e = ap not (sym e)

pub returns-in-Ifdef : goal.returns-in-Ifdef
returns-in-Ifdef c =
    let names = c.args.self.now.names.symbols in
    let value : c.value.result ≡ value_of_name (values_of names) c.get.result.now = c.value.ensures ∙ ap (λ (t : Tables). value_of_name (values_of t.symbols) c.get.result.now) c.new-names.ensures in
    c.is_some.ensures ∙ given names c.get.result.now c.value.result value ∙ ap (λ n. is_some (lookup_name names n)) c.get.ensures ∙ sym (ap (λ b. condition_of names (seen_body b)) c.in-Ifdef.is)

pub returns-in-Ifund : goal.returns-in-Ifund
returns-in-Ifund c =
    let names = c.args.self.now.names.symbols in
    let value : c.value-in-Ifund.result ≡ value_of_name (values_of names) c.get-in-Ifund.result.now = c.value-in-Ifund.ensures ∙ ap (λ (t : Tables). value_of_name (values_of t.symbols) c.get-in-Ifund.result.now) c.new-names.ensures in
    flipped (is_some c.value-in-Ifund.result) c.is_none.result c.is_none.ensures ∙ ap not (given names c.get-in-Ifund.result.now c.value-in-Ifund.result value) ∙ ap (λ n. not (is_some (lookup_name names n))) c.get-in-Ifund.ensures ∙ sym (ap (λ b. condition_of names (seen_body b)) c.in-Ifund.is)
