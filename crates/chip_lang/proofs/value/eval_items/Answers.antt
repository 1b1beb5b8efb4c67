use Rattle.std.proofs.Common.{◌≡◌, ◌∙◌, [], ◌∷◌, rules, sym, ap, w32, to_z, of_z}
use Rattle.chip_lang.specs.inner.LastValue.{last_value}
use Rattle.chip_lang.proofs.LastValue.{last_value-whole, last_value-zero, no_more}
use Rattle.chip_lang.proofs.value.eval_items.Goals as goal

pub loop-rest-init : goal.loop-rest-init
loop-rest-init g c = sym (last_value-zero c.args.meanings.now.words.now (g.N.Names.symbols c.args.meanings.now.names.now) [] c.args.items.now)

pub loop-rest-preserved : goal.loop-rest-preserved
loop-rest-preserved g c =
    let symbols = g.N.Names.symbols c.args.meanings.now.names.now in
    let is : c.in_ok-top.field-0-0 ≡ to_z w32 (of_z w32 c.in_ok-top.field-0-0) = search rules in
    c.loop-rest.invariant ∙ sym (last_value-zero c.args.meanings.now.words.now symbols (to_z w32 c.loop-rest.top-bits ∷ []) c.loop-rest.rest.now)
    ∙ c.in_ok-top.ensures.value [] ∙ ap (λ v. last_value c.args.meanings.now.words.now symbols (v ∷ []) c.in_ok-top.field-0-1.now) is

pub returns-in_err-top : goal.returns-in_err-top
returns-in_err-top g c =
    let symbols = g.N.Names.symbols c.args.meanings.now.names.now in
    let fault =
    sym (last_value-whole c.args.meanings.now.words.now symbols c.args.items.now c.requires.whole) ∙ c.loop-rest.invariant
    ∙ sym (last_value-zero c.args.meanings.now.words.now symbols (to_z w32 c.loop-rest.top-bits ∷ []) c.loop-rest.rest.now)
    ∙ c.in_err-top.ensures.fault [] in
    search (rules, fault)

pub returns : goal.returns
returns g c =
    let symbols = g.N.Names.symbols c.args.meanings.now.names.now in
    sym (no_more c.args.meanings.now.words.now symbols (to_z w32 c.loop-rest.top-bits ∷ []) c.loop-rest.rest.now (search rules))
    ∙ sym c.loop-rest.invariant ∙ last_value-whole c.args.meanings.now.words.now symbols c.args.items.now c.requires.whole
