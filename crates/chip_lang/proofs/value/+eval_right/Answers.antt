use Rattle.std.proofs.Common.{rules, ◌≡◌, ◌∙◌, ◌∷◌, Ok, sym, w32, to_z, of_z}
use Rattle.std.proofs.lemmas.Int.{to_z-of_z}
use Rattle.chip_lang.specs.declared.postfix.Item.TheVariants.{Binary}
use Rattle.chip_lang.specs.inner.LastValue.{value_put}
use Rattle.chip_lang.proofs.LastValue.{after_value, operand_fault, no_more}
use Rattle.chip_lang.proofs.value.+eval_right.Goals as goal

pub returns-in_err-right-in-WithNumber-clause-fault : goal.returns-in_err-right-in-WithNumber-clause-fault
returns-in_err-right-in-WithNumber-clause-fault g t c =
    let all = operand_fault c.args.meanings.now.words.now (g.N.Names.symbols c.args.meanings.now.names.now) c.in-Some.item.now c.in_err-right-in-WithNumber.field-0.0 c.args.first c.args.left (to_z w32 c.loop-item.right-bits) c.args.items.now _ _ c.ranges.first c.ranges.left c.loop-item.invariant.same c.in-Some.ensures.cases.0 (λ under. search rules) in
    search (rules, all)

pub returns-in_err-right-in-WithName-clause-fault : goal.returns-in_err-right-in-WithName-clause-fault
returns-in_err-right-in-WithName-clause-fault g t c =
    let all = operand_fault c.args.meanings.now.words.now (g.N.Names.symbols c.args.meanings.now.names.now) c.in-Some.item.now c.in_err-right-in-WithName.field-0.0 c.args.first c.args.left (to_z w32 c.loop-item.right-bits) c.args.items.now _ _ c.ranges.first c.ranges.left c.loop-item.invariant.same c.in-Some.ensures.cases.0 (λ under. search rules) in
    search (rules, all)

pub returns-in_err-apply-in-Binary-clause-fault : goal.returns-in_err-apply-in-Binary-clause-fault
returns-in_err-apply-in-Binary-clause-fault g t c =
    let all = operand_fault c.args.meanings.now.words.now (g.N.Names.symbols c.args.meanings.now.names.now) c.in-Some.item.now c.in_err-apply-in-Binary.field-0.0 c.args.first c.args.left (to_z w32 c.loop-item.right-bits) c.args.items.now _ _ c.ranges.first c.ranges.left c.loop-item.invariant.same c.in-Some.ensures.cases.0 (λ under. search rules) in
    search (rules, all)

pub returns-in-Binary-clause-value : goal.returns-in-Binary-clause-value
returns-in-Binary-clause-value g t c under =
    let symbols = g.N.Names.symbols c.args.meanings.now.names.now in
    let is = rw c.in-Binary.is at c.in-Some.ensures.cases.0 in
    let put : value_put c.args.meanings.now.words.now symbols (Binary c.in-Binary.sign) (to_z w32 c.loop-item.right-bits ∷ c.args.left ∷ under) ≡ Ok (to_z w32 (of_z w32 c.in_ok-apply-in-Binary.field-0)) = search rules in
    rw (to_z-of_z w32 c.args.first c.ranges.first, to_z-of_z w32 c.args.left c.ranges.left) at c.loop-item.invariant.same under
    ∙ after_value c.args.meanings.now.words.now symbols (Binary c.in-Binary.sign) _ _ _ _ is put

pub returns-clause-value : goal.returns-clause-value
returns-clause-value g t c under =
    let symbols = g.N.Names.symbols c.args.meanings.now.names.now in
    let right = to_z w32 c.loop-item.right-bits in
    let none = c.in_default.ensures.cases in
    rw (to_z-of_z w32 c.args.first c.ranges.first, to_z-of_z w32 c.args.left c.ranges.left) at c.loop-item.invariant.same under
    ∙ no_more c.args.meanings.now.words.now symbols (right ∷ c.args.left ∷ under) _ none ∙ sym (no_more c.args.meanings.now.words.now symbols (right ∷ under) _ none)
