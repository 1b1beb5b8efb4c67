use Rattle.std.proofs.Common.{◌∙◌, sym}
use Rattle.std.proofs.lemmas.Bool.{eqb-true, false≢true}
use Rattle.chip_machine.specs.Step.{reg}
use Rattle.chip_facts.proofs.Knowing.{made_of_two, same_register}
use Rattle.chip_facts.proofs.known.Known.operated_by.Goals as goal

pub returns-then-not-made : goal.returns-then-not-made
returns-then-not-made c = λ core known flag.
    let is = made_of_two c.args.self.now core c.args.x c.args.y c.pairs_made-made.result c.args.operation c.args.flag c.values.result c.values-2.result _
    c.pairs_made-made.ensures known c.number.ensures.range c.number-2.ensures.range c.values.ensures.each c.values-2.ensures.each
    (λ same. sym c.number.ensures.value ∙ eqb-true _ _ same ∙ c.number-2.ensures.value) flag in
    false≢true (sym c.if-not-made.true ∙ is.0)

pub returns : goal.returns
returns c = λ core known flag.
    let is = made_of_two c.args.self.now core c.args.x c.args.y c.pairs_made-made.result c.args.operation c.args.flag c.values.result c.values-2.result _
    c.pairs_made-made.ensures known c.number.ensures.range c.number-2.ensures.range c.values.ensures.each c.values-2.ensures.each
    (λ same. sym c.number.ensures.value ∙ eqb-true _ _ same ∙ c.number-2.ensures.value) flag in
    c.set-2.ensures core _ (same_register c.set.new.self core c.args.y (c.set.ensures core (reg core c.args.y) known is.2)) is.1
