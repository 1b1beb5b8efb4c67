use Rattle.std.proofs.Common.{◌∙◌, sym}
use Rattle.std.proofs.lemmas.Bool.{false≢true}
use Rattle.chip_machine.specs.Step.{reg}
use Rattle.chip_facts.proofs.known.Known.operated_with.Goals as goal

pub returns-then-not-made : goal.returns-then-not-made
returns-then-not-made c = λ core b known small among flag.
    let one = known.each c.args.x c.values.ensures.range in
    let is = c.pairs_made-made.ensures (reg core c.args.x) b one.small small (c.values.ensures.each _ one.small ∙ one.among) among (λ h. absurd (false≢true h)) flag in
    false≢true (sym c.if-not-made.true ∙ is.0)

pub returns : goal.returns
returns c = λ core b known small among flag.
    let one = known.each c.args.x c.values.ensures.range in
    let is = c.pairs_made-made.ensures (reg core c.args.x) b one.small small (c.values.ensures.each _ one.small ∙ one.among) among (λ h. absurd (false≢true h)) flag in
    c.set.ensures core _ known is.1
