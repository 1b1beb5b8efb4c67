use Rattle.std.proofs.Common.{◌++◌, ◌∙◌, ap, sym}
use Rattle.std.proofs.lemmas.List.{append-nil}
use Rattle.chip_lang.proofs.TokenList.{placed}
use Rattle.chip_lang.proofs.token.tokens.Goals as goal

pub returns-clause-placed : goal.returns-clause-placed
returns-clause-placed c =
    placed c.args.line.now c.loop-token.tokens.items
    (sym (append-nil c.loop-token.tokens.items) ∙ ap (λ rest. c.loop-token.tokens.items ++ rest) (sym c.in_default.ensures.rest) ∙ c.loop-token.invariant.1)
