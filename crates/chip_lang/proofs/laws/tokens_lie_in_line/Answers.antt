use Rattle.chip_lang.specs.computed.Tokens.{tokens_of}
use Rattle.chip_lang.proofs.TokenList.{these_tokens, each_lies_in}
use Rattle.chip_lang.proofs.laws.tokens_lie_in_line.Goals as goal

pub returns : goal.returns
returns c line place d h =
    let lies = each_lies_in line 0 (tokens_of line) place d (these_tokens line) h in
    (lies.rises, lies.inside)
