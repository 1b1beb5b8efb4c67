use Rattle.chip_lang.proofs.Keywords.{reserved_word}
use Rattle.chip_lang.proofs.front.is_reserved.Goals as goal

pub returns-in-Some : goal.returns-in-Some
returns-in-Some c = reserved_word c.in-Some.field-0 c.args.word.now c.in-Some.ensures
