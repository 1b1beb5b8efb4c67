use Rattle.chip_lang.specs.Keyword.{directive_of, special_of}
use Rattle.chip_lang.specs.inner.NamedForms.{forms_of}
use Rattle.chip_lang.proofs.Keywords.{means_found, means_nothing}
use Rattle.chip_lang.proofs.keyword.keyword_of.Goals as goal

pub returns-in-Some : goal.returns-in-Some
unfolding directive_of special_of forms_of
returns-in-Some c = means_found c.find_in.result _ c.in-Some.last.now c.args.word.now c.find_in.ensures c.words_ending_in.ensures c.in-Some.ensures.value

pub returns-in-None : goal.returns-in-None
returns-in-None c = means_nothing c.args.word.now c.in-None.ensures.value
