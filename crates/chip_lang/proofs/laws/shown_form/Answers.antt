use Rattle.chip_lang.proofs.Shown.{word_shown, form_fits}
use Rattle.chip_lang.proofs.laws.shown_form.Goals as goal

pub returns-clause-word : goal.returns-clause-word
returns-clause-word c = word_shown

pub returns-clause-fits : goal.returns-clause-fits
returns-clause-fits c = form_fits
