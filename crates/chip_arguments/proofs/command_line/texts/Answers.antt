use Rattle.std.proofs.Common.{◌∙◌, Bor, List, ap, map, refl, ℕ}
use Rattle.std.proofs.lemmas.Result.{IfOk-weaker}
use Rattle.clap.specs.Words.{found_of}
use Rattle.clap.proofs.WalkLemmas.{raw_values-rows}
use Rattle.chip_arguments.proofs.WordLemmas.{texts_are}
use Rattle.chip_arguments.proofs.command_line.texts.Goals as goal

pub returns : goal.returns
returns c =
    let read = texts_are c.get_strs.result _ _ refl (c.get_strs.ensures ∙ raw_values-rows (found_of c.args.found.now) c.args.id.now) in
    IfOk-weaker c.from_slice.result _ _
    (λ texts made. ap (λ (texts : List (Bor (List ℕ))). map (λ text. text.now) texts) (made ∙ ap (λ texts. texts.now) c.unwrap_or.ensures) ∙ read) c.from_slice.ensures.items
