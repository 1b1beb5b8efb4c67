use Rattle.std.proofs.Common.{sym, ap, ◌∙◌}
use Rattle.std.specs.List.{find}
use Rattle.std.specs.Option.{option_or}
use Rattle.std.proofs.lemmas.List.Folds.{find-append}
use Rattle.chip_trace.specs.Columns.{register_columns}
use Rattle.chip_trace.specs.Header.{column_of, is_named, other_columns}
use Rattle.chip_trace.proofs.header.column_of.Goals as goal

pub returns-in-Some : goal.returns-in-Some
unfolding column_of
returns-in-Some c =
    let named = is_named c.args.name.now in
    sym (find-append named other_columns register_columns ∙ ap (λ found. option_or found (find named register_columns)) (sym c.in-Some.ensures))

pub returns-in-None : goal.returns-in-None
unfolding column_of
returns-in-None c =
    let named = is_named c.args.name.now in
    c.register_of.ensures ∙ sym (find-append named other_columns register_columns ∙ ap (λ found. option_or found (find named register_columns)) (sym c.in-None.ensures))
