use Rattle.std.proofs.Common.{◌++◌, ◌∷◌, ◌∙◌, ap, append_assoc, [], ℕ, List}
use Rattle.std.proofs.lemmas.List.{flat_map_more}
use Rattle.chip_trace.specs.Columns.{header_line}
use Rattle.chip_trace.specs.Machine.{machine_lines}
use Rattle.chip_trace.proofs.columns.Columns.push_header_lines.Goals as goal

pub returns-in_ok-push-in-Fields : goal.returns-in_ok-push-in-Fields
returns-in_ok-push-in-Fields c =
    let header : List ℕ = header_line c.args.self.now in
    let ended : List ℕ → List ℕ = λ l. l ++ 10 ∷ [] in
    rw (c.in-Fields.is, c.in_ok-push-in-Fields.ensures.items, c.in_ok-push_header-in-Fields.ensures)
    (append_assoc c.push_machine.new.text.items header (10 ∷ [])
    ∙ ap (λ l. l ++ (header ++ 10 ∷ [])) c.in_ok-push_machine-in-Fields.ensures
    ∙ flat_map_more ended c.args.text.now.items (machine_lines c.args.quirks) header)
