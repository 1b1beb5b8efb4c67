use Rattle.std.proofs.Common.{◌≡◌, ◌+◌, ◌-◌, ◌∷◌, ◌∙◌, ℕ, List, ap, ap₂, sym, arith, drop, length, length-drop, take, take_all}
use Rattle.std.specs.List.{after_first, position_or_len, slice_split}
use Rattle.std.proofs.lemmas.List.Splits.{slice_split_first}
use Rattle.chip_trace.specs.Header.{is_space}
use Rattle.chip_trace.proofs.Names.{only_name}
use Rattle.chip_trace.proofs.header.first_name.Goals as goal

pub returns-then-end-names-clause-names : goal.returns-then-end-names-clause-names
returns-then-end-names-clause-names c =
    let names : List ℕ = c.args.names.now in
    let end : ℕ = c.name_length-end.result in
    let value : end ≡ position_or_len is_space names = c.name_length-end.ensures.value in
    let rest : take (length names - (end + 1)) (drop (end + 1) names) ≡ after_first is_space names =
    take_all (length names - (end + 1)) (drop (end + 1) names) (omega (arith, length-drop (end + 1) names))
    ∙ ap (λ (n : ℕ). drop (n + 1) names) value in
    slice_split_first is_space names 0 (omega arith)
    ∙ ap₂ (λ (l r : List ℕ). l ∷ slice_split is_space r) (sym (ap (λ (n : ℕ). take n names) value)) (sym rest)

pub returns-else-end-names-clause-names : goal.returns-else-end-names-clause-names
returns-else-end-names-clause-names c = only_name c.args.names.now (omega (arith, c.name_length-end.ensures.value))
