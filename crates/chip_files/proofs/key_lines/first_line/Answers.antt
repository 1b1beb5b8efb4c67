use Rattle.std.proofs.Common.{◌≡◌, ◌+◌, ◌-◌, ℕ, List, ap, ap₂, arith, drop, length, length-drop, sym, take, take_all, ◌∙◌, ◌∷◌}
use Rattle.std.specs.List.{after_first, before_first, position_or_len}
use Rattle.std.specs.Str.Lines.{lines, strip_carriage_return}
use Rattle.chip_files.proofs.LineLemmas.{ended_line, is_newline, last_line}
use Rattle.chip_files.proofs.key_lines.first_line.Goals as goal

pub returns-then-end-bytes-clause-first : goal.returns-then-end-bytes-clause-first
returns-then-end-bytes-clause-first c =
    let bytes : List ℕ = c.args.bytes.now in
    let end : ℕ = c.place_of-end.result in
    let value : end ≡ position_or_len is_newline bytes = c.place_of-end.ensures.value in
    let line : c.without_carriage_return.result.now ≡ strip_carriage_return (before_first is_newline bytes) =
    c.without_carriage_return.ensures ∙ ap (λ (n : ℕ). strip_carriage_return (take n bytes)) value in
    let rest : take (length bytes - (end + 1)) (drop (end + 1) bytes) ≡ after_first is_newline bytes =
    take_all (length bytes - (end + 1)) (drop (end + 1) bytes) (omega (arith, length-drop (end + 1) bytes))
    ∙ ap (λ (n : ℕ). drop (n + 1) bytes) value in
    ended_line bytes (omega arith) ∙ ap₂ (λ (l r : List ℕ). l ∷ lines r) (sym line) (sym rest)

pub returns-else-end-bytes-clause-first : goal.returns-else-end-bytes-clause-first
returns-else-end-bytes-clause-first c =
    last_line c.args.bytes.now c.requires (omega (arith, c.place_of-end.ensures.value))
