use Rattle.std.proofs.Common.{◌≡◌, ◌∙◌, ◌+◌, ◌&&◌, ◌||◌, ℕ, Bool, List, not, ap, sym}
use Rattle.std.specs.List.{list_any}
use Rattle.chip_warnings.specs.declared.seen.Seen.{Seen}
use Rattle.chip_warnings.specs.Seen.{is_code}
use Rattle.chip_warnings.specs.Marked.{is_code_pointed_at, is_pointed_at}
use Rattle.chip_warnings.specs.inner.Noted.{flag}
use Rattle.chip_warnings.proofs.Flags.{same-marked}
use Rattle.chip_warnings.proofs.marks.Marks.of.Goals as goal
use Rattle.chip_warnings.proofs.marks.Marks.of.Goals.{then-writes, else-writes}

pub returns : goal.returns
returns c =
    let lines : List Seen = c.args.lines.now in
    let at_code : Bool = c.has_code_pointed-is_code_pointed.result in
    let pointed : (a : ℕ) → flag c.deref.result.now a ≡ is_pointed_at lines a = λ a. ap (λ l. flag l a) c.deref.ensures.value ∙ c.in_ok-pointed.ensures a in
    let coded : at_code ≡ list_any (is_code_pointed_at lines) lines
    = c.has_code_pointed-is_code_pointed.ensures ∙ (λ j. list_any (λ s. is_code s.says && (pointed s.address j || pointed (s.address + 1) j)) lines) in
    let both : c.if-writes.result ≡ (c.has_store-writes.result && at_code)
    = elim c.if-writes.branch [
      | then-writes w ↦ w.result-is ∙ ap (λ b. b && at_code) (sym w.if-writes.true)
      | else-writes w ↦ w.result-is ∙ w.if-writes.false ∙ ap (λ b. b && at_code) (sym w.if-writes.false)
    ] in
    same-marked _ _ c.in_ok-jumped.ensures
    (λ a j. c.in_ok-data.ensures a j && not (c.has_store-writes.ensures j && c.in_ok-pointed.ensures a j))
    (both ∙ (λ j. c.has_store-writes.ensures j && coded j))
