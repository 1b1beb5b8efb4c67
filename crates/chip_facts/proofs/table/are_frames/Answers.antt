use Rattle.std.proofs.Common.{◌≡◌, ◌≤◌, ◌+◌, ◌-◌, ◌∙◌, ◌∷◌, ◌++◌, [], ℕ, List, length, take, get_or, sym, subst, arith}
use Rattle.std.specs.Cmp.Lexicographic.{same_text}
use Rattle.std.proofs.lemmas.Bool.{eqb-true}
use Rattle.std.proofs.lemmas.List.{take_more, take_all}
use Rattle.chip_facts.specs.inner.Steps.{frames_by}
use Rattle.chip_facts.proofs.table.are_frames.Goals as goal

last_of : (xs : List ℕ) → 1 ≤ length xs → xs ≡ take (length xs - 1) xs ++ get_or xs (length xs - 1) 0 ∷ []
last_of xs some =
    let all : length xs ≤ length xs - 1 + 1 = omega arith in
    sym (take_all (length xs - 1 + 1) xs all) ∙ take_more xs (length xs - 1) 0 (omega (arith, some))

pub returns-then-eq : goal.returns-then-eq
returns-then-eq c = λ last.
    let then : List ℕ = c.args.then.now in
    let first : take (length then - 1) then ≡ c.args.frames.now = same_text _ _ c.if-eq.ensures in
    subst (λ way. then ≡ frames_by way c.args.frames.now) (sym c.in-Call.is)
    (last_of then c.in-len1-up.len_at_least ∙ (λ i. first i ++ eqb-true _ _ last i ∷ []))
