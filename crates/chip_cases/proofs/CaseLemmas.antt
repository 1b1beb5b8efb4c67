-- Lemmas that assemble the cases of a file from its parts.
use Rattle.std.proofs.Common.{◌≡◌, ◌==◌, inl, inr, ℕ, true, false, List, [], ◌∷◌, ◌++◌, append-nil, length, map, refl, sym, ap, ◌∙◌, subst, arith, eqb-true}
use Rattle.std.specs.Str.Lines.{lines}
use Rattle.chip_cases.specs.Cases.{AreCases, AreCasesBehind, AreCasesOf, behind_setup, behind_steps}
use Rattle.chip_cases.specs.Steps.{expectation_of, steps_below}
use Rattle.chip_cases.specs.declared.case.Case.{Case}
use Rattle.chip_cases.specs.declared.case.Step.{Step}

pub no_lines : (bytes : List ℕ) → (length bytes == 0) ≡ true → lines bytes ≡ []
no_lines [] e = refl
no_lines (byte ∷ bytes) e = absurd (let n : length (byte ∷ bytes) ≡ 0 = eqb-true (length (byte ∷ bytes)) 0 e in omega arith)

-- a file without a `case` line
pub one_case : (text : List ℕ) (commands : List (List ℕ)) (case : Case) (old cases : List Case) → cases ≡ old ++ case ∷ [] → old ≡ [] → commands ≡ behind_setup false (lines text)
    → case.name.now ≡ [] → map expectation_of case.steps.items ≡ steps_below commands → behind_steps commands ≡ [] → AreCases text cases
one_case text commands case old cases added nothing same named steps none =
    subst (λ behind. AreCasesBehind behind cases) same
    (inl (record { case = case; alone = added ∙ ap (λ xs. xs ++ case ∷ []) nothing; is_case = record { named = named; steps = steps }; no_other = none }))

-- a file with `case` lines
pub some_cases : (text : List ℕ) (commands : List (List ℕ)) (steps : List Step) (cases : List Case) → commands ≡ behind_setup false (lines text)
    → map expectation_of steps ≡ steps_below commands → steps ≡ [] → AreCasesOf (behind_steps (behind_setup false (lines text))) (cases ++ [])
    → AreCases text cases
some_cases text commands steps cases same are none of =
    subst (λ behind. AreCasesBehind behind cases) same
    (inr (
      sym are ∙ ap (map expectation_of) none,
      subst (λ lines. AreCasesOf (behind_steps lines) cases) (sym same)
          (subst (AreCasesOf (behind_steps (behind_setup false (lines text)))) (append-nil cases) of),
    ))
