-- The cases of files: the answers of a case, and whether all pass.
use Rattle.std.proofs.Common.{◌≡◌, ◌≢◌, ◌⊎◌, inl, inr, ℕ, zero, suc, ◌+◌, ◌<◌, ◌≤◌, ◌==◌, ◌&&◌, Bool, true, false, List, [], ◌∷◌, drop, length, map, get_or, Some, None, refl, sym, ap, ◌∙◌, subst, arith, add-one, drop-cons, eqb-true}
use Rattle.std.specs.Prelude.{◌↔◌, IsTrue}
use Rattle.std.proofs.lemmas.List.{drop_all, get_or-map, length-map}
use Rattle.chip_asm.specs.Lines.{open_fault}
use Rattle.chip_asm.specs.declared.refusal.OpenError.{OpenError}
use Rattle.chip_asm.specs.declared.refusal.OpenError.TheVariants as unopened
use Rattle.chip_cases.specs.Matching.{IsAnswered}
use Rattle.chip_cases.specs.Steps.{Expectation, expectation_of}
use Rattle.chip_cases.specs.declared.case.Step.{Step}
use Rattle.chip_cases.specs.declared.update.Given.{Given}
use Rattle.chip_session.specs.Session.{Session}
use Rattle.chip_session.specs.Settings.{SessionSettings}
use Rattle.chip_bench.specs.Testing.{CasePasses, JudgesAll, Passes}
use Rattle.chip_host.specs.declared.ending.Code.{Code}
use Rattle.chip_host.specs.declared.ending.Failure.TheVariants as failure
use Rattle.chip_bench.specs.inner.Reads.{IsSessionOf, IsUnmade}
use Rattle.std.specs.Borrow.{Bor}
use Rattle.chip_session.specs.Transcript.{after, reply}

module _ (start : Session) (steps : List Step) where
  -- all answers are as expected exactly if the answers so far are and the remaining ones will be
  pub record PassesSoFar (session : Session) (place : ℕ) (others : List Given) : Type 0 where
    pub same : Passes start (map expectation_of steps) ↔ ((others ≡ []) × Passes session (drop place (map expectation_of steps)))

  pub passes_none : PassesSoFar start 0 []
  passes_none = record { same = (λ p. (refl, p), λ p. p.1) }

  pub passes_more : (session next : Session) (place : ℕ) (step nothing : Step) (old new : List Given) (is : Bool) → place < length steps
      → step ≡ get_or steps place nothing → PassesSoFar session place old
      → IsTrue is ↔ IsAnswered (expectation_of step).expected (reply session (expectation_of step).command)
      → next ≡ after session (expectation_of step).command → (new ≡ []) ↔ ((old ≡ []) × IsTrue is) → PassesSoFar next (place + 1) new
  passes_more session next place step nothing old new is within step_is so_far answered next_is kept = record { same = (forth, back) }
    where
      one : Expectation
      one = expectation_of step

      rest : List Expectation
      rest = drop (place + 1) (map expectation_of steps)

      here : drop place (map expectation_of steps) ≡ one ∷ rest
      here =
          let inside : place < length (map expectation_of steps) = subst (λ n. place < n) (sym (length-map steps expectation_of)) within in
          drop-cons (map expectation_of steps) place (expectation_of nothing) inside
          ∙ ap (λ e. e ∷ drop (suc place) (map expectation_of steps)) (get_or-map expectation_of steps place nothing (expectation_of nothing) within ∙ ap expectation_of (sym step_is))
          ∙ ap (λ n. one ∷ drop n (map expectation_of steps)) (sym (add-one place))

      forth : Passes start (map expectation_of steps) → (new ≡ []) × Passes next rest
      forth p =
          let known = so_far.same.0 p in
          let both : Passes session (one ∷ rest) = subst (Passes session) here known.1 in
          (kept.1 (known.0, answered.1 both.0), subst (λ s. Passes s rest) (sym next_is) both.1)

      back : (new ≡ []) × Passes next rest → Passes start (map expectation_of steps)
      back p =
          let known = kept.0 p.0 in
          so_far.same.1 (known.0, subst (Passes session) (sym here) (answered.0 known.1, subst (λ s. Passes s rest) next_is p.1))

  pub passes_all : (session : Session) (place : ℕ) (others : List Given) → length steps ≤ place → PassesSoFar session place others
      → (others ≡ []) ↔ Passes start (map expectation_of steps)
  passes_all session place others past so_far =
      let none : drop place (map expectation_of steps) ≡ [] = drop_all place (map expectation_of steps) (subst (λ n. n ≤ place) (sym (length-map steps expectation_of)) past) in
      (λ e. so_far.same.1 (e, subst (Passes session) (sym none) tt), λ p. (so_far.same.0 p).0)

nothing_there : (others : List Given) → (length others == 0) ≡ true → others ≡ []
nothing_there [] e = refl
nothing_there (given ∷ others) e = absurd (let n : length (given ∷ others) ≡ 0 = eqb-true (length (given ∷ others)) 0 e in omega arith)

-- the source opens, and all key events can be added
pub passes_case : (settings : SessionSettings) (source keys : List ℕ) (steps : List Expectation) (under : Session) (others : List Given) →
    IsSessionOf settings source keys under → (others ≡ []) ↔ Passes under steps → ((length others == 0) ≡ true) ↔ CasePasses settings source keys steps
passes_case settings source keys steps under others of same = (
  λ e. record { opens = of.opens; made = of.made; answers = subst (λ s. Passes s steps) of.is (same.0 (nothing_there others e)) },
  λ p. ap (λ l. length l == 0) (same.1 (subst (λ s. Passes s steps) (sym of.is) p.answers)),
)

-- one of the key events can't be added
pub unmade_case : (settings : SessionSettings) (source keys : List ℕ) (steps : List Expectation) (name : Bor (List ℕ)) (number : ℕ) (code : Code) →
    IsUnmade settings source keys (failure.BadKeys name number code) → (false ≡ true) ↔ CasePasses settings source keys steps
unmade_case settings source keys steps name number code (inl short) = absurd (not_short short)
  where
    not_short : failure.BadKeys name number code ≡ failure.OutOfMemory → ⊥
    not_short h = cc
unmade_case settings source keys steps name number code (inr (opens, fault)) =
    (λ no. absurd (let n : false ≡ true = no in cc), λ p. absurd (let n : Some (number, code.0.now) ≡ None = sym fault ∙ p.made in cc))

-- the source doesn't open
pub not_case : (settings : SessionSettings) (source keys : List ℕ) (steps : List Expectation) (fault : OpenError) → fault ≢ unopened.OutOfMemory
    → (fault ≡ unopened.OutOfMemory) ⊎ (open_fault source ≡ Some fault) → (false ≡ true) ↔ CasePasses settings source keys steps
not_case settings source keys steps fault other (inl memory) = absurd (other memory)
not_case settings source keys steps fault other (inr is) =
    (λ no. absurd (let n : false ≡ true = no in cc), λ p. absurd (let n : Some fault ≡ None = sym is ∙ p.opens in cc))

module _ {A : Type 0} (Judges : A → Bool → Type 0) (xs : List A) where
  -- whether all elements pass, given whether the remaining ones pass
  abbrev pub JudgesSoFar : ℕ → Bool → Type 0
  JudgesSoFar place passes = (others : Bool) → JudgesAll Judges (drop place xs) others → JudgesAll Judges xs (passes && others)

  associates : (a b c : Bool) → (a && (b && c)) ≡ ((a && b) && c)
  associates true b c = refl
  associates false b c = refl

  pub judges_more : (place : ℕ) (x nothing : A) (passes one : Bool) → place < length xs → x ≡ get_or xs place nothing → Judges x one → JudgesSoFar place passes
      → JudgesSoFar (place + 1) (passes && one)
  judges_more place x nothing passes one within is judged so_far others left =
      let here : drop place xs ≡ x ∷ drop (place + 1) xs =
      drop-cons xs place nothing within ∙ ap (λ y. y ∷ drop (suc place) xs) (sym is) ∙ ap (λ n. x ∷ drop n xs) (sym (add-one place)) in
      subst (JudgesAll Judges xs) (associates passes one others)
      (so_far (one && others) (subst (λ l. JudgesAll Judges l (one && others)) (sym here) (one, (others, judged, left, refl))))

  pub judges_all : (place : ℕ) (passes : Bool) → length xs ≤ place → JudgesSoFar place passes → JudgesAll Judges xs passes
  judges_all place passes past so_far =
      subst (JudgesAll Judges xs) (and_true passes) (so_far true (subst (λ l. JudgesAll Judges l true) (sym (drop_all place xs past)) refl))
    where
      and_true : (b : Bool) → (b && true) ≡ b
      and_true true = refl
      and_true false = refl

  left_over : (ys : List A) (place : ℕ) → place < length ys → (y : A) × (drop place ys ≡ y ∷ drop (suc place) ys)
  left_over [] place h = absurd (omega arith)
  left_over (y ∷ ys) zero h = (y, refl)
  left_over (y ∷ ys) (suc place) h = left_over ys place (omega arith)

  -- one more element, if its verdict doesn't depend on the element
  pub judges_any : (place : ℕ) (passes one : Bool) → place < length xs → ((x : A) → Judges x one) → JudgesSoFar place passes → JudgesSoFar (place + 1) (passes && one)
  judges_any place passes one within judged so_far others left =
      let first = left_over xs place within in
      let here : drop place xs ≡ first.0 ∷ drop (place + 1) xs = first.1 ∙ ap (λ n. first.0 ∷ drop n xs) (sym (add-one place)) in
      subst (JudgesAll Judges xs) (associates passes one others)
      (so_far (one && others) (subst (λ l. JudgesAll Judges l (one && others)) (sym here) (one, (others, judged first.0, left, refl))))
