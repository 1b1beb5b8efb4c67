-- The lines of a trace, one after the other.
use Rattle.std.proofs.Common.{◌≡◌, ℕ, zero, suc, ◌+◌, ◌-◌, ◌≤◌, ◌||◌, Bool, true, false, cond, not, inl, inr, List, [], ◌∷◌, ◌++◌, map, refl, sym, ap, ap₂, ◌∙◌, add-zero, add_assoc, zero-add, arith}
use Rattle.std.specs.Prelude.{nat_le, is_some}
use Rattle.std.specs.List.{range_with_len, prefix_len}
use Rattle.std.proofs.lemmas.Bool.{leb-true, leb-false, or_cases, or_parts}
use Rattle.chip_machine.specs.State.{State}
use Rattle.chip_replay.specs.History.{History}
use Rattle.chip_replay.specs.Run.{first_below}
use Rattle.chip_trace.specs.Form.{row_of}
use Rattle.chip_trace.specs.Lines.{trace_end, trace_lines, Progress, states_of, remaining, SameRun, TakesLine, IsLineAt}
use Rattle.chip_trace.specs.declared.column.Column.{Column}
use Rattle.chip_trace.specs.declared.form.Form.{Form}

-- a test of numbers, shifted by one
later : (p q : ℕ → Bool) (a b n : ℕ) → ((k : ℕ) → p (a + k) ≡ q (b + k)) → prefix_len p (range_with_len a n) ≡ prefix_len q (range_with_len b n)
later p q a b zero same = refl
later p q a b (suc n) same =
    let here : p a ≡ q b = ap p (sym (add-zero a)) ∙ same 0 ∙ ap q (add-zero b) in
    let rest = later p q (a + 1) (b + 1) n (λ k. ap p (add_assoc a 1 k) ∙ same (1 + k) ∙ ap q (sym (add_assoc b 1 k))) in
    ap₂ (λ t r. cond t (1 + r) 0) here rest

first_here : (p : ℕ → Bool) (n : ℕ) → p 0 ≡ true → first_below p n ≡ 0
unfolding first_below
first_here p zero passes = refl
first_here p (suc n) passes = ap (λ t. cond (not t) (1 + prefix_len (λ x. not (p x)) (range_with_len 1 n)) 0) passes

first_none : (p : ℕ → Bool) → first_below p 0 ≡ 0
unfolding first_below
first_none p = refl

first_later : (p q : ℕ → Bool) (n : ℕ) → p 0 ≡ false → ((k : ℕ) → p (1 + k) ≡ q k) → first_below p (suc n) ≡ 1 + first_below q n
unfolding first_below
first_later p q n fails same =
    ap (λ t. cond (not t) (1 + prefix_len (λ x. not (p x)) (range_with_len 1 n)) 0) fails
    ∙ ap (λ r. 1 + r) (later (λ x. not (p x)) (λ x. not (q x)) 1 0 n (λ k. ap not (same k ∙ ap q (sym (zero-add k)))))

-- whether the machine has stopped k steps later
abbrev stopped_after : (state : ℕ → State) (from k : ℕ) → Bool
stopped_after state from k = is_some (state (from + k)).core.stopped

module _ (form : Form) (columns : List Column) (state : ℕ → State) (from to : ℕ) where
  here : is_some (state from).core.stopped ≡ stopped_after state from 0
  here = ap (λ n. is_some (state n).core.stopped) (sym (add-zero from))

  end_here : (nat_le to from || is_some (state from).core.stopped) ≡ true → trace_end state from to ≡ from
  unfolding trace_end
  end_here last =
      elim (or_cases (nat_le to from) (is_some (state from).core.stopped) last) [
        | inl past ↦
            let none : to - from ≡ 0 = omega (arith, leb-true to from past) in
            ap (λ n. from + first_below (stopped_after state from) n) none
            ∙ ap (λ n. from + n) (first_none (stopped_after state from)) ∙ add-zero from
        | inr stopped ↦
            ap (λ n. from + n) (first_here (stopped_after state from) (to - from) (sym here ∙ stopped)) ∙ add-zero from
      ]

  end_later : (nat_le to from || is_some (state from).core.stopped) ≡ false → trace_end state from to ≡ trace_end state (from + 1) to
  unfolding trace_end
  end_later more =
      let parts = or_parts (nat_le to from) (is_some (state from).core.stopped) more in
      let one : to - from ≡ suc (to - (from + 1)) = omega (arith, leb-false to from parts.0) in
      let next = first_later (stopped_after state from) (stopped_after state (from + 1)) (to - (from + 1)) (sym here ∙ parts.1)
      (λ k. ap (λ n. is_some (state n).core.stopped) (sym (add_assoc from 1 k))) in
      ap (λ n. from + first_below (stopped_after state from) n) one
      ∙ ap (λ n. from + n) next
      ∙ sym (add_assoc from 1 (first_below (stopped_after state (from + 1)) (to - (from + 1))))

  after_start : from ≤ trace_end state from to
  unfolding trace_end
  after_start = omega arith

  abbrev lines_to : ℕ → ℕ → ℕ → List (List ℕ)
  lines_to start count end = map (λ step. row_of form columns step (state step) false) (range_with_len start count) ++ row_of form columns end (state end) true ∷ []

  -- the last line
  pub lines_last : (nat_le to from || is_some (state from).core.stopped) ≡ true → trace_lines form columns state from to ≡ row_of form columns from (state from) true ∷ []
  unfolding trace_lines
  lines_last last =
      let none : from - from ≡ 0 = omega arith in
      ap (λ end. lines_to from (end - from) end) (end_here last) ∙ ap (λ n. lines_to from n from) none

-- a line before the last one
pub lines_more : (form : Form) (columns : List Column) (state : ℕ → State) (from to : ℕ) → (nat_le to from || is_some (state from).core.stopped) ≡ false →
    trace_lines form columns state from to ≡ row_of form columns from (state from) false ∷ trace_lines form columns state (from + 1) to
unfolding trace_lines
lines_more form columns state from to more =
    let end : ℕ = trace_end state (from + 1) to in
    let one : end - from ≡ suc (end - (from + 1)) = omega (arith, after_start form columns state (from + 1) to) in
    ap (λ last. lines_to form columns state from to from (last - from) last) (end_later form columns state from to more)
    ∙ ap (λ n. lines_to form columns state from to from n end) one

-- the same run has the same states
pub same_states : (a b : History State) → SameRun a b → states_of b ≡ states_of a
same_states a b same = rw (same.start, same.rate, same.keys) refl

module _ (state : ℕ → State) where
  pub done_remains : (t : Progress) → t.is_done ≡ true → remaining state t ≡ []
  unfolding remaining
  done_remains t done = rw done refl

  pub open_remains : (t : Progress) → t.is_done ≡ false → remaining state t ≡ trace_lines t.form t.columns state t.next t.to
  unfolding remaining
  open_remains t more = rw more refl

  -- nothing is taken if no line remains
  pub takes_none : (t : Progress) (text : List ℕ) → t.is_done ≡ true → TakesLine (remaining state t) false text text (remaining state t)
  takes_none t text done = rw (done_remains t done) (refl, refl, refl)

  -- the last line is taken
  pub takes_last : (t u : Progress) (text text_after : List ℕ) → t.is_done ≡ false → IsLineAt t.form t.columns state t.next t.to true text text_after
      → u.is_done ≡ true → TakesLine (remaining state t) true text text_after (remaining state u)
  takes_last t u text text_after more line done =
      rw (open_remains t more, lines_last t.form t.columns state t.next t.to (sym line.last), done_remains u done) (refl, line.added, refl)

  -- another line is taken
  pub takes_more : (t u : Progress) (text text_after : List ℕ) → t.is_done ≡ false → IsLineAt t.form t.columns state t.next t.to false text text_after
      → u.form ≡ t.form → u.columns ≡ t.columns → u.next ≡ t.next + 1 → u.to ≡ t.to → u.is_done ≡ false
      → TakesLine (remaining state t) true text text_after (remaining state u)
  takes_more t u text text_after more line form columns next to open_still =
      rw (open_remains t more, lines_more t.form t.columns state t.next t.to (sym line.last), open_remains u open_still, form, columns, next, to) (refl, line.added, refl)
