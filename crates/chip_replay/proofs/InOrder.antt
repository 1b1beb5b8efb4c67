-- The key events, ordered by step, one after the other.
use Rattle.std.proofs.Common.{◌≡◌, ◌≢◌, ℕ, suc, ◌+◌, ◌-◌, ◌*◌, ◌<◌, ◌≤◌, Bool, true, false, cond, eqb, ◌&&◌, List, [], ◌∷◌, ◌++◌, length, take, drop, set, get_or, Some, None, is_some, refl, sym, ap, ◌∙◌, arith, ◌⊎◌, inl, inr, length-drop, get_or-drop, get_or-set_same, get_or-set_other, length-set, length-take}
use Rattle.std.proofs.lemmas.Bool.{cases_eq, cases_lt, false≢true}
use Rattle.std.proofs.lemmas.Bool.Decides.{nat_tests}
use Rattle.std.proofs.lemmas.List.{take-append-drop, get_or-take}
use Rattle.std.proofs.lemmas.List.Edits.{length-insert, get_or-insert_below, get_or-insert_at, get_or-insert_above, length-remove, get_or-remove_below, get_or-remove_above}
use Rattle.std.proofs.lemmas.List.{get_or_default}
use Rattle.std.proofs.Math.Seq.{drop-cons}
use Rattle.std.specs.List.{insert, remove}
use Rattle.chip_replay.proofs.Pages.{split_set}
use Rattle.chip_replay.specs.inner.Changes.{rank, IsInOrder, IsFirstFrom, change_at}
use Rattle.chip_replay.specs.declared.by_step.Event.{Event}

-- whether an event belongs to a key and a step
abbrev is_event : Event → ℕ → ℕ → Bool
is_event e s k = eqb s e.step && eqb k e.key

not_event : (e : Event) (s k : ℕ) → (s ≡ e.step → k ≢ e.key) → is_event e s k ≡ false
not_event e s k other = elim (cases_eq s e.step) [
  | inl same ↦ (let n : k ≢ e.key = other same in grind (arith, nat_tests))
  | inr n ↦ grind (arith, nat_tests)
]

other_rank : (e : Event) (s k : ℕ) → rank e ≢ s * 16 + k → is_event e s k ≡ false
other_rank e s k n = not_event e s k (λ p q. n (omega (arith, p, q)))

the_event : (e : Event) (s k : ℕ) → s ≡ e.step → k ≡ e.key → is_event e s k ≡ true
the_event e s k p q = grind (arith, nat_tests)

by_step : (s k : ℕ) (e : Event) → is_event e s k ≡ true → s ≡ e.step
by_step s k e test = grind (arith, nat_tests)

by_key : (s k : ℕ) (e : Event) → is_event e s k ≡ true → k ≡ e.key
by_key s k e test = grind (arith, nat_tests)

-- the key has no event at the step
pub change_none : (es : List Event) (s k : ℕ) → ((i : ℕ) (d : Event) → i < length es → s ≡ (get_or es i d).step → k ≢ (get_or es i d).key) → change_at es s k ≡ None
change_none [] s k other = refl
change_none (e ∷ es) s k other =
    ap (λ b. cond b (Some e.down) (change_at es s k)) (not_event e s k (other 0 e (omega arith)))
    ∙ change_none es s k (λ i d l. other (suc i) d (omega arith))

-- none of the first events belongs to the key and the step
skipped : (xs ys : List Event) (s k : ℕ) → ((i : ℕ) (d : Event) → i < length xs → is_event (get_or xs i d) s k ≡ false) → change_at (xs ++ ys) s k ≡ change_at ys s k
skipped [] ys s k other = refl
skipped (e ∷ xs) ys s k other =
    ap (λ b. cond b (Some e.down) (change_at (xs ++ ys) s k)) (other 0 e (omega arith))
    ∙ skipped xs ys s k (λ i d l. other (suc i) d (omega arith))

behind : (xs ys zs : List Event) (s k : ℕ) → change_at ys s k ≡ change_at zs s k → change_at (xs ++ ys) s k ≡ change_at (xs ++ zs) s k
behind [] ys zs s k same = same
behind (e ∷ xs) ys zs s k same = ap (cond (is_event e s k) (Some e.down)) (behind xs ys zs s k same)

module _ (es : List Event) (order : IsInOrder es) where
  -- the event at an index
  pub change_there : (i : ℕ) (d : Event) → i < length es → change_at es (get_or es i d).step (get_or es i d).key ≡ Some (get_or es i d).down
  change_there i d l =
      let e = get_or es i d in
      let few : length (take i es) ≡ i = length-take i es ∙ omega arith in
      ap (λ xs. change_at xs e.step e.key) (sym (take-append-drop i es))
      ∙ skipped (take i es) (drop i es) e.step e.key (λ j d' lj. (
      let before : j < i = omega (arith, few) in
      let same : get_or (take i es) j d' ≡ get_or es j d' = get_or-take i es j d' before in
      let there : get_or es i d ≡ get_or es i d' = get_or_default es i d d' l in
      let below : rank (get_or es j d') < rank (get_or es i d') = order.rising j i d' before l in
      ap (λ x. is_event x e.step e.key) same ∙ other_rank (get_or es j d') e.step e.key (λ h. omega (arith, h, below, ap rank there))))
      ∙ ap (λ xs. change_at xs e.step e.key) (drop-cons es i d l)
      ∙ ap (λ b. cond b (Some e.down) (change_at (drop (suc i) es) e.step e.key)) (the_event e e.step e.key refl refl)

  pub steps_rise : (i j : ℕ) (d : Event) → i < j → j < length es → (get_or es i d).step ≤ (get_or es j d).step
  steps_rise i j d l lj = omega (arith, order.rising i j d l lj, order.keys i d (omega arith), order.keys j d lj)

  -- a part of the events
  pub part_in_order : (xs : List Event) (n : ℕ) → n + length xs ≤ length es → ((i : ℕ) (d : Event) → i < length xs → get_or es (n + i) d ≡ get_or xs i d) → IsInOrder xs
  part_in_order xs n fits same =
      record {
        rising = λ i j d l lj. omega (arith, order.rising (n + i) (n + j) d (omega (arith, l)) (omega (arith, lj, fits)), ap rank (same i d (omega (arith, l, lj))), ap rank (same j d lj));
        keys = λ i d l. omega (arith, order.keys (n + i) d (omega (arith, l, fits)), ap (λ (e : Event). e.key) (same i d l));
      }

  -- an index that separates the events at a step
  pub is_first : (step place : ℕ) → place ≤ length es → ((d : Event) → 0 < place → (get_or es (place - 1) d).step < step) → ((d : Event) → place < length es → step ≤ (get_or es place d).step) → IsFirstFrom es step place
  is_first step place within last next =
      record {
        at_most = within;
        before = λ i d l. elim (cases_lt i (place - 1)) [
          | inl a ↦ omega (arith, steps_rise i (place - 1) d a (omega arith), last d (omega arith))
          | inr a ↦ (let same : place - 1 ≡ i = omega arith in omega (arith, last d (omega arith), ap (λ j. (get_or es j d).step) same))
        ];
        after = λ i d l li. elim (cases_lt place i) [
          | inl a ↦ omega (arith, steps_rise place i d a li, next d (omega arith))
          | inr a ↦ (let same : place ≡ i = omega arith in omega (arith, next d (omega arith), ap (λ j. (get_or es j d).step) same))
        ];
      }

  -- the index found by comparing ranks
  pub first_by_rank : (step place : ℕ) → place ≤ length es → ((i : ℕ) (d : Event) → i < place → rank (get_or es i d) < step * 16 + 0) → ((i : ℕ) (d : Event) → place ≤ i → i < length es → step * 16 + 0 ≤ rank (get_or es i d)) → IsFirstFrom es step place
  first_by_rank step place within before after =
      record {
        at_most = within;
        before = λ i d l. omega (arith, before i d l);
        after = λ i d l li. omega (arith, after i d l li, order.keys i d li);
      }

  -- the events up to an event, and the events from it onwards
  pub below_all : (m wanted : ℕ) → m < length es → ((d : Event) → rank (get_or es m d) < wanted) → (i : ℕ) (d : Event) → i < m + 1 → rank (get_or es i d) < wanted
  below_all m wanted lm low i d l = elim (cases_lt i m) [
    | inl a ↦ omega (arith, order.rising i m d a lm, low d)
    | inr a ↦ (let same : m ≡ i = omega arith in omega (arith, low d, ap (λ j. rank (get_or es j d)) same))
  ]

  pub above_all : (m wanted : ℕ) → ((d : Event) → wanted ≤ rank (get_or es m d)) → (i : ℕ) (d : Event) → m ≤ i → i < length es → wanted ≤ rank (get_or es i d)
  above_all m wanted high i d l li = elim (cases_lt m i) [
    | inl a ↦ omega (arith, order.rising m i d a li, high d)
    | inr a ↦ (let same : m ≡ i = omega arith in omega (arith, high d, ap (λ j. rank (get_or es j d)) same))
  ]

  -- the index of a key's event at a step
  module _ (step key place : ℕ) (within : place ≤ length es) (before : (i : ℕ) (d : Event) → i < place → rank (get_or es i d) < step * 16 + key) (after : (i : ℕ) (d : Event) → place ≤ i → i < length es → step * 16 + key ≤ rank (get_or es i d)) where
    above : ((d : Event) → place < length es → rank (get_or es place d) ≢ step * 16 + key) → (i : ℕ) (d : Event) → place ≤ i → i < length es → step * 16 + key < rank (get_or es i d)
    above other i d l li = elim (cases_lt place i) [
      | inl a ↦ omega (arith, order.rising place i d a li, after place d (omega arith) (omega arith))
      | inr a ↦ (let same : place ≡ i = omega arith in omega (arith, after i d l li, other d (omega arith), ap (λ j. rank (get_or es j d)) same))
    ]

    -- there is no event
    absent_by : ((d : Event) → place < length es → rank (get_or es place d) ≢ step * 16 + key) → change_at es step key ≡ None
    absent_by other = change_none es step key (λ i d li p q. elim (cases_lt i place) [
      | inl a ↦ omega (arith, before i d a, p, q)
      | inr a ↦ omega (arith, above other i d a li, p, q)
    ])

    -- there is an event
    pub at_place : is_some (change_at es step key) ≡ true → (place < length es) × ((d : Event) → rank (get_or es place d) ≡ step * 16 + key)
    at_place there = elim (cases_lt place (length es)) [
      | inl a ↦ (
        a,
        λ d. elim (cases_eq (rank (get_or es place d)) (step * 16 + key)) [
          | inl e ↦ e
          | inr n ↦ absurd (false≢true (sym (ap is_some (absent_by (λ d' l. λ h. n (ap rank (get_or_default es place d d' a) ∙ h)))) ∙ there))
        ],
      )
      | inr a ↦ absurd (false≢true (sym (ap is_some (absent_by (λ d l. absurd (omega arith)))) ∙ there))
    ]

    pub none_at_place : key < 16 → change_at es step key ≡ None → (i : ℕ) (d : Event) → place ≤ i → i < length es → step * 16 + key < rank (get_or es i d)
    none_at_place small none = above (λ d l h. (
        let e = get_or es place d in
        let k : e.key < 16 = order.keys place d l in
        let same_step : e.step ≡ step = omega arith in
        let same_key : e.key ≡ key = omega arith in
        let there : Some e.down ≡ None = sym (change_there place d l) ∙ ap (λ s. change_at es s e.key) same_step ∙ ap (change_at es step) same_key ∙ none in
        (cc)))

    -- a part of the events before the index
    front : (s k : ℕ) → s ≡ step → k ≡ key → (i : ℕ) (d : Event) → i < length (take place es) → is_event (get_or (take place es) i d) s k ≡ false
    front s k p q i d l =
        let few : length (take place es) ≡ place = length-take place es ∙ omega arith in
        let low : i < place = omega (arith, few) in
        ap (λ x. is_event x s k) (get_or-take place es i d low)
        ∙ other_rank (get_or es i d) s k (λ h. omega (arith, h, p, q, before i d low))

    -- the events before the index, an event of the key at the step, and the rest
    with_event : (e : Event) (rest : List Event) (b : Bool) (s k : ℕ) → step ≡ e.step → key ≡ e.key → change_at es s k ≡ change_at (take place es ++ rest) s k ⊎ (is_event e s k ≡ true) → is_event e s k ≡ b → change_at (take place es ++ e ∷ rest) s k ≡ cond b (Some e.down) (change_at es s k)
    with_event e rest true s k p q same test =
        let here : s ≡ e.step = by_step s k e test in
        let this : k ≡ e.key = by_key s k e test in
        skipped (take place es) (e ∷ rest) s k (front s k (here ∙ sym p) (this ∙ sym q)) ∙ ap (λ c. cond c (Some e.down) (change_at rest s k)) test
    with_event e rest false s k p q (inl same) test =
        behind (take place es) (e ∷ rest) rest s k (ap (λ c. cond c (Some e.down) (change_at rest s k)) test) ∙ sym same
    with_event e rest false s k p q (inr is) test = absurd (false≢true (sym test ∙ is))

    -- an event is added
    pub inserted : (e : Event) → step ≡ e.step → key ≡ e.key → (s k : ℕ) → change_at (insert es place e) s k ≡ cond (is_event e s k) (Some e.down) (change_at es s k)
    inserted e p q s k = with_event e (drop place es) (is_event e s k) s k p q (inl (ap (λ xs. change_at xs s k) (sym (take-append-drop place es)))) refl

    module _ (inside : place < length es) (there : (d : Event) → rank (get_or es place d) ≡ step * 16 + key) (small : key < 16) where
      here_step : (d : Event) → (get_or es place d).step ≡ step
      here_step d = omega (arith, there d, order.keys place d inside)

      here_key : (d : Event) → (get_or es place d).key ≡ key
      here_key d = omega (arith, there d, order.keys place d inside)

      split : (d : Event) → es ≡ take place es ++ get_or es place d ∷ drop (suc place) es
      split d = sym (take-append-drop place es) ∙ ap (λ xs. take place es ++ xs) (drop-cons es place d inside)

      -- the events without the event at the index, when another event is looked up
      without : (s k : ℕ) → (s ≡ step → k ≢ key) → change_at es s k ≡ change_at (take place es ++ drop (suc place) es) s k
      without s k other = elim es as (λ ds. es ≡ ds → change_at es s k ≡ change_at (take place es ++ drop (suc place) es) s k) [
        | [] ↦ λ e. absurd (omega (arith, inside, ap length e))
        | d ∷ ds ↦ λ e. (
            let x = get_or es place d in
            ap (λ xs. change_at xs s k) (split d)
            ∙ behind (take place es) (x ∷ drop (suc place) es) (drop (suc place) es) s k
            (ap (λ b. cond b (Some x.down) (change_at (drop (suc place) es) s k)) (not_event x s k (λ f g. other (f ∙ here_step d) (g ∙ here_key d)))))
      ] refl

      either : (e : Event) → step ≡ e.step → key ≡ e.key → (s k : ℕ) (b : Bool) → is_event e s k ≡ b → change_at es s k ≡ change_at (take place es ++ drop (suc place) es) s k ⊎ (is_event e s k ≡ true)
      either e p q s k true test = inr test
      either e p q s k false test = inl (without s k (λ f g. false≢true (sym test ∙ the_event e s k (f ∙ p) (g ∙ q))))

      -- the event is overwritten
      pub replaced : (e : Event) → step ≡ e.step → key ≡ e.key → (s k : ℕ) → change_at (set es place e) s k ≡ cond (is_event e s k) (Some e.down) (change_at es s k)
      replaced e p q s k =
          ap (λ xs. change_at xs s k) (split_set es place e inside)
          ∙ with_event e (drop (suc place) es) (is_event e s k) s k p q (either e p q s k (is_event e s k) refl) refl

      gone : (s k : ℕ) → s ≡ step → k ≡ key → change_at (take place es ++ drop (suc place) es) s k ≡ None
      gone s k p q =
          skipped (take place es) (drop (suc place) es) s k (front s k p q)
          ∙ change_none (drop (suc place) es) s k (λ i d l f g. (
          let size : length (drop (suc place) es) ≡ length es - suc place = length-drop (suc place) es in
          let same : get_or (drop (suc place) es) i d ≡ get_or es (suc place + i) d = get_or-drop (suc place) es i d in
          let later : rank (get_or es place d) < rank (get_or es (suc place + i) d) = order.rising place (suc place + i) d (omega arith) (omega (arith, size)) in
          omega (arith, there d, later, f, g, p, q, ap (λ (x : Event). x.step) same, ap (λ (x : Event). x.key) same)))

      removed_by : (b : Bool) (s k : ℕ) → (eqb s step && eqb k key) ≡ b → change_at (remove es place) s k ≡ cond b None (change_at es s k)
      removed_by true s k test = gone s k (grind (arith, nat_tests)) (grind (arith, nat_tests))
      removed_by false s k test = sym (without s k (λ f g. (let no : eqb s step ≡ true = grind (arith, nat_tests) in let never : eqb k key ≡ true = grind (arith, nat_tests) in false≢true (sym test ∙ ap (λ b. b && eqb k key) no ∙ never))))

      -- the event is removed
      pub removed : (s k : ℕ) → change_at (remove es place) s k ≡ cond (eqb s step && eqb k key) None (change_at es s k)
      removed s k = removed_by _ s k refl

    -- the order is preserved
    pub insert_in_order : (e : Event) → step ≡ e.step → key ≡ e.key → key < 16 → ((i : ℕ) (d : Event) → place ≤ i → i < length es → step * 16 + key < rank (get_or es i d)) → IsInOrder (insert es place e)
    insert_in_order e p q small later =
        record {
          rising = λ i j d l lj. (
              let size : length (insert es place e) ≡ length es + 1 = length-insert es place e within in
              elim (cases_lt j place) [
                | inl a ↦ omega (arith, ap rank (get_or-insert_below es place e d i (omega arith) within), ap rank (get_or-insert_below es place e d j a within), order.rising i j d l (omega arith))
                | inr a ↦ elim (cases_eq j place) [
                  | inl at ↦ omega (arith, ap rank (get_or-insert_below es place e d i (omega arith) within), ap rank (get_or-insert_at es place e d within), ap (λ n. rank (get_or (insert es place e) n d)) at, before i d (omega arith), p, q)
                  | inr n ↦ (
                      let above : get_or (insert es place e) j d ≡ get_or es (j - 1) d = above_place j d (omega (arith, a, n)) in
                      elim (cases_lt i place) [
                        | inl b ↦ omega (arith, ap rank (get_or-insert_below es place e d i b within), ap rank above, order.rising i (j - 1) d (omega arith) (omega (arith, size)))
                        | inr b ↦ elim (cases_eq i place) [
                          | inl at ↦ omega (arith, ap rank (get_or-insert_at es place e d within), ap (λ n. rank (get_or (insert es place e) n d)) at, ap rank above, later (j - 1) d (omega arith) (omega (arith, size)), p, q)
                          | inr m ↦ omega (arith, ap rank (above_place i d (omega (arith, b, m))), ap rank above, order.rising (i - 1) (j - 1) d (omega arith) (omega (arith, size)))
                        ]
                      ])
                ]
              ]);
          keys = λ i d l. (
              let size : length (insert es place e) ≡ length es + 1 = length-insert es place e within in
              elim (cases_lt i place) [
                | inl a ↦ omega (arith, ap (λ (x : Event). x.key) (get_or-insert_below es place e d i a within), order.keys i d (omega arith))
                | inr a ↦ elim (cases_eq i place) [
                  | inl at ↦ omega (arith, ap (λ (x : Event). x.key) (get_or-insert_at es place e d within), ap (λ n. (get_or (insert es place e) n d).key) at, q)
                  | inr n ↦ omega (arith, ap (λ (x : Event). x.key) (above_place i d (omega (arith, a, n))), order.keys (i - 1) d (omega (arith, size)))
                ]
              ]);
        }
      where
        above_place : (i : ℕ) (d : Event) → place < i → get_or (insert es place e) i d ≡ get_or es (i - 1) d
        above_place i d l =
            let here : i ≡ i - 1 + 1 = omega arith in
            ap (λ n. get_or (insert es place e) n d) here ∙ get_or-insert_above es place e d (i - 1) (omega arith) within

    pub set_in_order : (e : Event) → step ≡ e.step → key ≡ e.key → key < 16 → place < length es → ((d : Event) → rank (get_or es place d) ≡ step * 16 + key) → IsInOrder (set es place e)
    set_in_order e p q small inside there =
        record {
          rising = λ i j d l lj. (
              let size : length (set es place e) ≡ length es = length-set es place e in
              omega (arith, set_rank i d (omega (arith, size)), set_rank j d (omega (arith, size)), order.rising i j d l (omega (arith, size))));
          keys = λ i d l. (let size : length (set es place e) ≡ length es = length-set es place e in set_key i d (omega (arith, size)));
        }
      where
        set_rank : (i : ℕ) (d : Event) → i < length es → rank (get_or (set es place e) i d) ≡ rank (get_or es i d)
        set_rank i d l = elim (cases_eq i place) [
          | inl same ↦ (
              let now : get_or (set es place e) i d ≡ e = ap (λ n. get_or (set es place e) n d) same ∙ get_or-set_same es place e d inside in
              let was : rank (get_or es i d) ≡ step * 16 + key = ap (λ n. rank (get_or es n d)) same ∙ there d in
              omega (arith, ap rank now, was, p, q))
          | inr other ↦ ap rank (get_or-set_other es place i e d other)
        ]

        set_key : (i : ℕ) (d : Event) → i < length es → (get_or (set es place e) i d).key < 16
        set_key i d l = elim (cases_eq i place) [
          | inl same ↦ (
              let now : get_or (set es place e) i d ≡ e = ap (λ n. get_or (set es place e) n d) same ∙ get_or-set_same es place e d inside in
              omega (arith, ap (λ (x : Event). x.key) now, q))
          | inr other ↦ omega (arith, ap (λ (x : Event). x.key) (get_or-set_other es place i e d other), order.keys i d l)
        ]

    pub remove_in_order : place < length es → IsInOrder (remove es place)
    remove_in_order inside =
        record {
          rising = λ i j d l lj. (
              let size : length (remove es place) + 1 ≡ length es = length-remove es place inside in
              elim (cases_lt j place) [
                | inl a ↦ omega (arith, ap rank (get_or-remove_below es place d i (omega arith) inside), ap rank (get_or-remove_below es place d j a inside), order.rising i j d l (omega (arith, size)))
                | inr a ↦ elim (cases_lt i place) [
                  | inl b ↦ omega (arith, ap rank (get_or-remove_below es place d i b inside), ap rank (get_or-remove_above es place d j a inside), order.rising i (j + 1) d (omega arith) (omega (arith, size)))
                  | inr b ↦ omega (arith, ap rank (get_or-remove_above es place d i b inside), ap rank (get_or-remove_above es place d j a inside), order.rising (i + 1) (j + 1) d (omega arith) (omega (arith, size)))
                ]
              ]);
          keys = λ i d l. (
              let size : length (remove es place) + 1 ≡ length es = length-remove es place inside in
              elim (cases_lt i place) [
                | inl a ↦ omega (arith, ap (λ (x : Event). x.key) (get_or-remove_below es place d i a inside), order.keys i d (omega (arith, size)))
                | inr a ↦ omega (arith, ap (λ (x : Event). x.key) (get_or-remove_above es place d i a inside), order.keys (i + 1) d (omega (arith, size)))
              ]);
        }
