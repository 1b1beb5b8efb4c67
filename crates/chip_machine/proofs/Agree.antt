-- Registers, I and screens that agree in the known parts, and the values computed from these.
use Rattle.std.proofs.Common.{◌≡◌, ◌≢◌, ℕ, zero, suc, ◌+◌, ◌-◌, ◌<◌, ◌≤◌, ◌==◌, ◌&&◌, ◌||◌, Bool, true, false, not, List, [], ◌∷◌, ◌++◌, length, get_or, slice_index, slice_set, refl, sym, ap, subst, drop, ◌∙◌, ◌⊎◌, inl, inr, arith}
use Rattle.std.specs.List.{list_all, range_with_len}
use Rattle.std.proofs.lemmas.Bool.{and_from, cases_Bool, cases_eq, cases_lt, eqb-true, or_cases, or_parts}
use Rattle.std.proofs.lemmas.List.{get_or-append_right, get_or-drop, get_or-set_other, get_or-set_same, get_or_append_left, get_or_past, length-append, length-drop, length-set, set_past}
use Rattle.std.proofs.lemmas.List.Folds.{list_all_at}
use Rattle.std.proofs.lemmas.Nat.Bits.{bit_at-zero}
use Rattle.chip_machine.specs.Forgotten.{far_part, has_part, index_part, is_one_forgotten, is_one_of, register_part, screen_part}
use Rattle.chip_machine.specs.Points.{Points}
use Rattle.chip_machine.specs.Relevant.{AreNear}

-- ---- values

pub both : {A : Type 0} (f : ℕ → ℕ → A) {x y u v : ℕ} → x ≡ u → y ≡ v → f x y ≡ f u v
both f {x} {y} {u} {v} p q = ap (λ (n : ℕ). f n y) p ∙ ap (f u) q

pub set_alike : (r s : List ℕ) (x v w : ℕ) → length r ≡ length s → v ≡ w → slice_index (slice_set r x v) x ≡ slice_index (slice_set s x w) x
set_alike r s x v w size e =
    elim (cases_lt x (length r)) [
      | inl low ↦ get_or-set_same r x v 0 low ∙ e ∙ sym (get_or-set_same s x w 0 (omega arith))
      | inr high ↦
          let other : length s ≤ x = omega arith in
          ap (λ (xs : List ℕ). slice_index xs x) (set_past r x v high) ∙ get_or_past r x 0 high
          ∙ sym (ap (λ (xs : List ℕ). slice_index xs x) (set_past s x w other) ∙ get_or_past s x 0 other)
    ]

-- ---- registers, I and screens that agree in the parts that are known

pub record Agree (K : ℕ → Type 0) (r s : List ℕ) (i j : ℕ) (l m : Points) : Type 0 where
  pub count : length r ≡ length s
  pub registers : (x : ℕ) → K (register_part x) → slice_index r x ≡ slice_index s x
  pub index : K index_part → i ≡ j
  pub near : K far_part → AreNear i j
  pub screen : K screen_part → l ≡ m

module _ {K L : ℕ → Type 0} {r s : List ℕ} {i j : ℕ} {l m : Points} where
  pub less : ((part : ℕ) → L part → K part) → Agree K r s i j l m → Agree L r s i j l m
  less sub k = record { count = k.count; registers = λ x h. k.registers x (sub _ h); index = λ h. k.index (sub _ h); near = λ h. k.near (sub _ h); screen = λ h. k.screen (sub _ h) }

  pub put : (x v w : ℕ) → (L (register_part x) → v ≡ w) → ((part : ℕ) → L part → (part ≡ register_part x) ⊎ K part) → Agree K r s i j l m → Agree L (slice_set r x v) (slice_set s x w) i j l m
  put x v w e rest k =
      record {
        count = length-set r x v ∙ k.count ∙ sym (length-set s x w);
        registers = λ y h.
            elim (cases_eq y x) [
              | inl same ↦
                  subst (λ (n : ℕ). slice_index (slice_set r x v) n ≡ slice_index (slice_set s x w) n) (sym same)
                  (set_alike r s x v w k.count (e (subst (λ (n : ℕ). L (register_part n)) same h)))
              | inr other ↦
                  let known : K (register_part y) = elim (rest _ h) [ inl same ↦ absurd (other (omega arith)) | inr known ↦ known ] in
                  get_or-set_other r x y v 0 other ∙ k.registers y known ∙ sym (get_or-set_other s x y w 0 other)
            ];
        index = λ h. elim (rest _ h) [ inl same ↦ absurd (omega arith) | inr known ↦ k.index known ];
        near = λ h. elim (rest _ h) [ inl same ↦ absurd (omega arith) | inr known ↦ k.near known ];
        screen = λ h. elim (rest _ h) [ inl same ↦ absurd (omega arith) | inr known ↦ k.screen known ];
      }

  pub reindex : (v w : ℕ) → (L index_part → v ≡ w) → (L far_part → AreNear v w) → ((part : ℕ) → L part → ((part ≤ far_part) × (part ≢ screen_part)) ⊎ K part) → Agree K r s i j l m → Agree L r s v w l m
  reindex v w e n rest k =
      record {
        count = k.count;
        registers = λ y h. elim (rest _ h) [ inl same ↦ let low = same.0 in absurd (omega arith) | inr known ↦ k.registers y known ];
        index = e;
        near = n;
        screen = λ h. elim (rest _ h) [ inl same ↦ absurd (same.1 refl) | inr known ↦ k.screen known ];
      }

  pub relight : (v w : Points) → (L screen_part → v ≡ w) → ((part : ℕ) → L part → (part ≡ screen_part) ⊎ K part) → Agree K r s i j l m → Agree L r s i j v w
  relight v w e rest k =
      record {
        count = k.count;
        registers = λ y h. elim (rest _ h) [ inl same ↦ absurd (omega arith) | inr known ↦ k.registers y known ];
        index = λ h. elim (rest _ h) [ inl same ↦ absurd (omega arith) | inr known ↦ k.index known ];
        near = λ h. elim (rest _ h) [ inl same ↦ absurd (omega arith) | inr known ↦ k.near known ];
        screen = e;
      }

  pub load : (bytes read : List ℕ) (n : ℕ) → length bytes ≡ n → length read ≡ n → ((y : ℕ) → y < n → L (register_part y) → slice_index bytes y ≡ slice_index read y)
      → ((part : ℕ) → L part → ((register_part 0 ≤ part) × (part < register_part n)) ⊎ K part) → Agree K r s i j l m
      → Agree L (bytes ++ drop n r) (read ++ drop n s) i j l m
  load bytes read n size as_many same rest k =
      record {
        count =
            length-append bytes (drop n r) ∙ ap (λ m. length bytes + m) (length-drop n r ∙ ap (λ m. m - n) k.count ∙ sym (length-drop n s))
            ∙ ap (λ m. m + length (drop n s)) (size ∙ sym as_many) ∙ sym (length-append read (drop n s));
        registers = λ y h.
            elim (cases_lt y n) [
              | inl low ↦
                  let inside : y < length bytes = omega arith in
                  let there : y < length read = omega arith in
                  get_or_append_left bytes (drop n r) 0 y inside ∙ same y low h ∙ sym (get_or_append_left read (drop n s) 0 y there)
              | inr high ↦
                  let known : K (register_part y) = elim (rest _ h) [ inl within ↦ absurd (omega arith) | inr known ↦ known ] in
                  let place : n + (y - n) ≡ y = omega arith in
                  get_or-append_right bytes (drop n r) n y 0 size high ∙ get_or-drop n r (y - n) 0
                  ∙ ap (slice_index r) place ∙ k.registers y known ∙ ap (slice_index s) (sym place)
                  ∙ sym (get_or-append_right read (drop n s) n y 0 as_many high ∙ get_or-drop n s (y - n) 0)
            ];
        index = λ h. elim (rest _ h) [ inl within ↦ absurd (omega arith) | inr known ↦ k.index known ];
        near = λ h. elim (rest _ h) [ inl within ↦ absurd (omega arith) | inr known ↦ k.near known ];
        screen = λ h. elim (rest _ h) [ inl within ↦ absurd (omega arith) | inr known ↦ k.screen known ];
      }

-- ---- parts

pub off_by : (x q : Bool) → (x ≡ true → q ≡ true) → q ≡ false → x ≡ false
off_by true q h off = absurd (let on = h refl in cc)
off_by false q h off = refl

pub unset : (b o t : Bool) → (b && not o || t) ≡ false → (o ≡ true) ⊎ (b ≡ false)
unset b true t h = inl refl
unset true false t h = absurd (cc)
unset false false t h = inr refl

pub none_forgotten : (before : ℕ) (parts : List ℕ) → is_one_forgotten before parts ≡ false → list_all (λ part. not (has_part before part)) parts ≡ true
none_forgotten before [] h = refl
none_forgotten before (p ∷ ps) h =
    let both = or_parts (has_part before p) (is_one_forgotten before ps) h in
    and_from _ _ (ap not both.0) (none_forgotten before ps both.1)

pub first_known : (a rest : Bool) → (not a && rest) ≡ true → (a ≡ false) × (rest ≡ true)
first_known true rest h = absurd (cc)
first_known false rest h = (refl, h)

pub in_row : (start n part : ℕ) → is_one_of (range_with_len start n) part ≡ true → (start ≤ part) × (part < start + n)
in_row start zero part h = absurd (cc)
in_row start (suc n) part h =
    elim (or_cases _ _ h) [
      | inl here ↦ let same = eqb-true part start here in (omega arith, omega arith)
      | inr later ↦ let there = in_row (start + 1) n part later in (omega arith, omega arith)
    ]

pub known_at : (before : ℕ) (parts : List ℕ) (k : ℕ) → list_all (λ part. not (has_part before part)) parts ≡ true → k < length parts → has_part before (get_or parts k 0) ≡ false
known_at before parts k h inside =
    elim (cases_Bool (has_part before (get_or parts k 0))) [
      | inl on ↦ let none = list_all_at (λ part. not (has_part before part)) parts k 0 inside (ap not on) in absurd (cc)
      | inr off ↦ off
    ]

pub none_known : (parts : List ℕ) → list_all (λ part. not (has_part 0 part)) parts ≡ true
none_known [] = refl
none_known (p ∷ ps) = ap (λ b. not (b == 1) && list_all (λ part. not (has_part 0 part)) ps) (bit_at-zero p) ∙ none_known ps
