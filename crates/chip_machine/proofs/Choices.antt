-- Which keys the next step can distinguish, by the rows of the table.
use Rattle.std.proofs.Common.{◌≡◌, ◌≢◌, ℕ, ◌==◌, ◌%◌, ◌^◌, Bool, true, false, not, bit_and, List, [], ◌∷◌, length, min, Option, Some, None, Ok, refl, sym, nat_le, find, is_some, ap, subst, if◌then◌else◌, ◌∙◌, inl, inr, ⊎_elim, arith, eq-eqb}
use Rattle.std.specs.Int.{bit_at}
use Rattle.std.specs.List.{range_with_len}
use Rattle.std.proofs.lemmas.Bool.{cases_eq, eqb-true}
use Rattle.std.proofs.lemmas.Nat.Bits.{bit_at-zero, bit_at_and, bit_at-pow_same, bit_at-pow_other, bit_at-lt}
use Rattle.chip_lang.specs.declared.instr.Instr.{Instr}
use Rattle.chip_lang.specs.declared.instr.Instr.TheVariants as row
use Rattle.chip_machine.specs.declared.limits.TheConstants.{FRAMES}
use Rattle.chip_machine.specs.declared.stop.Stop.{Stop}
use Rattle.chip_machine.specs.declared.stop.Stop.TheVariants as cause
use Rattle.chip_machine.specs.State.{Core, State}
use Rattle.chip_machine.specs.Step.{Effect, Stops, Keyed, draws_nothing, effect, effect_at, effect_of_word, is_key_down, perform, reg, settle, skip_if, step_of, super_only, take_key}
use Rattle.chip_machine.specs.Choices.{IsWithin, IsChoice, Represents}
use Rattle.chip_machine.specs.inner.KeyRows.{choices_of}

-- the bits of masks
down_alone : (k : ℕ) → is_key_down (2 ^ k) k ≡ true
down_alone k = eq-eqb _ _ (bit_at-pow_same k)

up_alone : (k i : ℕ) → i ≢ k → is_key_down (2 ^ k) i ≡ false
up_alone k i ne = ap (λ b. b == 1) (bit_at-pow_other k i ne)

up_none : (i : ℕ) → is_key_down 0 i ≡ false
up_none i = ap (λ b. b == 1) (bit_at-zero i)

both_down : (a b i : ℕ) → is_key_down (bit_and a b) i ≡ true → (is_key_down a i ≡ true) × (is_key_down b i ≡ true)
both_down a b i h =
    let set : min (bit_at a i) (bit_at b i) ≡ 1 = sym (bit_at_and a b i) ∙ eqb-true _ _ h in
    let one : bit_at a i ≡ 1 = omega (arith, bit_at-lt a i, bit_at-lt b i) in
    let other : bit_at b i ≡ 1 = omega (arith, bit_at-lt a i, bit_at-lt b i) in
    (eq-eqb _ _ one, eq-eqb _ _ other)

and_down : (a b i : ℕ) → is_key_down a i ≡ true → is_key_down b i ≡ true → is_key_down (bit_and a b) i ≡ true
and_down a b i h k =
    let one : bit_at a i ≡ 1 = eqb-true _ _ h in
    let other : bit_at b i ≡ 1 = eqb-true _ _ k in
    let set : min (bit_at a i) (bit_at b i) ≡ 1 = omega arith in
    eq-eqb _ _ (bit_at_and a b i ∙ set)

allowed_down : (allowed keys i : ℕ) → IsWithin allowed keys → is_key_down keys i ≡ true → is_key_down allowed i ≡ true
allowed_down allowed keys i within h = (both_down keys allowed i (ap (λ m. is_key_down m i) within ∙ h)).1

-- the first key in a list that is down
found_true : (b : Bool) (p : ℕ → Bool) (x : ℕ) (l : List ℕ) (k : ℕ) → ((h : find p l ≡ Some k) → p k ≡ true) → p x ≡ b → (if b then Some x else find p l) ≡ Some k → p k ≡ true
found_true true p x l k later e h = let same : x ≡ k = cc in ap p (sym same) ∙ e
found_true false p x l k later e h = later h

find_true : (p : ℕ → Bool) (l : List ℕ) (k : ℕ) → find p l ≡ Some k → p k ≡ true
find_true p [] k h = absurd (cc)
find_true p (x ∷ l) k h = found_true (p x) p x l k (find_true p l k) refl h

find_none : (p : ℕ → Bool) (l : List ℕ) → ((i : ℕ) → p i ≡ false) → find p l ≡ None
find_none p [] h = refl
find_none p (x ∷ l) h = ap (λ b. if b then Some x else find p l) (h x) ∙ find_none p l h

-- a search finds the only number that passes its test, if a search with another test finds that number
found_alone : (b : Bool) (p q : ℕ → Bool) (x : ℕ) (l : List ℕ) (k : ℕ) → q k ≡ true → ((i : ℕ) → i ≢ k → q i ≡ false) → (find p l ≡ Some k → find q l ≡ Some k) → (if b then Some x else find p l) ≡ Some k → (if q x then Some x else find q l) ≡ Some k
found_alone true p q x l k passes others later h =
    let same : x ≡ k = cc in
    ap (λ (b : Bool). if b then Some x else find q l) (ap q same ∙ passes) ∙ h
found_alone false p q x l k passes others later h =
    ⊎_elim
    (λ (same : x ≡ k). ap (λ (b : Bool). if b then Some x else find q l) (ap q same ∙ passes) ∙ ap (λ (n : ℕ). Some n) same)
    (λ (other : x ≢ k). ap (λ (b : Bool). if b then Some x else find q l) (others x other) ∙ later h)
    (cases_eq x k)

find_alone : (p q : ℕ → Bool) (l : List ℕ) (k : ℕ) → q k ≡ true → ((i : ℕ) → i ≢ k → q i ≡ false) → find p l ≡ Some k → find q l ≡ Some k
find_alone p q [] k passes others h = absurd (cc)
find_alone p q (x ∷ l) k passes others h = found_alone (p x) p q x l k passes others (find_alone p q l k passes others) h

-- for each mask of allowed keys, some choice leads to the same core
abbrev IsOneOf : ℕ → ℕ → (ℕ → Core) → Type 0
IsOneOf allowed some core_by =
    (keys : ℕ) → IsWithin allowed keys → (one : ℕ) × IsChoice some one × (core_by keys ≡ core_by one)

skip_by : (allowed k : ℕ) (f : Bool → Core) (keys : ℕ) → IsWithin allowed keys → (b : Bool) → is_key_down keys k ≡ b
    → (one : ℕ) × IsChoice (bit_and allowed (2 ^ k)) one × (f (is_key_down keys k) ≡ f (is_key_down one k))
skip_by allowed k f keys within true e = (
  2 ^ k,
  inr (k, and_down allowed (2 ^ k) k (allowed_down allowed keys k within e) (down_alone k), refl),
  ap f (e ∙ sym (down_alone k)),
)
skip_by allowed k f keys within false e = (0, inl refl, ap f (e ∙ sym (up_none k)))

skip_represents : (allowed k : ℕ) (f : Bool → Core) → IsOneOf allowed (bit_and allowed (2 ^ k)) (λ keys. f (is_key_down keys k))
skip_represents allowed k f keys within = skip_by allowed k f keys within (is_key_down keys k) refl

wait_by : (allowed : ℕ) (l : List ℕ) (f : Option ℕ → Core) (keys : ℕ) → IsWithin allowed keys → (key : Option ℕ) → find (is_key_down keys) l ≡ key
    → (one : ℕ) × IsChoice allowed one × (f (find (is_key_down keys) l) ≡ f (find (is_key_down one) l))
wait_by allowed l f keys within None e = (0, inl refl, ap f (e ∙ sym (find_none (is_key_down 0) l up_none)))
wait_by allowed l f keys within (Some k) e = (
  2 ^ k,
  inr (k, allowed_down allowed keys k within (find_true (is_key_down keys) l k e), refl),
  ap f (e ∙ sym (find_alone (is_key_down keys) (is_key_down (2 ^ k)) l k (down_alone k) (up_alone k) e)),
)

wait_represents : (allowed : ℕ) (l : List ℕ) (f : Option ℕ → Core) → IsOneOf allowed allowed (λ keys. f (find (is_key_down keys) l))
wait_represents allowed l f keys within = wait_by allowed l f keys within (find (is_key_down keys) l) refl

-- for each mask of allowed keys, some choice has the same effect
abbrev Acts : ℕ → ℕ → Effect → Type 0
Acts allowed some (Keyed core_by) = IsOneOf allowed some core_by
Acts allowed some _ = Unit {0}

either_represents : (test : Bool) (allowed some : ℕ) (one other : Effect) → Acts allowed some one → Acts allowed some other → Acts allowed some (if test then one else other)
either_represents true allowed some one other h k = h
either_represents false allowed some one other h k = k

super_represents : (c : Core) (allowed some : ℕ) (effect : Effect) → Acts allowed some effect → Acts allowed some (super_only c effect)
super_represents c allowed some effect h = either_represents c.quirks.has_super_instructions allowed some effect (Stops cause.NoInstruction) h tt

row_represents : (allowed : ℕ) (i : Instr) (c : Core) → Acts allowed (choices_of allowed i c) (effect i c)
unfolding effect
row_represents allowed (row.ScrollDown n) c = super_represents c allowed 0 _ tt
row_represents allowed row.Return c = either_represents (length c.frames == 0) allowed 0 _ _ tt tt
row_represents allowed row.ScrollRight c = super_represents c allowed 0 _ tt
row_represents allowed row.ScrollLeft c = super_represents c allowed 0 _ tt
row_represents allowed row.Exit c = super_represents c allowed 0 _ tt
row_represents allowed row.LowSize c = super_represents c allowed 0 _ tt
row_represents allowed row.HighSize c = super_represents c allowed 0 _ tt
row_represents allowed (row.Call address) c = either_represents (length c.frames == FRAMES) allowed 0 _ _ tt tt
row_represents allowed (row.Draw x y n) c = either_represents (draws_nothing n c) allowed 0 _ _ tt tt
row_represents allowed (row.SkipIfKey x) c = skip_represents allowed (reg c x % 16) (λ down. skip_if down c)
row_represents allowed (row.SkipUnlessKey x) c = skip_represents allowed (reg c x % 16) (λ down. skip_if (not down) c)
row_represents allowed (row.WaitKey x) c = wait_represents allowed (range_with_len 0 16) (λ key. take_key key x c)
row_represents allowed (row.BigDigit x) c = super_represents c allowed 0 _ tt
row_represents allowed (row.StoreFlags x) c = super_represents c allowed 0 _ (either_represents (nat_le (length c.flags) x) allowed 0 _ _ tt tt)
row_represents allowed (row.LoadFlags x) c = super_represents c allowed 0 _ (either_represents (nat_le (length c.flags) x) allowed 0 _ _ tt tt)
row_represents allowed i c = tt

perform_acts : (allowed some : ℕ) (s : State) (effect : Effect) → Acts allowed some effect → (keys : ℕ) → IsWithin allowed keys
    → (one : ℕ) × IsChoice some one × (perform keys s effect ≡ perform one s effect)
perform_acts allowed some s (Keyed core_by) h keys within =
    let r = h keys within in
    (r.0, r.1, ap (λ (c : Core). Ok (record s { core = c })) r.2)
perform_acts allowed some s _ h keys within = (0, inl refl, refl)

step_acts : (stopped : Bool) (allowed some : ℕ) (s : State) → Acts allowed some (effect_at s) → (keys : ℕ) → IsWithin allowed keys
    → (one : ℕ) × IsChoice some one × ((tick : Bool) → (if stopped then s else settle tick s (perform keys s (effect_at s))) ≡ (if stopped then s else settle tick s (perform one s (effect_at s))))
step_acts true allowed some s h keys within = (0, inl refl, λ tick. refl)
step_acts false allowed some s h keys within =
    let r = perform_acts allowed some s (effect_at s) h keys within in
    (r.0, r.1, λ tick. ap (settle tick s) r.2)

-- the word at pc determines which keys the next step can distinguish
pub represents : (allowed some : ℕ) (s : State) → Acts allowed some (effect_at s) → Represents allowed some s
unfolding step_of
represents allowed some s h keys within = step_acts (is_some s.core.stopped) allowed some s h keys within

pub represents_stopped : (allowed : ℕ) (s : State) → is_some s.core.stopped ≡ true → Represents allowed 0 s
unfolding step_of
represents_stopped allowed s h keys within =
    (0, inl refl, λ tick. ap (λ (b : Bool). if b then s else settle tick s (perform keys s (effect_at s))) h ∙ sym (ap (λ (b : Bool). if b then s else settle tick s (perform 0 s (effect_at s))) h))

pub represents_no_word : (allowed : ℕ) (s : State) (why : Stop) → effect_at s ≡ Stops why → Represents allowed 0 s
represents_no_word allowed s why e = represents allowed 0 s (subst (λ (effect : Effect). Acts allowed 0 effect) (sym e) tt)

pub represents_no_instr : (allowed : ℕ) (s : State) (word : Option Instr) → effect_at s ≡ effect_of_word word s.core → word ≡ None → Represents allowed 0 s
represents_no_instr allowed s word e none =
    represents_no_word allowed s cause.NoInstruction (e ∙ ap (λ (o : Option Instr). effect_of_word o s.core) none)

pub represents_instr : (allowed : ℕ) (s : State) (core : Core) (word : Option Instr) (instr : Instr) → effect_at s ≡ effect_of_word word s.core → word ≡ Some instr → s.core ≡ core
    → (result : ℕ) → result ≡ choices_of allowed instr core → Represents allowed result s
represents_instr allowed s core word instr e is same result r =
    let at : effect_at s ≡ effect instr s.core = e ∙ ap (λ (o : Option Instr). effect_of_word o s.core) is in
    subst (λ (n : ℕ). Represents allowed n s) (ap (choices_of allowed instr) same ∙ sym r)
    (represents allowed (choices_of allowed instr s.core) s
    (subst (λ (effect : Effect). Acts allowed (choices_of allowed instr s.core) effect) (sym at) (row_represents allowed instr s.core)))
