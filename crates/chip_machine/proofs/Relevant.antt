-- The parts of a state that later steps depend on, if some parts are forgotten, by the rows of the
-- table: two cores that agree in the known parts, and the results of the same step from both cores.
use Rattle.std.proofs.Common.{◌≡◌, ◌≢◌, ℕ, ◌+◌, ◌-◌, ◌*◌, ◌/◌, ◌%◌, ◌^◌, ◌<◌, ◌≤◌, ◌==◌, min, bit_and, bit_or, bit_xor, Bool, true, false, not, List, [], ◌∷◌, ◌++◌, length, get_or, slice_index, slice_set, Option, Some, None, option_map, Result, Ok, Err, refl, sym, nat_le, find, is_some, ap, subst, if◌then◌else◌, take, drop, nat_lt, ◌∙◌, ◌⊎◌, inl, inr, arith, eq-eqb}
use Rattle.std.specs.FinSet as set
use Rattle.std.specs.List.{list_all, range_with_len}
use Rattle.std.proofs.Math.Nat.{mod-add-div', add-mul-mod_self_right}
use Rattle.std.proofs.lemmas.Bool.{and_from, and_parts, and_right, cases_Bool, eqb-true, leb-false, lt-ltb, ltb-false, ltb-true, or_cases, or_left, or_right}
use Rattle.std.proofs.lemmas.Grind.{same_number_lists}
use Rattle.std.proofs.lemmas.List.{get_or-drop, get_or-take, length-append, length-drop, length-take}
use Rattle.std.proofs.lemmas.Nat.Bits.{bit_at-zero}
use Rattle.std.proofs.lemmas.List.FromFn.{get_or-range_with_len, length-range_with_len}
use Rattle.chip_lang.specs.Decoding.{decode_of, entry_of, gives}
use Rattle.chip_lang.specs.Table.{Entry, fields_in, table}
use Rattle.chip_lang.specs.declared.instr.Instr.{Instr}
use Rattle.chip_lang.specs.declared.instr.Instr.TheVariants as row
use Rattle.chip_lang.specs.declared.limits.TheConstants.{MEMORY_BYTES}
use Rattle.chip_machine.specs.declared.limits.TheConstants.{LAST_WORD, SPRITE_BYTES}
use Rattle.chip_machine.specs.declared.stop.Stop.{Stop}
use Rattle.chip_machine.specs.declared.stop.Stop.TheVariants as cause
use Rattle.chip_machine.specs.Forgotten.{IsUnneeded, draws, far_part, first_registers, flag_part, has_byte, has_part, index_part, is_forgotten_by, is_in_row, is_one_forgotten, is_one_of, loaded, needs, next_instr, parts_by, register_part, screen_part, sets, spoils, spoilt, stored, stored_part, uses}
use Rattle.chip_machine.specs.Points.{Points, meets, symmetric_difference}
use Rattle.chip_machine.specs.Relevant.{Alike, AlikeSteps, AreNear, DrawsGrow, QuietTick, others}
use Rattle.chip_machine.specs.Scroll.{scrolled_down, scrolled_right, scrolled_left}
use Rattle.chip_machine.specs.Sprite.{covered, row_bytes, sprite_bytes}
use Rattle.chip_machine.specs.State.{Core, State, IsProper, overwrite}
use Rattle.chip_machine.specs.Step.{Effect, Stops, Changes, Keyed, Loads, Stores, bit_of, call, decimal_digits, draws_nothing, effect, effect_at, effect_of_word, go_to, has_wide_sixteen, index_past, is_key_down, is_past, load_flags, load_registers, next, perform, reg, resized, return, scrolled_by, settle, skip_if, step_of, store_flags, super_only, take_key, ticked, with_flag, with_index, with_lit, with_reg, with_size, with_sprite, word_at}
use Rattle.chip_machine.specs.inner.FrameTheorem.{step_keeps_proper}
use Rattle.chip_machine.specs.inner.Overwritten.{get_or-overwrite, in_row_true}
use Rattle.chip_machine.proofs.Agree.{Agree, both, first_known, in_row, known_at, less, load, none_forgotten, none_known, off_by, put, reindex, relight, unset}

-- ---- cores and effects

abbrev Near : (after : ℕ → Bool) (most : ℕ) → Core → Core → Type 0
Near after most a b =
    (others a ≡ others b) × (Agree (λ part. after part ≡ false) a.registers b.registers a.index b.index a.lit b.lit)
    × ((a.draws % length a.tape ≡ b.draws % length b.tape) × (a.draws ≤ most))

-- the bytes that are read have the given length, unless no part is known
abbrev HasSize : (after : ℕ → Bool) → ℕ → List ℕ → Type 0
HasSize after size bytes = (part : ℕ) → after part ≡ false → length bytes ≡ size

-- both states read bytes at the same address, or at addresses where no byte is past the end
abbrev SameSpan : (i j count : ℕ) → Type 0
SameSpan i j count = (i ≡ j) ⊎ ((i + count ≤ MEMORY_BYTES) × (j + count ≤ MEMORY_BYTES))

-- both states read the same number of bytes, and the bytes agree except for forgotten ones
abbrev AreReadAlike : (gone : ℕ → Bool) (i count : ℕ) → (bytes read : List ℕ) → Type 0
AreReadAlike gone i count bytes read =
    (length bytes ≡ length read) × ((k : ℕ) → k < count → gone (i + k) ≡ false → slice_index bytes k ≡ slice_index read k)

abbrev Like : (after gone lost : ℕ → Bool) (most keys i j : ℕ) → Effect → Effect → Type 0
Like after gone lost most keys i j (Stops a) (Stops b) = a ≡ b
Like after gone lost most keys i j (Changes a) (Changes b) = Near after most a b
Like after gone lost most keys i j (Keyed f) (Keyed g) = Near after most (f keys) (g keys)
Like after gone lost most keys i j (Loads m f) (Loads n g) =
    (m ≡ n) × SameSpan i j m × ((bytes read : List ℕ) → HasSize after m bytes → (i ≡ j → AreReadAlike gone i m bytes read) → Near after most (f bytes) (g read))
Like after gone lost most keys i j (Stores x a) (Stores y b) =
    (length x ≡ length y) × (i ≡ j) × ((k : ℕ) → k < length x → lost (i + k) ≡ false → slice_index x k ≡ slice_index y k) × Near after most a b
Like after gone lost most keys i j _ _ = ⊥

-- the value of pc after an effect that depends on the keys
abbrev Leads : (keys to : ℕ) → Effect → Type 0
Leads keys to (Keyed f) = (f keys).pc ≡ to
Leads keys to _ = Unit {0}

abbrev Left : (before : ℕ) (after : ℕ → Bool) (set spoiled : List ℕ) → Type 0
Left before after set spoiled = (part : ℕ) → is_forgotten_by before set spoiled part ≡ true → after part ≡ true

one_first : (p : ℕ) (ps : List ℕ) → is_one_of (p ∷ ps) p ≡ true
one_first p ps = or_left (p == p) (is_one_of ps p) (eq-eqb p p refl)

-- a sprite has few rows
abbrev is_small : Instr → Bool
is_small (row.Draw x y n) = nat_lt n 16
is_small instr = true

found_by : (test : Bool) (make : Entry → Instr) (e : Entry) (more : Option Entry) (instr : Instr) → is_small (make e) ≡ true → (option_map make more ≡ Some instr → is_small instr ≡ true)
    → option_map make (if test then Some e else more) ≡ Some instr → is_small instr ≡ true
found_by true make e more instr small next h =
    let same : make e ≡ instr = cc in
    subst (λ (i : Instr). is_small i ≡ true) same small
found_by false make e more instr small next h = next h

found_small : (make : Entry → Instr) (test : Entry → Bool) (es : List Entry) (instr : Instr) → list_all (λ e. is_small (make e)) es ≡ true → option_map make (find test es) ≡ Some instr → is_small instr ≡ true
found_small make test [] instr all h = absurd (cc)
found_small make test (e ∷ es) instr all h =
    let both = and_parts (is_small (make e)) (list_all (λ e. is_small (make e)) es) all in
    found_by (test e) make e (find test es) instr both.0 (found_small make test es instr both.1) h

all_small : (w : ℕ) → list_all (λ e. is_small (e.instr (fields_in w))) table ≡ true
all_small w = and_from (nat_lt (w % 16) 16) true (lt-ltb (w % 16) 16 (omega arith)) refl

draw_small : (w x y n : ℕ) → decode_of w ≡ Some (row.Draw x y n) → n < 16
unfolding decode_of entry_of
draw_small w x y n h = ltb-true n 16 (found_small (λ e. e.instr (fields_in w)) (λ e. gives e.form w) table (row.Draw x y n) (all_small w) h)

sprite_size : (test wide : Bool) (n : ℕ) → n < 16 → (if test then (if wide then SPRITE_BYTES else 16) else n) ≤ 32
sprite_size true true n small = omega arith
sprite_size true false n small = omega arith
sprite_size false wide n small = omega arith

abbrev top : ℕ
top = 2 ^ 64 - 1

-- the core with other registers, I, screen, sound timer and number of random bytes used
abbrev twin : Core → List ℕ → ℕ → Points → ℕ → ℕ → Core
twin c r i l z e = record c { registers = r; index = i; lit = l; sound = z; draws = e }

module _ (before : ℕ) (after lost : ℕ → Bool) (keys to : ℕ) (c : Core) (r : List ℕ) (i : ℕ) (l : Points) (z e : ℕ)
    (base : Agree (λ part. has_part before part ≡ false) c.registers r c.index i c.lit l)
    (same : c.draws % length c.tape ≡ e % length c.tape)
    (more : min (c.draws + 1) top % length c.tape ≡ min (e + 1) top % length c.tape) where
  abbrev d : Core
  d = twin c r i l z e

  abbrev NearBy : Core → Core → Type 0
  NearBy = Near after (c.draws + 1)

  abbrev LikeBy : Effect → Effect → Type 0
  LikeBy = Like after (has_byte before) lost (c.draws + 1) keys c.index i

  -- the bytes that are drawn, loaded and stored
  abbrev BytesBy : Option Instr → Effect → Type 0
  BytesBy word e =
      (draws word ≡ true → (k : ℕ) → c.index ≤ k → k < c.index + loaded e → has_byte before k ≡ false)
      × ((k : ℕ) → k < loaded e → has_byte before (c.index + k) ≡ true → after (register_part k) ≡ true)
      × ((k : ℕ) → k < stored e → has_part before (stored_part word k) ≡ true → lost (c.index + k) ≡ true)

  abbrev LeftBy : List ℕ → List ℕ → Type 0
  LeftBy = Left before after

  either : (test : Bool) (why : Stop) (f : Core → Effect) → (test ≡ false → LikeBy (f c) (f d)) → LikeBy (if test then Stops why else f c) (if test then Stops why else f d)
  either true why f h = refl
  either false why f h = h refl

  super_by : (test : Bool) (f : Core → Effect) → LikeBy (f c) (f d) → LikeBy (if test then f c else Stops cause.NoInstruction) (if test then f d else Stops cause.NoInstruction)
  super_by true f h = h
  super_by false f h = refl

  super : (f : Core → Effect) → LikeBy (f c) (f d) → LikeBy (super_only c (f c)) (super_only d (f d))
  super f h = super_by c.quirks.has_super_instructions f h

  steady : (c.draws % length c.tape ≡ e % length c.tape) × (c.draws ≤ c.draws + 1)
  steady = (same, omega arith)

  abbrev known : List ℕ → Bool
  known parts = list_all (λ part. not (has_part before part)) parts

  split : (p : ℕ) (parts : List ℕ) → known (p ∷ parts) ≡ true → (has_part before p ≡ false) × (known parts ≡ true)
  split p parts u = first_known (has_part before p) (known parts) u

  value : (x : ℕ) → known (register_part x ∷ []) ≡ true → reg c x ≡ slice_index r x
  value x u = base.registers x (split (register_part x) [] u).0

  values : {A : Type 0} (f : ℕ → ℕ → A) (x y : ℕ) → known (register_part x ∷ register_part y ∷ []) ≡ true → f (reg c x) (reg c y) ≡ f (slice_index r x) (slice_index r y)
  values f x y u = both f (base.registers x (split (register_part x) (register_part y ∷ []) u).0) (value y (split (register_part x) (register_part y ∷ []) u).1)

  taken : (x : ℕ) → known (first_registers x) ≡ true → take (x + 1) c.registers ≡ take (x + 1) r
  taken x u =
      same_number_lists _ _ (length-take (x + 1) c.registers ∙ ap (min (x + 1)) base.count ∙ sym (length-take (x + 1) r))
      (λ k h.
      let below : k < x + 1 = omega (arith, length-take (x + 1) c.registers) in
      let place : get_or (first_registers x) k 0 ≡ register_part k = get_or-range_with_len (register_part 0) (x + 1) k 0 below ∙ omega arith in
      let known : has_part before (register_part k) ≡ false =
      ap (has_part before) (sym place) ∙ known_at before (first_registers x) k u (omega (arith, length-range_with_len (register_part 0) (x + 1))) in
      get_or-take (x + 1) c.registers k 0 below ∙ base.registers k known ∙ sym (get_or-take (x + 1) r k 0 below))

  -- everything known after an instruction was known before, except for the parts that it sets
  rest : (set spoiled : List ℕ) → LeftBy set spoiled → (part : ℕ) → after part ≡ false → (is_one_of set part ≡ true) ⊎ (has_part before part ≡ false)
  rest set spoiled h part off = unset _ _ _ (off_by _ _ (h part) off)

  rest_of_one : (p : ℕ) (spoiled : List ℕ) → LeftBy (p ∷ []) spoiled → (part : ℕ) → after part ≡ false → (part ≡ p) ⊎ (has_part before part ≡ false)
  rest_of_one p spoiled h part off =
      elim (rest (p ∷ []) spoiled h part off) [
        | inl o ↦ elim (or_cases _ _ o) [ inl same ↦ inl (eqb-true part p same) | inr never ↦ absurd (cc) ]
        | inr known ↦ inr known
      ]

  rest_of_index : (spoiled : List ℕ) → LeftBy (index_part ∷ far_part ∷ []) spoiled → (part : ℕ) → after part ≡ false → ((part ≤ far_part) × (part ≢ screen_part)) ⊎ (has_part before part ≡ false)
  rest_of_index spoiled h part off =
      elim (rest (index_part ∷ far_part ∷ []) spoiled h part off) [
        | inl o ↦
            elim (or_cases _ _ o) [
              | inl first ↦ let same = eqb-true part index_part first in inl (omega arith, λ other. omega arith)
              | inr more ↦
                  elim (or_cases _ _ more) [
                    | inl second ↦ let same = eqb-true part far_part second in inl (omega arith, λ other. omega arith)
                    | inr never ↦ absurd (cc)
                  ]
            ]
        | inr known ↦ inr known
      ]

  rest_of_row : (x : ℕ) → LeftBy (first_registers x) [] → (part : ℕ) → after part ≡ false → ((register_part 0 ≤ part) × (part < register_part (x + 1))) ⊎ (has_part before part ≡ false)
  rest_of_row x h part off =
      elim (rest (first_registers x) [] h part off) [
        | inl o ↦ inl (let within = in_row (register_part 0) (x + 1) part o in (within.0, omega arith))
        | inr known ↦ inr known
      ]

  -- if a part is known after an instruction that may spoil it, then all parts that the instruction uses
  -- are known
  told_by : (any : Bool) (used spoiled set : List ℕ) → is_one_forgotten before used ≡ any → LeftBy set (if any then spoiled else []) → (part : ℕ) → is_one_of spoiled part ≡ true → after part ≡ false → known used ≡ true
  told_by true used spoiled set is h part one off = absurd (let on = h part (or_right _ _ one) in cc)
  told_by false used spoiled set is h part one off = none_forgotten before used is

  told : (used spoiled set : List ℕ) → LeftBy set (if is_one_forgotten before used then spoiled else []) → (part : ℕ) → is_one_of spoiled part ≡ true → after part ≡ false → known used ≡ true
  told used spoiled set h = told_by (is_one_forgotten before used) used spoiled set refl h

  keep : (spoiled : List ℕ) → LeftBy [] spoiled → Agree (λ part. after part ≡ false) c.registers r c.index i c.lit l
  keep spoiled h = less (λ part off. elim (rest [] spoiled h part off) [ inl o ↦ absurd (cc) | inr known ↦ known ]) base

  set_one : (x v w : ℕ) (spoiled : List ℕ) → (after (register_part x) ≡ false → v ≡ w) → LeftBy (register_part x ∷ []) spoiled
      → Agree (λ part. after part ≡ false) (slice_set c.registers x v) (slice_set r x w) c.index i c.lit l
  set_one x v w spoiled same h = put x v w same (rest_of_one (register_part x) spoiled h) base

  set_from : (x : ℕ) (used : List ℕ) (v w : ℕ) → (known used ≡ true → v ≡ w) → LeftBy (register_part x ∷ []) (if is_one_forgotten before used then register_part x ∷ [] else [])
      → Agree (λ part. after part ≡ false) (slice_set c.registers x v) (slice_set r x w) c.index i c.lit l
  set_from x used v w same h =
      set_one x v w _ (λ off. same (told used (register_part x ∷ []) (register_part x ∷ []) h (register_part x) (one_first (register_part x) []) off)) h

  set_two : (x v w f g : ℕ) (spoiled : List ℕ) → (after (register_part x) ≡ false → v ≡ w) → (after flag_part ≡ false → f ≡ g) → LeftBy (flag_part ∷ register_part x ∷ []) spoiled
      → Agree (λ part. after part ≡ false) (slice_set (slice_set c.registers x v) 15 f) (slice_set (slice_set r x w) 15 g) c.index i c.lit l
  set_two x v w f g spoiled same flags h =
      put {K = λ part. (after part ≡ false) × ((part ≡ register_part x) ⊎ (has_part before part ≡ false))} 15 f g flags
      (λ part off.
      elim (rest (flag_part ∷ register_part x ∷ []) spoiled h part off) [
        | inl o ↦
            elim (or_cases _ _ o) [
              | inl flag ↦ inl (eqb-true part flag_part flag)
              | inr there ↦ elim (or_cases _ _ there) [ inl one ↦ inr (off, inl (eqb-true part (register_part x) one)) | inr never ↦ absurd (cc) ]
            ]
        | inr known ↦ inr (off, inr known)
      ])
      (put x v w (λ both. same both.0) (λ part both. both.1) base)

  set_two_from : (x : ℕ) (used : List ℕ) (v w f g : ℕ) → (known used ≡ true → v ≡ w) → (known used ≡ true → f ≡ g)
      → LeftBy (flag_part ∷ register_part x ∷ []) (if is_one_forgotten before used then flag_part ∷ register_part x ∷ [] else [])
      → Agree (λ part. after part ≡ false) (slice_set (slice_set c.registers x v) 15 f) (slice_set (slice_set r x w) 15 g) c.index i c.lit l
  set_two_from x used v w f g same flags h =
      let spoiled : List ℕ = flag_part ∷ register_part x ∷ [] in
      let all = told used spoiled (flag_part ∷ register_part x ∷ []) h in
      set_two x v w f g _ (λ off. same (all (register_part x) (or_right (register_part x == flag_part) _ (one_first (register_part x) [])) off)) (λ off. flags (all flag_part refl off)) h

  logic : (clears : Bool) (x : ℕ) (used : List ℕ) (v w : ℕ) → (known used ≡ true → v ≡ w)
      → LeftBy (if clears then flag_part ∷ register_part x ∷ [] else register_part x ∷ []) (if is_one_forgotten before used then register_part x ∷ [] else [])
      → NearBy (next (if clears then with_flag x v 0 c else with_reg x v c)) (next (if clears then with_flag x w 0 d else with_reg x w d))
  logic true x used v w same h =
      let all = told used (register_part x ∷ []) (flag_part ∷ register_part x ∷ []) h in
      (refl, set_two x v w 0 0 _ (λ off. same (all (register_part x) (one_first (register_part x) []) off)) (λ _. refl) h, steady)
  logic false x used v w same h = (refl, set_from x used v w same h, steady)

  resize : (clears high : Bool) → LeftBy (if clears then screen_part ∷ [] else []) []
      → NearBy (next (with_size high (if clears then with_lit set.empty c else c))) (next (with_size high (if clears then with_lit set.empty d else d)))
  resize true high h = (refl, relight set.empty set.empty (λ _. refl) (rest_of_one screen_part [] h) base, steady)
  resize false high h = (refl, keep [] h, steady)

  -- a number is added to I; VF is set to whether the sum is above 0FFF, or stays
  abbrev summed : Bool → ℕ → Core → Core
  summed flags n k =
      let moved = with_index ((k.index + n) % 65536) k in
      if flags then with_reg 15 (bit_of (nat_lt 4095 (k.index + n))) moved else moved

  same_sum : (x : ℕ) → known (index_part ∷ register_part x ∷ []) ≡ true → c.index + reg c x ≡ i + slice_index r x
  same_sum x u =
      let first = split index_part (register_part x ∷ []) u in
      both (λ m n. m + n) (base.index first.0) (value x first.1)

  add : (flags : Bool) (x : ℕ)
      → LeftBy (if flags then flag_part ∷ [] else [])
      (if is_one_forgotten before (index_part ∷ register_part x ∷ []) then (if flags then flag_part ∷ index_part ∷ far_part ∷ [] else index_part ∷ far_part ∷ []) else [])
      → NearBy (next (summed flags (reg c x) c)) (next (summed flags (reg d x) d))
  add true x h =
      let all = told (index_part ∷ register_part x ∷ []) (flag_part ∷ index_part ∷ far_part ∷ []) (flag_part ∷ []) h in (
        refl,
        put {K = λ part. (after part ≡ false) × (has_part before part ≡ false)} 15 _ _ (λ off. ap (λ (n : ℕ). bit_of (nat_lt 4095 n)) (same_sum x (all flag_part refl off)))
            (λ part off. elim (rest_of_one flag_part _ h part off) [ inl flag ↦ inl flag | inr known ↦ inr (off, known) ])
            (reindex _ _ (λ here. ap (λ (n : ℕ). n % 65536) (same_sum x (all index_part refl here.0))) (λ here. inl (ap (λ (n : ℕ). n % 65536) (same_sum x (all far_part refl here.0)))) (λ part here. inr here.1) base),
        steady,
      )
  add false x h =
      let all = told (index_part ∷ register_part x ∷ []) (index_part ∷ far_part ∷ []) [] h in (
        refl,
        reindex _ _ (λ off. ap (λ (n : ℕ). n % 65536) (same_sum x (all index_part refl off))) (λ off. inl (ap (λ (n : ℕ). n % 65536) (same_sum x (all far_part refl off)))) (λ part off. inr off) (keep _ h),
        steady,
      )

  abbrev sprite_parts : (x y : ℕ) → List ℕ
  sprite_parts x y = index_part ∷ screen_part ∷ register_part x ∷ register_part y ∷ []

  abbrev under : (n : ℕ) → (sprite : List ℕ) → (x y : ℕ) → Points
  under n sprite x y = covered c.quirks.wraps c.high x y (row_bytes (has_wide_sixteen c) n) sprite

  same_under : (x y n : ℕ) (sprite read : List ℕ) → (c.index ≡ i → sprite ≡ read) → known (sprite_parts x y) ≡ true → (c.lit ≡ l) × (under n sprite (reg c x) (reg c y) ≡ under n read (slice_index r x) (slice_index r y))
  same_under x y n sprite read same u =
      let at = split index_part (screen_part ∷ register_part x ∷ register_part y ∷ []) u in
      let shown = split screen_part (register_part x ∷ register_part y ∷ []) at.1 in
      (base.screen shown.0, values (under n sprite) x y shown.1 ∙ ap (λ (bytes : List ℕ). under n bytes (slice_index r x) (slice_index r y)) (same (base.index at.0)))

  drawn_near : (x y n : ℕ) (sprite read : List ℕ) → ((part : ℕ) → after part ≡ false → c.index ≡ i → sprite ≡ read) → LeftBy (flag_part ∷ []) (if is_one_forgotten before (sprite_parts x y) then flag_part ∷ screen_part ∷ [] else [])
      → NearBy (next (with_sprite (reg c x) (reg c y) n sprite c)) (next (with_sprite (reg d x) (reg d y) n read d))
  drawn_near x y n sprite read same h =
      let ours = under n sprite (reg c x) (reg c y) in
      let theirs = under n read (slice_index r x) (slice_index r y) in
      let all = told (sprite_parts x y) (flag_part ∷ screen_part ∷ []) (flag_part ∷ []) h in (
        refl,
        put {K = λ part. (after part ≡ false) × (has_part before part ≡ false)} 15 _ _
            (λ off.
            let both = same_under x y n sprite read (same flag_part off) (all flag_part refl off) in
            ap (λ (p : Points). bit_of (meets p ours)) both.0 ∙ ap (λ (p : Points). bit_of (meets l p)) both.1)
            (λ part off. elim (rest_of_one flag_part _ h part off) [ inl flag ↦ inl flag | inr known ↦ inr (off, known) ])
            (relight (symmetric_difference c.lit ours) (symmetric_difference l theirs)
            (λ here.
            let both = same_under x y n sprite read (same screen_part here.0) (all screen_part refl here.0) in
            ap (λ (p : Points). symmetric_difference p ours) both.0 ∙ ap (symmetric_difference l) both.1)
            (λ part here. inr here.1) base),
        steady,
      )

  span : (wide : Bool) (n : ℕ) → n < 16 → AreNear c.index i → SameSpan c.index i (sprite_bytes wide n)
  span wide n small (inl same) = inl same
  span wide n small (inr low) =
      let size = sprite_size (n == 0) wide n small in
      let mine = low.0 in
      let theirs = low.1 in
      inr (omega arith, omega arith)

  -- the bytes of a sprite are all known
  same_sprite : (count : ℕ) → ((k : ℕ) → c.index ≤ k → k < c.index + count → has_byte before k ≡ false) → (bytes read : List ℕ) → length bytes ≡ count → AreReadAlike (has_byte before) c.index count bytes read → bytes ≡ read
  same_sprite count kept bytes read size alike =
      same_number_lists bytes read alike.0 (λ k low. alike.1 k (omega arith) (kept (c.index + k) (omega arith) (omega arith)))

  draw_like : (nothing : Bool) (x y n : ℕ) → n < 16 → known (far_part ∷ []) ≡ true
      → LeftBy (flag_part ∷ []) (if is_one_forgotten before (sprite_parts x y) then flag_part ∷ screen_part ∷ [] else [])
      → ((k : ℕ) → c.index ≤ k → k < c.index + loaded (if nothing then Changes (next (with_reg 15 0 c)) else Loads (sprite_bytes (has_wide_sixteen c) n) (λ sprite. next (with_sprite (reg c x) (reg c y) n sprite c))) → has_byte before k ≡ false)
      → LikeBy (if nothing then Changes (next (with_reg 15 0 c)) else Loads (sprite_bytes (has_wide_sixteen c) n) (λ sprite. next (with_sprite (reg c x) (reg c y) n sprite c)))
      (if nothing then Changes (next (with_reg 15 0 d)) else Loads (sprite_bytes (has_wide_sixteen c) n) (λ sprite. next (with_sprite (reg d x) (reg d y) n sprite d)))
  draw_like true x y n small u h kept = (refl, put 15 0 0 (λ _. refl) (rest_of_one flag_part _ h) base, steady)
  draw_like false x y n small u h kept = (
    refl,
    span (has_wide_sixteen c) n small (base.near (split far_part [] u).0),
    λ sprite read size alike.
        drawn_near x y n sprite read (λ part off at. same_sprite (sprite_bytes (has_wide_sixteen c) n) kept sprite read (size part off) (alike at)) h,
  )

  rest_of_wait : (test : Bool) (x : ℕ) → LeftBy (if test then register_part x ∷ [] else []) [] → (part : ℕ) → after part ≡ false → (part ≡ register_part x) ⊎ (has_part before part ≡ false)
  rest_of_wait true x h part off = rest_of_one (register_part x) [] h part off
  rest_of_wait false x h part off = elim (rest [] [] h part off) [ inl o ↦ absurd (cc) | inr known ↦ inr known ]

  waits : (key : Option ℕ) (x : ℕ) → (take_key key x c).pc ≡ to → LeftBy (if not (to == c.pc) then register_part x ∷ [] else []) [] → NearBy (take_key key x c) (take_key key x d)
  waits None x leads h =
      (refl, keep [] (subst (λ (b : Bool). LeftBy (if not b then register_part x ∷ [] else []) []) (eq-eqb to c.pc (sym leads)) h), steady)
  waits (Some k) x leads h = (refl, put x k k (λ _. refl) (rest_of_wait _ x h) base, steady)

  abbrev AreSmall : Option Instr → Type 0
  AreSmall word = (x y n : ℕ) → word ≡ Some (row.Draw x y n) → n < 16

  row_like : (instr : Instr) → AreSmall (Some instr) → known (needs c.quirks instr) ≡ true
      → LeftBy (sets c.quirks (not (to == c.pc)) instr) (spoilt c.quirks before instr) → BytesBy (Some instr) (effect instr c) → Leads keys to (effect instr c) → LikeBy (effect instr c) (effect instr d)
  unfolding effect needs uses sets spoils
  row_like (row.ScrollDown n) small u h b g = super (λ k. Changes (next (with_lit (scrolled_down (scrolled_by n k) k.lit) k))) (refl, relight _ _ (λ off. ap (scrolled_down (scrolled_by n c)) ((keep [] h).screen off)) (λ part off. inr off) (keep [] h), steady)
  row_like row.ClearScreen small u h b g = (refl, relight set.empty set.empty (λ _. refl) (rest_of_one screen_part [] h) base, steady)
  row_like row.Return small u h b g = either _ _ (λ k. Changes (return k)) (λ _. (refl, keep [] h, steady))
  row_like row.ScrollRight small u h b g = super (λ k. Changes (next (with_lit (scrolled_right (scrolled_by 4 k) k.lit) k))) (refl, relight _ _ (λ off. ap (scrolled_right (scrolled_by 4 c)) ((keep [] h).screen off)) (λ part off. inr off) (keep [] h), steady)
  row_like row.ScrollLeft small u h b g = super (λ k. Changes (next (with_lit (scrolled_left (scrolled_by 4 k) k.lit) k))) (refl, relight _ _ (λ off. ap (scrolled_left (scrolled_by 4 c)) ((keep [] h).screen off)) (λ part off. inr off) (keep [] h), steady)
  row_like row.Exit small u h b g = super (λ k. Stops cause.Exit) refl
  row_like row.LowSize small u h b g = super (λ k. Changes (next (resized false k))) (resize c.quirks.clears_at_size false h)
  row_like row.HighSize small u h b g = super (λ k. Changes (next (resized true k))) (resize c.quirks.clears_at_size true h)
  row_like (row.Jump address) small u h b g = (refl, keep [] h, steady)
  row_like (row.Call address) small u h b g = either _ _ (λ k. Changes (call address k)) (λ _. (refl, keep [] h, steady))
  row_like (row.SkipIfByte x byte) small u h b g = (ap (λ (n : ℕ). others (skip_if (n == byte) c)) (value x u), keep [] h, steady)
  row_like (row.SkipUnlessByte x byte) small u h b g = (ap (λ (n : ℕ). others (skip_if (not (n == byte)) c)) (value x u), keep [] h, steady)
  row_like (row.SkipIfEqual x y) small u h b g = (values (λ m n. others (skip_if (m == n) c)) x y u, keep [] h, steady)
  row_like (row.LoadByte x byte) small u h b g = (refl, set_one x byte byte [] (λ _. refl) h, steady)
  row_like (row.AddByte x byte) small u h b g = (refl, put x _ _ (λ off. ap (λ (n : ℕ). (n + byte) % 256) ((keep [] h).registers x off)) (λ part off. inr off) (keep [] h), steady)
  row_like (row.Copy x y) small u h b g = (refl, set_from x (register_part y ∷ []) _ _ (value y) h, steady)
  row_like (row.Or x y) small u h b g = logic c.quirks.clears_flag x (register_part x ∷ register_part y ∷ []) _ _ (values bit_or x y) h
  row_like (row.And x y) small u h b g = logic c.quirks.clears_flag x (register_part x ∷ register_part y ∷ []) _ _ (values bit_and x y) h
  row_like (row.Xor x y) small u h b g = logic c.quirks.clears_flag x (register_part x ∷ register_part y ∷ []) _ _ (values bit_xor x y) h
  row_like (row.Add x y) small u h b g = (refl, set_two_from x (register_part x ∷ register_part y ∷ []) _ _ _ _ (values (λ m n. (m + n) % 256) x y) (values (λ m n. bit_of (nat_lt 255 (m + n))) x y) h, steady)
  row_like (row.Subtract x y) small u h b g = (refl, set_two_from x (register_part x ∷ register_part y ∷ []) _ _ _ _ (values (λ m n. (256 + m - n) % 256) x y) (values (λ m n. bit_of (nat_le n m)) x y) h, steady)
  row_like (row.ShiftRight x y) small u h b g = (refl, set_two_from x (register_part (if c.quirks.shifts_second then y else x) ∷ []) _ _ _ _ (λ u. ap (λ (n : ℕ). n / 2) (value _ u)) (λ u. ap (λ (n : ℕ). n % 2) (value _ u)) h, steady)
  row_like (row.SubtractFrom x y) small u h b g = (refl, set_two_from x (register_part x ∷ register_part y ∷ []) _ _ _ _ (values (λ m n. (256 + n - m) % 256) x y) (values (λ m n. bit_of (nat_le m n)) x y) h, steady)
  row_like (row.ShiftLeft x y) small u h b g = (refl, set_two_from x (register_part (if c.quirks.shifts_second then y else x) ∷ []) _ _ _ _ (λ u. ap (λ (n : ℕ). n * 2 % 256) (value _ u)) (λ u. ap (λ (n : ℕ). n / 128) (value _ u)) h, steady)
  row_like (row.SkipUnlessEqual x y) small u h b g = (values (λ m n. others (skip_if (not (m == n)) c)) x y u, keep [] h, steady)
  row_like (row.LoadIndex address) small u h b g = (refl, reindex address address (λ _. refl) (λ _. inl refl) (rest_of_index [] h) base, steady)
  row_like (row.JumpOffset address) small u h b g = (ap (λ (n : ℕ). others (go_to (address + n) c)) (value _ u), keep [] h, steady)
  row_like (row.Random x byte) small u h b g = (refl, set_one x _ _ [] (λ _. ap (λ (place : ℕ). bit_and (slice_index c.tape place) byte) same) h, (more, omega arith))
  row_like (row.Draw x y n) small u h b g = draw_like (draws_nothing n c) x y n (small x y n refl) u h (b.0 refl)
  row_like (row.SkipIfKey x) small u h b g = (ap (λ (n : ℕ). others (skip_if (is_key_down keys (n % 16)) c)) (value x u), keep [] h, steady)
  row_like (row.SkipUnlessKey x) small u h b g = (ap (λ (n : ℕ). others (skip_if (not (is_key_down keys (n % 16))) c)) (value x u), keep [] h, steady)
  row_like (row.ReadDelay x) small u h b g = (refl, set_one x c.delay c.delay [] (λ _. refl) h, steady)
  row_like (row.WaitKey x) small u h b g = waits (find (is_key_down keys) (range_with_len 0 16)) x g h
  row_like (row.SetDelay x) small u h b g = (ap (λ (n : ℕ). others (next (record c { delay = n }))) (value x u), keep [] h, steady)
  row_like (row.SetSound x) small u h b g = (refl, keep [] h, steady)
  row_like (row.AddIndex x) small u h b g = add c.quirks.flags_overflow x h
  row_like (row.SmallDigit x) small u h b g =
      (refl, reindex _ _ (λ off. ap (λ (n : ℕ). 5 * (n % 16)) (value x (told (register_part x ∷ []) (index_part ∷ []) (index_part ∷ far_part ∷ []) h index_part refl off))) (λ _. inr (omega arith, omega arith)) (rest_of_index _ h) base, steady)
  row_like (row.BigDigit x) small u h b g = super (λ k. Changes (next (with_index (80 + 10 * (reg k x % 16)) k))) (refl, reindex _ _ (λ off. ap (λ (n : ℕ). 80 + 10 * (n % 16)) (value x (told (register_part x ∷ []) (index_part ∷ []) (index_part ∷ far_part ∷ []) h index_part refl off))) (λ _. inr (omega arith, omega arith)) (rest_of_index _ h) base, steady)
  row_like (row.StoreDecimal x) small u h b g = (
    refl,
    base.index (split index_part (far_part ∷ []) u).0,
    (λ k low off. ap (λ (n : ℕ). slice_index (decimal_digits n) k) (base.registers x (off_by (has_part before (register_part x)) (lost (c.index + k)) (b.2 k low) off))),
    (refl, keep [] h, steady),
  )
  row_like (row.StoreRegisters x) small u h b g =
      let at = base.index (split index_part (far_part ∷ []) u).0 in
      let moved = ap (index_past c.quirks.index_move x) at in (
        length-take (x + 1) c.registers ∙ ap (min (x + 1)) base.count ∙ sym (length-take (x + 1) r),
        at,
        (λ k low off.
            let below : k < x + 1 = omega (arith, length-take (x + 1) c.registers) in
            get_or-take (x + 1) c.registers k 0 below ∙ base.registers k (off_by (has_part before (register_part k)) (lost (c.index + k)) (b.2 k low) off)
            ∙ sym (get_or-take (x + 1) r k 0 below)),
        (refl, reindex _ _ (λ _. moved) (λ _. inl moved) (λ part off. inr off) (keep [] h), steady),
      )
  row_like (row.LoadRegisters x) small u h b g =
      let at = base.index (split index_part (far_part ∷ []) u).0 in
      let moved = ap (index_past c.quirks.index_move x) at in (
        refl,
        inl at,
        λ bytes read size alike.
            let as_many = sym (alike at).0 in
            subst (λ (n : ℕ). NearBy (next (with_index (index_past c.quirks.index_move x c.index) (load_registers c bytes))) (next (with_index (index_past c.quirks.index_move x i) (record d { registers = read ++ drop n r })))) (sym as_many) (
              refl,
              load bytes read (length bytes) refl as_many
                  (λ y low off.
                  let inside : y < x + 1 = omega (arith, size (register_part y) off) in
                  (alike at).1 y inside (off_by (has_byte before (c.index + y)) (after (register_part y)) (b.1 y inside) off))
                  (λ part off. subst (λ (n : ℕ). ((register_part 0 ≤ part) × (part < register_part n)) ⊎ (has_part before part ≡ false)) (sym (size part off)) (rest_of_row x h part off))
                  (reindex _ _ (λ _. moved) (λ _. inl moved) (λ part known. inr known) base),
              steady,
            ),
      )
  row_like (row.StoreFlags x) small u h b g =
      super (λ k. if nat_le (length k.flags) x then Stops cause.NoFlag else Changes (next (store_flags x k))) (either _ _ (λ k. Changes (next (store_flags x k))) (λ _. (ap (λ (xs : List ℕ). others (next (record c { flags = xs ++ drop (x + 1) c.flags }))) (taken x u), keep [] h, steady)))
  row_like (row.LoadFlags x) small u h b g =
      super (λ k. if nat_le (length k.flags) x then Stops cause.NoFlag else Changes (next (load_flags x k))) (either _ _ (λ k. Changes (next (load_flags x k))) (λ low.
      let many : x < length c.flags = leb-false (length c.flags) x low in
      (refl, load (take (x + 1) c.flags) (take (x + 1) c.flags) (x + 1) (omega (arith, length-take (x + 1) c.flags)) (omega (arith, length-take (x + 1) c.flags)) (λ _ _ _. refl) (rest_of_row x h) base, steady)))

  word_like : (word : Option Instr) → AreSmall word → known (parts_by (needs c.quirks) word) ≡ true
      → LeftBy (parts_by (sets c.quirks (not (to == c.pc))) word) (parts_by (spoilt c.quirks before) word) → BytesBy word (effect_of_word word c) → Leads keys to (effect_of_word word c) → LikeBy (effect_of_word word c) (effect_of_word word d)
  word_like None small u h b g = refl
  word_like (Some instr) small u h b g = row_like instr small u h b g

  at_like : (past : Bool) (word other : Option Instr) → AreSmall word → (past ≡ false → word ≡ other) → (let instr : Option Instr = if past then None else word in
      known (parts_by (needs c.quirks) instr) ≡ true
      → LeftBy (parts_by (sets c.quirks (not (to == c.pc))) instr) (parts_by (spoilt c.quirks before) instr)
      → BytesBy instr (if past then Stops cause.PcOutOfRange else effect_of_word word c)
      → Leads keys to (if past then Stops cause.PcOutOfRange else effect_of_word word c)
      → LikeBy (if past then Stops cause.PcOutOfRange else effect_of_word word c) (if past then Stops cause.PcOutOfRange else effect_of_word other d))
  at_like true word other small same u h b g = refl
  at_like false word other small same u h b g =
      subst (λ (w : Option Instr). LikeBy (effect_of_word word c) (effect_of_word w d)) (same refl) (word_like word small u h b g)

-- ---- memories that agree except at some bytes

abbrev SameBytes : (lost : ℕ → Bool) → List ℕ → List ℕ → Type 0
SameBytes lost m n = (at : ℕ) → lost at ≡ false → slice_index m at ≡ slice_index n at

-- the bytes that are read agree wherever they are known
read_alike : (gone : ℕ → Bool) (m n : List ℕ) (i count : ℕ) → length m ≡ length n → SameBytes gone m n → AreReadAlike gone i count (take count (drop i m)) (take count (drop i n))
read_alike gone m n i count size same = (
  omega (arith, length-take count (drop i m), length-take count (drop i n), length-drop i m, length-drop i n),
  λ k inside known.
      get_or-take count (drop i m) k 0 inside ∙ get_or-drop i m k 0 ∙ same (i + k) known
      ∙ sym (get_or-take count (drop i n) k 0 inside ∙ get_or-drop i n k 0),
)

written_length : (m : List ℕ) (i : ℕ) (bytes : List ℕ) → length (overwrite m i bytes) ≡ min i (length m) + length bytes + (length m - (i + length bytes))
unfolding overwrite
written_length m i bytes =
    let k = i + length bytes in
    length-append (take i m ++ bytes) (drop k m)
    ∙ both (λ a b. a + b) (length-append (take i m) bytes ∙ ap (λ (n : ℕ). n + length bytes) (length-take i m)) (length-drop k m)

same_length : (m n : List ℕ) (i : ℕ) (bytes others : List ℕ) → length m ≡ length n → length bytes ≡ length others → length (overwrite m i bytes) ≡ length (overwrite n i others)
same_length m n i bytes others size many =
    written_length m i bytes ∙ both (λ k count. min i k + count + (k - (i + count))) size many ∙ sym (written_length n i others)

none_in_row : (i at : ℕ) → is_in_row i 0 at ≡ false
none_in_row i at =
    elim (cases_Bool (is_in_row i 0 at)) [
      | inl on ↦ let within = in_row_true i 0 at on in absurd (omega arith)
      | inr off ↦ off
    ]

-- a byte agrees if the same value is written to it in both memories, or if it isn't written
same_written : (m n : List ℕ) (i : ℕ) (bytes others : List ℕ) (at : ℕ) → length m ≡ length n → length bytes ≡ length others → i + length bytes ≤ length m
    → (i ≤ at → at < i + length bytes → slice_index bytes (at - i) ≡ slice_index others (at - i)) → (is_in_row i (length bytes) at ≡ false → slice_index m at ≡ slice_index n at)
    → slice_index (overwrite m i bytes) at ≡ slice_index (overwrite n i others) at
same_written m n i bytes others at size many fits put same =
    let mine = get_or-overwrite m i bytes at fits in
    let theirs = get_or-overwrite n i others at (omega arith) in
    elim (cases_Bool (is_in_row i (length bytes) at)) [
      | inl on ↦
          let within = in_row_true i (length bytes) at on in
          mine ∙ rw (← many, on) (put within.0 within.1) ∙ sym theirs
      | inr off ↦ mine ∙ rw (← many, off) (same off) ∙ sym theirs
    ]

-- ---- outcomes and states

abbrev Outcomes : (after lost : ℕ → Bool) (most : ℕ) → Result State Stop → Result State Stop → Type 0
Outcomes after lost most (Ok a) (Ok b) =
    Near after most a.core b.core × ((length a.memory ≡ length b.memory) × SameBytes lost a.memory b.memory)
Outcomes after lost most (Err a) (Err b) = a ≡ b
Outcomes after lost most _ _ = ⊥

record Ends (after lost : ℕ → Bool) (most : ℕ) (a b : State) : Type 0 where
  pub outside : others a.core ≡ others b.core
  pub size : length a.memory ≡ length b.memory
  pub draws : a.core.draws % length a.core.tape ≡ b.core.draws % length b.core.tape
  pub few : a.core.draws ≤ most
  pub count : length a.core.registers ≡ length b.core.registers
  pub agree : is_some a.core.stopped ≡ false → Agree (λ part. after part ≡ false) a.core.registers b.core.registers a.core.index b.core.index a.core.lit b.core.lit
  pub memory : is_some a.core.stopped ≡ false → SameBytes lost a.memory b.memory

within : (at count : ℕ) → at + count ≤ MEMORY_BYTES → is_past at count ≡ false
within at count low =
    elim (cases_Bool (is_past at count)) [
      | inl past ↦ let far = ltb-true MEMORY_BYTES (at + count) past in absurd (omega arith)
      | inr off ↦ off
    ]

leads_by : (keys : ℕ) (tick : Bool) (s : State) (e : Effect) → Leads keys (settle tick s (perform keys s e)).core.pc e
leads_by keys true s (Keyed f) = refl
leads_by keys false s (Keyed f) = refl
leads_by keys tick s _ = tt

-- `gone` are the bytes forgotten before the step, and `lost` are the bytes forgotten after it
module _ (after gone lost : ℕ → Bool) (most keys : ℕ) (s : State) (r : List ℕ) (i : ℕ) (l : Points) (z e : ℕ) (n : List ℕ) (fits : HasSize after MEMORY_BYTES s.memory)
    (whole : (at : ℕ) → lost at ≡ false → length s.memory ≡ MEMORY_BYTES) (size : length s.memory ≡ length n) (same : SameBytes gone s.memory n) where
  abbrev t : State
  t = record { core = twin s.core r i l z e; memory = n }

  same_past : (count : ℕ) → SameSpan s.core.index i count → is_past s.core.index count ≡ is_past i count
  same_past count (inl same) = ap (λ (at : ℕ). is_past at count) same
  same_past count (inr inside) = within s.core.index count inside.0 ∙ sym (within i count inside.1)

  past_like : (past : Bool) (a b : State) → (past ≡ false → Outcomes after lost most (Ok a) (Ok b)) → Outcomes after lost most (if past then Err cause.AddressOutOfRange else Ok a) (if past then Err cause.AddressOutOfRange else Ok b)
  past_like true a b h = refl
  past_like false a b h = h refl

  abbrev LeftBytes : (count : ℕ) → Type 0
  LeftBytes count = (at : ℕ) → gone at ≡ true → is_in_row s.core.index count at ≡ false → lost at ≡ true

  -- a byte that is known after the step was known before, unless it was written
  still_same : (count at : ℕ) → LeftBytes count → lost at ≡ false → is_in_row s.core.index count at ≡ false → slice_index s.memory at ≡ slice_index n at
  still_same count at left kept unwritten = same at (off_by (gone at) (lost at) (λ was. left at was unwritten) kept)

  kept_memory : LeftBytes 0 → (length s.memory ≡ length n) × SameBytes lost s.memory n
  kept_memory left = (size, λ at kept. still_same 0 at left kept (none_in_row s.core.index at))

  perform_like : (one two : Effect) → Like after gone lost most keys s.core.index i one two → LeftBytes (stored one)
      → Outcomes after lost most (perform keys s one) (perform keys t two)
  perform_like (Stops a) (Stops b) h left = h
  perform_like (Changes a) (Changes b) h left = (h, kept_memory left)
  perform_like (Keyed f) (Keyed g) h left = (h, kept_memory left)
  perform_like (Loads m f) (Loads k g) h left =
      let bytes : List ℕ = take m (drop s.core.index s.memory) in
      let read : List ℕ = take m (drop i n) in
      let alike : s.core.index ≡ i → AreReadAlike gone s.core.index m bytes read = λ at.
      subst (λ (at : ℕ). AreReadAlike gone s.core.index m bytes (take m (drop at n))) at (read_alike gone s.memory n s.core.index m size same) in
      subst (λ (count : ℕ). Outcomes after lost most (perform keys s (Loads m f)) (perform keys t (Loads count g))) h.0
      (subst (λ (past : Bool). Outcomes after lost most (perform keys s (Loads m f)) (if past then Err cause.AddressOutOfRange else Ok (record t { core = g read }))) (same_past m h.1)
      (past_like (is_past s.core.index m) _ _ (λ inside.
      let low : s.core.index + m ≤ MEMORY_BYTES = ltb-false MEMORY_BYTES (s.core.index + m) inside in (
        h.2 bytes read
            (λ part off.
            let size = fits part off in
            omega (arith, length-take m (drop s.core.index s.memory), length-drop s.core.index s.memory))
            alike,
        kept_memory left,
      ))))
  perform_like (Stores x a) (Stores y b) h left =
      let outcome : ℕ → ℕ → Result State Stop = λ at count. if is_past at count then Err cause.AddressOutOfRange else Ok (record { core = b; memory = overwrite n at y }) in
      subst (λ (at : ℕ). Outcomes after lost most (perform keys s (Stores x a)) (outcome at (length y))) h.1
      (subst (λ (count : ℕ). Outcomes after lost most (perform keys s (Stores x a)) (outcome s.core.index count)) h.0
      (past_like (is_past s.core.index (length x)) _ _ (λ inside.
      let low : s.core.index + length x ≤ MEMORY_BYTES = ltb-false MEMORY_BYTES (s.core.index + length x) inside in (
        h.3,
        (
          same_length s.memory n s.core.index x y size h.0,
          λ at kept.
              let all = whole at kept in
              same_written s.memory n s.core.index x y at size h.0 (omega arith)
              (λ above below. h.2 (at - s.core.index) (omega arith) (ap lost (omega arith) ∙ kept)) (still_same (length x) at left kept),
        ),
      ))))
  perform_like _ _ h left = absurd h

  settle_like : (tick : Bool) (one two : Result State Stop) → s.core.draws % length s.core.tape ≡ e % length s.core.tape → s.core.draws ≤ most → length s.core.registers ≡ length r
      → Outcomes after lost most one two → Ends after lost most (settle tick s one) (settle tick t two)
  settle_like true (Ok a) (Ok b) drawn few count h =
      record { outside = ap (λ (o : Core). others (ticked o)) h.0.0; size = h.1.0; draws = h.0.2.0; few = h.0.2.1; count = h.0.1.count; agree = λ _. h.0.1; memory = λ _. h.1.1 }
  settle_like false (Ok a) (Ok b) drawn few count h =
      record { outside = h.0.0; size = h.1.0; draws = h.0.2.0; few = h.0.2.1; count = h.0.1.count; agree = λ _. h.0.1; memory = λ _. h.1.1 }
  settle_like tick (Err a) (Err b) drawn few count h =
      record { outside = ap (λ (why : Stop). others (record s.core { stopped = Some why })) h; size = size; draws = drawn; few = few; count = count; agree = λ going. absurd (cc); memory = λ going. absurd (cc) }
  settle_like tick _ _ drawn few count h = absurd h

module _ (before : ℕ) (after lost : ℕ → Bool) (s : State) (r : List ℕ) (i : ℕ) (l : Points) (z e : ℕ) (n : List ℕ) (fits : HasSize after MEMORY_BYTES s.memory)
    (whole : (at : ℕ) → lost at ≡ false → length s.memory ≡ MEMORY_BYTES) (size : length s.memory ≡ length n)
    (base : is_some s.core.stopped ≡ false → Agree (λ part. has_part before part ≡ false) s.core.registers r s.core.index i s.core.lit l)
    (bytes : is_some s.core.stopped ≡ false → SameBytes (has_byte before) s.memory n)
    (count : length s.core.registers ≡ length r) (same : s.core.draws % length s.core.tape ≡ e % length s.core.tape)
    (more : min (s.core.draws + 1) top % length s.core.tape ≡ min (e + 1) top % length s.core.tape) (keys : ℕ) (tick : Bool)
    (unneeded : IsUnneeded before s) where
  abbrev stepped : Bool → State → State
  stepped stopped a = if stopped then a else settle tick a (perform keys a (effect_at a))

  abbrev LeftAt : ℕ → Type 0
  LeftAt to = Left before after (parts_by (sets s.core.quirks (not (to == s.core.pc))) (next_instr s)) (parts_by (spoilt s.core.quirks before) (next_instr s))

  abbrev LeftBytesAt : Type 0
  LeftBytesAt = (at : ℕ) → has_byte before at ≡ true → is_in_row s.core.index (stored (effect_at s)) at ≡ false → lost at ≡ true

  -- the bytes and parts that are forgotten after the step because of the bytes that it loads and
  -- stores
  abbrev MovedAt : Type 0
  MovedAt =
      ((k : ℕ) → k < loaded (effect_at s) → has_byte before (s.core.index + k) ≡ true → after (register_part k) ≡ true)
      × ((k : ℕ) → k < stored (effect_at s) → has_part before (stored_part (next_instr s) k) ≡ true → lost (s.core.index + k) ≡ true)

  same_word : is_some s.core.stopped ≡ false → nat_lt LAST_WORD s.core.pc ≡ false → decode_of (word_at s.memory s.core.pc) ≡ decode_of (word_at n s.core.pc)
  same_word going inside =
      let kept = unneeded.fetched (ltb-false LAST_WORD s.core.pc inside) in
      both (λ a b. decode_of (a * 256 + b)) (bytes going s.core.pc (kept s.core.pc (omega arith) (omega arith)))
      (bytes going (s.core.pc + 1) (kept (s.core.pc + 1) (omega arith) (omega arith)))

  step_by : (stopped : Bool) → is_some s.core.stopped ≡ stopped → LeftAt (stepped stopped s).core.pc → LeftBytesAt → MovedAt
      → Ends after lost (s.core.draws + 1) (stepped stopped s) (stepped stopped (record { core = twin s.core r i l z e; memory = n }))
  step_by true stays left left_bytes moved =
      record { outside = refl; size = size; draws = same; few = omega arith; count = count; agree = λ going. absurd (cc); memory = λ going. absurd (cc) }
  step_by false going left left_bytes moved =
      settle_like after (has_byte before) lost (s.core.draws + 1) keys s r i l z e n fits whole size (bytes going) tick _ _ same (omega arith) count
      (perform_like after (has_byte before) lost (s.core.draws + 1) keys s r i l z e n fits whole size (bytes going) _ _
      (at_like before after lost keys _ s.core r i l z e (base going) same more (nat_lt LAST_WORD s.core.pc) (decode_of (word_at s.memory s.core.pc)) (decode_of (word_at n s.core.pc)) (draw_small (word_at s.memory s.core.pc)) (same_word going) unneeded.parts left (unneeded.drawn, moved.0, moved.1) (leads_by keys tick s (effect_at s)))
      left_bytes)

  step_like : LeftAt (step_of s keys tick).core.pc → LeftBytesAt → MovedAt
      → Ends after lost (s.core.draws + 1) (step_of s keys tick) (step_of (record { core = twin s.core r i l z e; memory = n }) keys tick)
  unfolding step_of
  step_like left left_bytes moved = step_by (is_some s.core.stopped) refl left left_bytes moved

one_more : (n r : ℕ) → (n + 1) % r ≡ (n % r + 1) % r
one_more n r =
    let whole : n + 1 ≡ (n % r + 1) + n / r * r = omega (arith, mod-add-div' n r) in
    ap (λ m. m % r) whole ∙ add-mul-mod_self_right (n % r + 1) (n / r) r

below_top : (n : ℕ) → n < top → min (n + 1) top ≡ n + 1
below_top n h = omega arith

alike_by : (after most : ℕ) (a b : State) → IsProper a → Ends (has_part after) (has_byte after) most a b → Alike after a b
alike_by after most a b proper h =
    record {
      proper = proper;
      others = h.outside;
      size = h.size;
      draws = h.draws;
      count = h.count;
      registers = λ going. (h.agree going).registers;
      index = λ going. (h.agree going).index;
      near = λ going. (h.agree going).near;
      screen = λ going. (h.agree going).screen;
      memory = h.memory;
    }

pub alike_steps : AlikeSteps
alike_steps before after a b keys tick h unneeded left low_a low_b =
    let n = length a.core.tape in
    let same : a.core.draws % n ≡ b.core.draws % n = h.draws ∙ ap (λ (o : Core). b.core.draws % length o.tape) (sym h.others) in
    let more : min (a.core.draws + 1) top % n ≡ min (b.core.draws + 1) top % n =
    ap (λ m. m % n) (below_top a.core.draws low_a) ∙ one_more a.core.draws n ∙ ap (λ m. (m + 1) % n) same ∙ sym (one_more b.core.draws n) ∙ ap (λ m. m % n) (sym (below_top b.core.draws low_b)) in
    let is : (record { core = twin a.core b.core.registers b.core.index b.core.lit b.core.sound b.core.draws; memory = b.memory }) ≡ b =
    ap (λ (o : Core). let s : State = record { core = twin o b.core.registers b.core.index b.core.lit b.core.sound b.core.draws; memory = b.memory } in s) h.others in
    subst (λ (t : State). Alike after (step_of a keys tick) (step_of t keys tick)) is
    (alike_by after _ _ _ (step_keeps_proper a keys tick h.proper)
    (step_like before (has_part after) (has_byte after) a b.core.registers b.core.index b.core.lit b.core.sound b.core.draws b.memory (λ _ _. h.proper.memory_size)
    (λ _ _. h.proper.memory_size) h.size
    (λ going. record { count = h.count; registers = h.registers going; index = h.index going; near = h.near going; screen = h.screen going })
    h.memory h.count same more keys tick unneeded left.parts left.bytes (left.loaded, left.stored)))

none_gone : (at : ℕ) → has_byte 0 at ≡ false
none_gone at = and_right (nat_le 0 at) _ (ap (λ b. b == 1) (bit_at-zero (at - 0)))

none_unneeded : (s : State) → IsUnneeded 0 s
none_unneeded s =
    record {
      parts = none_known (parts_by (needs s.core.quirks) (next_instr s));
      fetched = λ inside k above below. none_gone k;
      drawn = λ _ k above below. none_gone k;
    }

pub draws_grow : DrawsGrow
draws_grow s keys tick =
    (step_like 0 (λ _. true) (λ _. true) s s.core.registers s.core.index s.core.lit s.core.sound s.core.draws s.memory (λ part off. absurd (cc)) (λ at off. absurd (cc)) refl
    (λ _. record { count = refl; registers = λ _ _. refl; index = λ _. refl; near = λ _. inl refl; screen = λ _. refl }) (λ _ _ _. refl) refl refl refl keys tick (none_unneeded s) (λ _ _. refl) (λ _ _ _. refl) (λ _ _ _. refl, λ _ _ _. refl)).few

quieted : (a : State) (d z : ℕ) → d ≡ a.core.delay → length a.memory ≡ MEMORY_BYTES → Alike 0 (record a { core = record a.core { delay = d; sound = z } }) a
quieted a d z stays size =
    record {
      proper = record { memory_size = size };
      others = ap (λ (n : ℕ). others (record a.core { delay = n })) stays;
      size = refl;
      draws = refl;
      count = refl;
      registers = λ _ _ _. refl;
      index = λ _ _. refl;
      near = λ _ _. inl refl;
      screen = λ _ _. refl;
      memory = λ _ _ _. refl;
    }

quiet_by : (stopped : Bool) (s : State) (r : Result State Stop) → length (if stopped then s else settle true s r).memory ≡ MEMORY_BYTES → (if stopped then s else settle false s r).core.delay ≡ 0
    → Alike 0 (if stopped then s else settle true s r) (if stopped then s else settle false s r)
quiet_by true s r size h = quieted s s.core.delay s.core.sound refl size
quiet_by false s (Ok a) size h = quieted a (a.core.delay - 1) (a.core.sound - 1) (omega arith) size
quiet_by false s (Err why) size h = quieted (record s { core = record s.core { stopped = Some why } }) s.core.delay s.core.sound refl size

pub quiet_tick : QuietTick
unfolding step_of
quiet_tick s keys proper h =
    quiet_by (is_some s.core.stopped) s (perform keys s (effect_at s)) (step_keeps_proper s keys true proper).memory_size h
