-- The values of a property in two states that are alike in everything that it names.
use Rattle.std.proofs.Common.{◌≡◌, ◌==◌, ℕ, ◌+◌, ◌*◌, Bool, true, false, not, ◌&&◌, ◌||◌, is_some, List, [], ◌∷◌, Option, Some, None, option_map, position, length, nat_lt, slice_index, ap, sym, ◌∙◌, refl, arith, if◌then◌else◌}
use Rattle.std.proofs.lemmas.Bool.{and_parts, eqb-true, not-true}
use Rattle.std.proofs.lemmas.Iterator.Adapters.{position_from-zero}
use Rattle.std.proofs.lemmas.List.Sums.{sum_by-cons}
use Rattle.std.specs.List.{list_all, list_any, position_from, sum_by}
use Rattle.chip_machine.specs.declared.stop.Stop.{Stop}
use Rattle.chip_machine.specs.Forgotten.{has_byte, has_part, register_part, index_part, screen_part}
use Rattle.chip_machine.specs.Points.{Points, is_lit}
use Rattle.chip_machine.specs.Relevant.{Alike}
use Rattle.chip_machine.specs.State.{Core, State}
use Rattle.chip_machine.specs.Step.{word_at}
use Rattle.chip_machine.specs.declared.limits.TheConstants.{LAST_WORD}
use Rattle.chip_lang.specs.Decoding.{decode_of}
use Rattle.chip_explore.specs.Property.{asks_keys, compares, holds_in, is_at, is_met, is_related, one_if, stored, sum_in, value_in}
use Rattle.chip_explore.specs.Target.{is_address, met_by, met_in}
use Rattle.chip_explore.specs.declared.known.Known.{Known}
use Rattle.chip_explore.specs.declared.property.Comparison.{Comparison}
use Rattle.chip_explore.specs.declared.property.Condition.{Condition}
use Rattle.chip_explore.specs.declared.property.Item.{Item}
use Rattle.chip_explore.specs.declared.property.Item.TheVariants.{Register, Index, Place, Delay, Depth, High, AsksKeys, Byte, Pixel}
use Rattle.chip_explore.specs.declared.property.Property.{Property}
use Rattle.chip_explore.specs.declared.property.Sum.{Sum}
use Rattle.chip_explore.specs.declared.property.Term.{Term}
use Rattle.chip_explore.specs.declared.setting.Setting.{Setting}
use Rattle.chip_explore.specs.declared.target.Met.TheVariants as met
use Rattle.chip_explore.specs.inner.Cover.{meets_goals}
use Rattle.chip_explore.specs.inner.Delays.{AlikeTicks, with_delay}
use Rattle.chip_explore.specs.inner.Known.{are_goals_known, are_known, is_comparison_known, is_item_known, is_property_known, is_sum_known, known_of}

-- ---- by the elements of a list

module _ {A : Type 0} (known : A → Bool) where
  sum_same : (f g : A → ℕ) → ((x : A) → known x ≡ true → f x ≡ g x) → (xs : List A) → list_all known xs ≡ true → sum_by f xs ≡ sum_by g xs
  sum_same f g same [] h = refl
  sum_same f g same (x ∷ xs) h =
      let both = and_parts (known x) (list_all known xs) h in
      rw (sum_by-cons f x xs, sum_by-cons g x xs, same x both.0, sum_same f g same xs both.1) refl

  all_same : (f g : A → Bool) → ((x : A) → known x ≡ true → f x ≡ g x) → (xs : List A) → list_all known xs ≡ true → list_all f xs ≡ list_all g xs
  all_same f g same [] h = refl
  all_same f g same (x ∷ xs) h =
      let both = and_parts (known x) (list_all known xs) h in
      rw (same x both.0, all_same f g same xs both.1) refl

  any_same : (f g : A → Bool) → ((x : A) → known x ≡ true → f x ≡ g x) → (xs : List A) → list_all known xs ≡ true → list_any f xs ≡ list_any g xs
  any_same f g same [] h = refl
  any_same f g same (x ∷ xs) h =
      let both = and_parts (known x) (list_all known xs) h in
      rw (same x both.0, any_same f g same xs both.1) refl

  position_from_same : (f g : A → Bool) → ((x : A) → known x ≡ true → f x ≡ g x) → (i : ℕ) (xs : List A) → list_all known xs ≡ true → position_from f i xs ≡ position_from g i xs
  position_from_same f g same i [] h = refl
  position_from_same f g same i (x ∷ xs) h =
      let both = and_parts (known x) (list_all known xs) h in
      rw (same x both.0, position_from_same f g same (i + 1) xs both.1) refl

  position_same : (f g : A → Bool) → ((x : A) → known x ≡ true → f x ≡ g x) → (xs : List A) → list_all known xs ≡ true → position f xs ≡ position g xs
  position_same f g same xs h =
      position_from-zero f xs ∙ position_from_same f g same 0 xs h ∙ sym (position_from-zero g xs)

-- ---- by the values that a property names

module _ (p : Setting) (f : ℕ) (a b : State) (near : AlikeTicks p f a b) (going : is_some a.core.stopped ≡ false) where
  abbrev known : Known
  known = known_of p f a

  alike : Alike f (with_delay near.delay a) b
  alike = near.alike

  pc_same : a.core.pc ≡ b.core.pc
  pc_same = ap (λ (c : Core). c.pc) alike.others

  delay_same : (free : Bool) → p.free ≡ free → (at_zero : Bool) → (a.core.delay == 0) ≡ at_zero → (not free || at_zero) ≡ true → a.core.delay ≡ b.core.delay
  delay_same false is at_zero zero_is h = sym (near.exact is) ∙ ap (λ (c : Core). c.delay) alike.others
  delay_same true is true zero_is h =
      let none : a.core.delay ≡ 0 = eqb-true a.core.delay 0 zero_is in
      let most = near.most in
      let theirs : near.delay ≡ b.core.delay = ap (λ (c : Core). c.delay) alike.others in
      omega arith
  delay_same true is false zero_is h = absurd (cc)

  byte_same : (at : ℕ) → not (has_byte f at) ≡ true → slice_index a.memory at ≡ slice_index b.memory at
  byte_same at h = alike.memory going at (not-true (has_byte f at) h)

  value_same : (item : Item) → is_item_known known item ≡ true → value_in a item ≡ value_in b item
  value_same (Register x) h = alike.registers going x (not-true (has_part f (register_part x)) h)
  value_same Index h = alike.index going (not-true (has_part f index_part) h)
  value_same Place h = pc_same
  value_same Delay h = delay_same p.free refl (a.core.delay == 0) refl h
  value_same Depth h = ap (λ (c : Core). length c.frames) alike.others
  value_same High h = ap (λ (c : Core). one_if c.high) alike.others
  value_same AsksKeys h =
      let pc = a.core.pc in
      let first = byte_same pc (and_parts (not (has_byte f pc)) (not (has_byte f (pc + 1))) h).0 in
      let second = byte_same (pc + 1) (and_parts (not (has_byte f pc)) (not (has_byte f (pc + 1))) h).1 in
      ap (λ (n : ℕ). one_if (asks_keys (if nat_lt LAST_WORD pc then None else decode_of (n * 256 + slice_index a.memory (pc + 1))))) first
      ∙ ap (λ (n : ℕ). one_if (asks_keys (if nat_lt LAST_WORD pc then None else decode_of (slice_index b.memory pc * 256 + n)))) second
      ∙ ap (λ (place : ℕ). one_if (asks_keys (if nat_lt LAST_WORD place then None else decode_of (word_at b.memory place)))) pc_same
  value_same (Byte at) h = byte_same at h
  value_same (Pixel x y) h =
      ap (λ (lit : Points). one_if (is_lit lit (stored a.core.high x) (stored a.core.high y))) (alike.screen going (not-true (has_part f screen_part) h))
      ∙ ap (λ (c : Core). one_if (is_lit b.core.lit (stored c.high x) (stored c.high y))) alike.others

  term_same : (term : Term) → is_item_known known term.item ≡ true → term.factor * value_in a term.item ≡ term.factor * value_in b term.item
  term_same term h = ap (λ (n : ℕ). term.factor * n) (value_same term.item h)

  side_same : (sum : Sum) → is_sum_known known sum ≡ true → sum_in a sum ≡ sum_in b sum
  side_same sum h =
      ap (λ (n : ℕ). sum.constant + n)
      (sum_same (λ (term : Term). is_item_known known term.item) (λ (term : Term). term.factor * value_in a term.item) (λ (term : Term). term.factor * value_in b term.item) term_same sum.terms.items h)

  comparison_same : (c : Comparison) → is_comparison_known known c ≡ true → compares a c ≡ compares b c
  comparison_same c h =
      ap (λ (n : ℕ). is_related c.relation n (sum_in a c.right)) (side_same c.left (and_parts (is_sum_known known c.left) (is_sum_known known c.right) h).0)
      ∙ ap (λ (n : ℕ). is_related c.relation (sum_in b c.left) n) (side_same c.right (and_parts (is_sum_known known c.left) (is_sum_known known c.right) h).1)

  condition_same : (c : Condition) → list_all (is_comparison_known known) c.comparisons.items ≡ true → holds_in a c ≡ holds_in b c
  condition_same c h =
      ap (λ (all : Bool). if c.is_all then all else list_any (compares a) c.comparisons.items)
      (all_same (is_comparison_known known) (compares a) (compares b) comparison_same c.comparisons.items h)
      ∙ ap (λ (any : Bool). if c.is_all then list_all (compares b) c.comparisons.items else any)
      (any_same (is_comparison_known known) (compares a) (compares b) comparison_same c.comparisons.items h)

  abbrev here : Property → State → Bool → Bool
  here property s there = there && (if property.wanted then holds_in s property.condition else not (holds_in s property.condition))

  asked_same : (property : Property) (there : Bool) → (not there || list_all (is_comparison_known known) property.condition.comparisons.items) ≡ true → here property a there ≡ here property b there
  asked_same property false h = refl
  asked_same property true h =
      ap (λ (holds : Bool). if property.wanted then holds else not holds) (condition_same property.condition h)

  property_same : (property : Property) → is_property_known known a.core.pc property ≡ true → is_met a property ≡ is_met b property
  property_same property h =
      asked_same property (is_at property.place a.core.pc) h
      ∙ ap (λ (pc : ℕ). here property b (is_at property.place pc)) pc_same

  abbrev all_known : List Property → Bool
  all_known properties = list_all (is_property_known known a.core.pc) properties

  going_same : are_known p f a ≡ true → met_by p.target a None ≡ met_by p.target b None
  going_same h =
      ap (λ (first : Option ℕ). if is_address p.target.address a.core.pc then Some met.Address else option_map met.Property first)
      (position_same (is_property_known known a.core.pc) (is_met a) (is_met b) property_same p.target.properties.now
      (and_parts (all_known p.target.properties.now) (all_known p.goals.now) h).0)
      ∙ ap (λ (pc : ℕ). if is_address p.target.address pc then Some met.Address else option_map met.Property (position (is_met b) p.target.properties.now)) pc_same

  -- a state meets the goals if a state that is like it does
  pub goals_same : are_goals_known p f a ≡ true → meets_goals p a ≡ meets_goals p b
  goals_same h = all_same (is_property_known known a.core.pc) (is_met a) (is_met b) property_same p.goals.now h

pub goals_known : (p : Setting) (f : ℕ) (s : State) → are_known p f s ≡ true → are_goals_known p f s ≡ true
goals_known p f s h = (and_parts (list_all (is_property_known (known_of p f s) s.core.pc) p.target.properties.now) (are_goals_known p f s) h).1

-- a state of a run meets the same part of the target as the state of the search that is like it
met_same_by : (p : Setting) (f : ℕ) (a b : State) (near : AlikeTicks p f a b) (stopped : Option Stop) → a.core.stopped ≡ stopped
    → (is_some stopped ≡ false → are_known p f a ≡ true) → met_by p.target a stopped ≡ met_by p.target b stopped
met_same_by p f a b near (Some cause) is has = refl
met_same_by p f a b near None is has =
    going_same p f a b near (ap (λ (stopped : Option Stop). is_some stopped) is) (has refl)

pub met_same : (p : Setting) (f : ℕ) (a b : State) → AlikeTicks p f a b → (is_some a.core.stopped ≡ false → are_known p f a ≡ true) → met_in p.target a ≡ met_in p.target b
met_same p f a b near has =
    met_same_by p f a b near a.core.stopped refl has
    ∙ ap (λ (c : Core). met_by p.target b c.stopped) near.alike.others
