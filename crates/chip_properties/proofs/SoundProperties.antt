-- A property that is found is the one that the tokens state by the grammar.
use Rattle.std.proofs.Common.{◌≡◌, ℕ, false, not, List, [], ◌∷◌, Option, Some, None, Result, Ok, Err, IfOk, refl, sym, ◌∙◌, ap}
use Rattle.std.proofs.lemmas.Option.{none-some, same_Some}
use Rattle.std.specs.Prelude.{codes, option_map}
use Rattle.std.proofs.lemmas.List.{take-append-drop}
use Rattle.chip_lang.specs.declared.limits.TheConstants.{MEMORY_BYTES}
use Rattle.chip_lang.specs.declared.lexeme.Lexeme.{Lexeme}
use Rattle.chip_lang.specs.declared.lexeme.Lexeme.TheVariants.{Word}
use Rattle.chip_lang.specs.Line.{is_the}
use Rattle.chip_lang.specs.Value.{Symbols}
use Rattle.chip_properties.specs.declared.separator.Separator.TheVariants.{Place}
use Rattle.chip_properties.specs.declared.stated.Kind.{Kind}
use Rattle.chip_properties.specs.declared.stated.Kind.TheVariants.{Always}
use Rattle.std.specs.declared.alloc.AllocError.{AllocError}
use Rattle.chip_properties.specs.declared.fault.PropertyFault.{PropertyFault}
use Rattle.chip_properties.specs.declared.stated.Stated.{Stated}
use Rattle.chip_properties.specs.SeenProperty.{SeenCondition, SeenProperty, seen_property}
use Rattle.chip_properties.specs.Nesting.{is_deep}
use Rattle.chip_properties.specs.computed.Separated.{before_first, from_first}
use Rattle.chip_properties.specs.computed.Reading.{if_below, value_in, here_in, at_in, place_in, no_condition, is_always, given_in, property_in, kind_in_front, of_kind, begun_by, stated_in}
use Rattle.chip_properties.specs.Language.{IsPlace, nowhere, at_here, at_address, IsGiven, a_condition, no_condition as without_condition, is_wanted, IsProperty, IsStated, with_kind, without}
use Rattle.chip_properties.proofs.Sound.{then_some, mapped_some, if_some, unless_some, word_is, below_is, value_sound}
use Rattle.chip_properties.proofs.SoundSums.{condition_sound}

-- ---- places

here_sound : (symbols : Symbols) (here : Option ℕ) (place : Option ℕ) → here_in here ≡ Some place → IsPlace symbols here (Word (codes "HERE") ∷ []) place
here_sound symbols here place h =
    let so = then_some here (λ a. option_map Some (if_below MEMORY_BYTES a)) place h in
    let at = mapped_some (if_below MEMORY_BYTES so.found) Some place so.gives in
    let low = below_is MEMORY_BYTES so.found at.found at.is in
    rw (← at.gives) (at_here (so.is ∙ ap Some low.0) low.1)

at_sound : (symbols : Symbols) (here : Option ℕ) (ts : List Lexeme) (place : Option ℕ) → at_in symbols ts ≡ Some place
    → IsPlace symbols here (Word (codes "AT") ∷ ts) place
at_sound symbols here ts place h =
    let so = then_some (value_in symbols ts) (λ a. option_map Some (if_below MEMORY_BYTES a)) place h in
    let at = mapped_some (if_below MEMORY_BYTES so.found) Some place so.gives in
    let low = below_is MEMORY_BYTES so.found at.found at.is in
    rw (← at.gives) (at_address (value_sound symbols ts at.found (so.is ∙ ap Some low.0)) low.1)

pub place_sound : (symbols : Symbols) (here : Option ℕ) (ts : List Lexeme) (place : Option ℕ) → place_in symbols here ts ≡ Some place
    → IsPlace symbols here ts place
place_sound symbols here [] place h = rw (← same_Some None place h) nowhere
place_sound symbols here (t ∷ []) place h =
    let so = if_some (is_the (codes "HERE") t) (here_in here) place h in
    rw (word_is (codes "HERE") t so.0) (here_sound symbols here place so.1)
place_sound symbols here (t ∷ u ∷ ts) place h =
    let so = if_some (is_the (codes "AT") t) (at_in symbols (u ∷ ts)) place h in
    rw (word_is (codes "AT") t so.0) (at_sound symbols here (u ∷ ts) place so.1)

-- ---- properties

not_always : (kind : Kind) → is_always kind ≡ false → kind ≡ Always → ⊥
not_always kind h e = let always = rw e at h in cc

given_sound : (symbols : Symbols) (kind : Kind) (front back : List Lexeme) (c : SeenCondition) → given_in symbols kind front back ≡ Some c
    → IsGiven symbols kind front back c
given_sound symbols kind [] [] c h = absurd (none-some c h)
given_sound symbols kind [] (t ∷ ts) c h =
    let so = unless_some (is_always kind) (Some no_condition) c h in
    rw (← same_Some no_condition c so.1) (without_condition (not_always kind so.0))
given_sound symbols kind (t ∷ ts) back c h = a_condition (condition_sound symbols (t ∷ ts) c h)

pub wanted_is : (kind : Kind) → not (is_always kind) ≡ is_wanted kind
wanted_is Always = refl
wanted_is kind = refl

pub property_sound : (symbols : Symbols) (here : Option ℕ) (kind : Kind) (ts : List Lexeme) (p : SeenProperty) → property_in symbols here kind ts ≡ Some p
    → IsProperty symbols here kind ts p
property_sound symbols here kind ts p h =
    let front = before_first Place ts in
    let back = from_first Place ts in
    let shallow = unless_some (is_deep 0 ts) _ p h in
    let so = then_some (given_in symbols kind front back) _ p shallow.1 in
    let at = then_some (place_in symbols here back) _ p so.gives in
    rw (← same_Some _ p at.gives) (record {
      front = front;
      back = back;
      tokens = sym (take-append-drop _ ts);
      given = given_sound symbols kind front back so.found so.is;
      place = place_sound symbols here back at.found at.is;
      wanted = wanted_is kind;
      shallow = shallow.0;
    })

-- ---- kinds

abbrev pub Found : Type 0
Found = Kind × SeenProperty

abbrev pub found : Kind → SeenProperty → Found
found kind p = (kind, p)

pub kind_sound : (symbols : Symbols) (here : Option ℕ) (kind : Kind) (ts : List Lexeme) (s : Found) → of_kind symbols here kind ts ≡ Some s
    → (s.0 ≡ kind) × IsProperty symbols here kind ts s.1
kind_sound symbols here kind ts s h =
    let so = mapped_some (property_in symbols here kind ts) (found kind) s h in
    let first = ap (λ (q : Found). q.0) so.gives in
    let second = ap (λ (q : Found). q.1) so.gives in
    (sym first, property_sound symbols here kind ts s.1 (so.is ∙ ap Some second))

begun_sound : (symbols : Symbols) (here : Option ℕ) (ts : List Lexeme) (s : Found) (o : Option Kind) → kind_in_front ts ≡ o
    → begun_by symbols here o ts ≡ Some s → IsStated symbols here ts s.0 s.1
begun_sound symbols here ts s None e h =
    let so = kind_sound symbols here Always ts s h in
    rw so.0 (without so.1)
begun_sound symbols here (Word w ∷ ts) s (Some kind) e h =
    let so = kind_sound symbols here kind ts s h in
    rw so.0 (with_kind e so.1)
begun_sound symbols here ts s (Some kind) e h = absurd (none-some kind e)

pub stated_sound : (symbols : Symbols) (here : Option ℕ) (ts : List Lexeme) (kind : Kind) (p : SeenProperty)
    → stated_in symbols here None ts ≡ Some (found kind p) → IsStated symbols here ts kind p
stated_sound symbols here ts kind p h = begun_sound symbols here ts (found kind p) (kind_in_front ts) refl h

pub given_kind_sound : (symbols : Symbols) (here : Option ℕ) (given : Kind) (ts : List Lexeme) (kind : Kind) (p : SeenProperty)
    → stated_in symbols here (Some given) ts ≡ Some (found kind p) → (kind ≡ given) × IsProperty symbols here given ts p
given_kind_sound symbols here given ts kind p h = kind_sound symbols here given ts (found kind p) h

-- ---- a text outside a source

abbrev pub Answer : Type 0
Answer = Result (Result Stated PropertyFault) AllocError

abbrev pub States_by : Symbols → Kind → List Lexeme → Stated → Type 0
States_by symbols kind ts s = (s.line ≡ 0) × (stated_in symbols None (Some kind) ts ≡ Some (found s.kind (seen_property s.property)))

pub kind_kept : (symbols : Symbols) (kind : Kind) (ts : List Lexeme) (r : Answer) → IfOk r (λ read. IfOk read (States_by symbols kind ts))
    → IfOk r (λ read. IfOk read (λ s. s.kind ≡ kind))
kind_kept symbols kind ts (Ok (Ok s)) h = (given_kind_sound symbols None kind ts s.kind (seen_property s.property) h.1).0
kind_kept symbols kind ts (Ok (Err f)) h = tt
kind_kept symbols kind ts (Err e) h = tt

pub text_states : (symbols : Symbols) (kind : Kind) (ts : List Lexeme) (r : Answer) → IfOk r (λ read. IfOk read (States_by symbols kind ts))
    → IfOk r (λ read. IfOk read (λ s. IsProperty symbols None kind ts (seen_property s.property)))
text_states symbols kind ts (Ok (Ok s)) h = (given_kind_sound symbols None kind ts s.kind (seen_property s.property) h.1).1
text_states symbols kind ts (Ok (Err f)) h = tt
text_states symbols kind ts (Err e) h = tt
