-- Every property that the grammar allows for tokens is found.
use Rattle.std.proofs.Common.{◌≡◌, ℕ, ◌<◌, false, List, [], ◌∷◌, ◌++◌, Option, Some, None, Ok, Err, IfOk, IfErr, refl, sym, ◌∙◌, ap, append_assoc, arith}
use Rattle.std.proofs.lemmas.Option.{none-some}
use Rattle.std.specs.Prelude.{codes}
use Rattle.chip_lang.specs.declared.limits.TheConstants.{MEMORY_BYTES}
use Rattle.chip_lang.specs.declared.lexeme.Lexeme.{Lexeme}
use Rattle.chip_lang.specs.declared.lexeme.Lexeme.TheVariants.{Word, Sign}
use Rattle.chip_lang.specs.Value.{Symbols}
use Rattle.chip_explore.specs.declared.property.Item.{Item}
use Rattle.chip_properties.specs.declared.separator.Separator.TheVariants.{Place}
use Rattle.chip_properties.specs.declared.stated.Kind.{Kind}
use Rattle.chip_properties.specs.declared.stated.Kind.TheVariants.{Always}
use Rattle.chip_properties.specs.SeenProperty.{SeenSum, SeenComparison, SeenCondition, SeenProperty}
use Rattle.chip_properties.specs.computed.Separated.{count_before}
use Rattle.chip_properties.specs.computed.Reading.{value_in, condition_in, place_in, is_always, given_in, property_in, kind_in_front, of_kind, stated_in}
use Rattle.chip_properties.specs.Language.{IsValue, one_token, in_parentheses, IsItem, named, a_byte, a_pixel, Addend, IsAddend, a_value, an_item, a_product, joined, AreEach, IsSum, IsComparison, IsCondition, IsPlace, nowhere, at_here, at_address, IsGiven, a_condition, no_condition, IsProperty, IsStated, with_kind, without, StateNothing}
use Rattle.chip_properties.proofs.SoundProperties.{Answer, found, wanted_is}
use Rattle.chip_properties.proofs.Complete.{Over, below_found, before_is, from_is, value_found, free_no_kind, item_no_kind}
use Rattle.chip_properties.proofs.CompleteSums.{condition_found, over_condition}

-- ---- places

no_value : (symbols : Symbols) (ts : List Lexeme) (n : ℕ) → value_in symbols ts ≡ Some n → ts ≡ [] → ⊥
no_value symbols ts n h e = let none = rw e at h in none-some n none

address_found : (symbols : Symbols) (here : Option ℕ) (ts : List Lexeme) (a : ℕ) → value_in symbols ts ≡ Some a → a < MEMORY_BYTES
    → place_in symbols here (Word (codes "AT") ∷ ts) ≡ Some (Some a)
address_found symbols here [] a h low = absurd (no_value symbols [] a h refl)
address_found symbols here (t ∷ ts) a h low = rw (h, below_found MEMORY_BYTES a low) refl

pub place_found : {symbols : Symbols} {here : Option ℕ} {ts : List Lexeme} {place : Option ℕ} → IsPlace symbols here ts place → place_in symbols here ts ≡ Some place
place_found nowhere = refl
place_found (at_here {a = a} h low) = rw (h, below_found MEMORY_BYTES a low) refl
place_found {symbols = symbols} {here = here} (at_address {ts = ts} {a = a} h low) = address_found symbols here ts a (value_found h) low

begins_place : {symbols : Symbols} {here : Option ℕ} {ts : List Lexeme} {place : Option ℕ} → IsPlace symbols here ts place → count_before Place 0 ts ≡ 0
begins_place nowhere = refl
begins_place (at_here h low) = refl
begins_place (at_address h low) = refl

-- ---- properties

no_always : (kind : Kind) → (kind ≡ Always → ⊥) → is_always kind ≡ false
no_always Always h = absurd (h refl)
no_always kind h = refl

condition_given : (symbols : Symbols) (kind : Kind) (front back : List Lexeme) (c : SeenCondition) → condition_in symbols front ≡ Some c
    → given_in symbols kind front back ≡ Some c
condition_given symbols kind [] back c h = absurd (none-some c h)
condition_given symbols kind (t ∷ ts) back c h = h

given_found : {symbols : Symbols} {kind : Kind} {front back : List Lexeme} {c : SeenCondition} → IsGiven symbols kind front back c
    → given_in symbols kind front back ≡ Some c
given_found {symbols = symbols} (a_condition {kind = kind} {front = front} {back = back} {c = c} h) =
    condition_given symbols kind front back c (condition_found front c h)
given_found (no_condition {kind = kind} other) = rw (no_always kind other) refl

over_nothing : Over Place 0 []
over_nothing rest = omega arith

over_given : {symbols : Symbols} {kind : Kind} {front back : List Lexeme} {c : SeenCondition} → IsGiven symbols kind front back c → Over Place 0 front
over_given (a_condition h) = over_condition h
over_given (no_condition other) = over_nothing

pub property_found : {symbols : Symbols} {here : Option ℕ} {kind : Kind} {ts : List Lexeme} {p : SeenProperty} → IsProperty symbols here kind ts p
    → property_in symbols here kind ts ≡ Some p
property_found {kind = kind} {p = p} h =
    let shallow = rw h.tokens at h.shallow in
    let over = over_given h.given in
    let wanted = h.wanted ∙ sym (wanted_is kind) in
    rw (
      h.tokens,
      shallow,
      before_is Place h.front h.back over (begins_place h.place),
      from_is Place h.front h.back over (begins_place h.place),
      given_found h.given,
      place_found h.place,
      ← wanted,
    ) refl

-- ---- kinds

-- the tokens don't begin with a word for a kind, whatever follows
abbrev pub Begins : List Lexeme → Type 0
Begins ts = (rest : List Lexeme) → kind_in_front (ts ++ rest) ≡ None

value_begins : {symbols : Symbols} {ts : List Lexeme} {n : ℕ} → IsValue symbols ts n → Begins ts
value_begins (one_token {t = Word w} free h) rest = free_no_kind w free
value_begins (one_token free h) rest = refl
value_begins (in_parentheses is h) rest = rw is refl

item_begins : {symbols : Symbols} {ts : List Lexeme} {i : Item} → IsItem symbols ts i → Begins ts
item_begins (named {w = w} {i = i} h) rest = item_no_kind w i h
item_begins (a_byte is h low) rest = rw is refl
item_begins (a_pixel is p wide q high) rest = rw is refl

longer : (front back : List Lexeme) → Begins front → Begins (front ++ back)
longer front back h rest = ap kind_in_front (append_assoc front back rest) ∙ h (back ++ rest)

addend_begins : {symbols : Symbols} {ts : List Lexeme} {a : Addend} → IsAddend symbols ts a → Begins ts
addend_begins (a_value h) = value_begins h
addend_begins (an_item h) = item_begins h
addend_begins (a_product {front = front} {back = back} is h i) = rw is (longer front (Sign 42 ∷ back) (value_begins h))

joined_begins : {A : Type 0} (Is : List Lexeme → A → Type 0) → ((p : List Lexeme) (x : A) → Is p x → Begins p) → (between : Lexeme)
    → (first : List Lexeme) (more : List (List Lexeme)) (xs : List A) → AreEach Is (first ∷ more) xs → Begins (joined between first more)
joined_begins Is each between first more [] h = absurd h
joined_begins Is each between first [] (x ∷ xs) h = each first x h.0
joined_begins Is each between first (next ∷ more) (x ∷ xs) h = longer first (between ∷ joined between next more) (each first x h.0)

sum_begins : {symbols : Symbols} {ts : List Lexeme} {s : SeenSum} → IsSum symbols ts s → Begins ts
sum_begins {symbols = symbols} h = rw h.tokens (joined_begins (IsAddend symbols) (λ p a is. addend_begins is) (Sign 43) h.first h.more h.addends h.each)

comparison_begins : {symbols : Symbols} {ts : List Lexeme} {c : SeenComparison} → IsComparison symbols ts c → Begins ts
comparison_begins h = rw h.tokens (longer h.front _ (sum_begins h.left))

condition_begins : {symbols : Symbols} {ts : List Lexeme} {c : SeenCondition} → IsCondition symbols ts c → Begins ts
condition_begins {symbols = symbols} {c = c} h =
    rw h.tokens (joined_begins (IsComparison symbols) (λ p d is. comparison_begins is) _ h.first h.more c.comparisons h.each)

given_begins : {symbols : Symbols} {kind : Kind} {front back : List Lexeme} {c : SeenCondition} → IsGiven symbols kind front back c → kind ≡ Always
    → kind_in_front (front ++ back) ≡ None
given_begins (a_condition {back = back} h) always = condition_begins h back
given_begins (no_condition other) always = absurd (other always)

pub stated_found : {symbols : Symbols} {here : Option ℕ} {ts : List Lexeme} {kind : Kind} {p : SeenProperty} → IsStated symbols here ts kind p
    → stated_in symbols here None ts ≡ Some (found kind p)
stated_found (with_kind is h) = rw (is, property_found h) refl
stated_found (without h) =
    let none = given_begins h.given refl in
    rw (ap kind_in_front h.tokens ∙ none, property_found h) refl

pub nothing_stated : (symbols : Symbols) (here : Option ℕ) (ts : List Lexeme) → stated_in symbols here None ts ≡ None → StateNothing symbols here ts
nothing_stated symbols here ts none kind p h = none-some (found kind p) (sym none ∙ stated_found h)

pub no_property_stated : (symbols : Symbols) (here : Option ℕ) (kind : Kind) (ts : List Lexeme) → stated_in symbols here (Some kind) ts ≡ None
    → (p : SeenProperty) → IsProperty symbols here kind ts p → ⊥
no_property_stated symbols here kind ts none p h =
    let is : of_kind symbols here kind ts ≡ Some (found kind p) = rw (property_found h) refl in
    none-some (found kind p) (sym none ∙ is)

-- ---- a text outside a source

pub text_refused : (symbols : Symbols) (kind : Kind) (ts : List Lexeme) (r : Answer)
    → IfOk r (λ read. IfErr read (λ fault. stated_in symbols None (Some kind) ts ≡ None))
    → IfOk r (λ read. IfErr read (λ fault. (p : SeenProperty) → IsProperty symbols None kind ts p → ⊥))
text_refused symbols kind ts (Ok (Ok s)) h = tt
text_refused symbols kind ts (Ok (Err f)) h = no_property_stated symbols None kind ts h
text_refused symbols kind ts (Err e) h = tt
