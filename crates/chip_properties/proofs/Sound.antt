-- The properties that are found for tokens are the ones that they state by the grammar.
use Rattle.std.proofs.Common.{◌≡◌, ℕ, zero, suc, ◌<◌, ◌==◌, Bool, true, false, if◌then◌else◌, List, [], ◌∷◌, ◌++◌, take, drop, Option, Some, None, Result, Ok, Err, refl, sym, subst, ◌∙◌, ap, add-one, arith}
use Rattle.std.proofs.lemmas.Option.{none-some, same_Some}
use Rattle.std.specs.Prelude.{◌&&◌, ℤ, pos, negsuc, nat_lt, codes, option_map, option_and_then}
use Rattle.std.proofs.lemmas.Bool.{and_parts, eqb-true, ltb-true}
use Rattle.std.proofs.lemmas.Slice.Eq.{bytes_eq-Decides}
use Rattle.chip_lang.specs.declared.fault.Fault.{Fault}
use Rattle.chip_lang.specs.declared.limits.TheConstants.{MEMORY_BYTES}
use Rattle.chip_lang.specs.declared.lexeme.Lexeme.{Lexeme}
use Rattle.chip_lang.specs.declared.lexeme.Lexeme.TheVariants.{Word, Number, Text, Sign, Bad}
use Rattle.chip_lang.specs.Line.{is_the, is_sign_of}
use Rattle.chip_lang.specs.Value.{Symbols, value}
use Rattle.chip_lang.specs.computed.Parse.{expression_of}
use Rattle.chip_lang.proofs.Sound.{only_expressions}
use Rattle.chip_explore.specs.declared.property.Item.{Item}
use Rattle.chip_explore.specs.declared.property.Item.TheVariants.{Byte, Pixel}
use Rattle.chip_properties.specs.declared.limits.TheConstants.{SCREEN_WIDTH, SCREEN_HEIGHT}
use Rattle.chip_properties.specs.declared.separator.Separator.{Separator}
use Rattle.chip_properties.specs.declared.separator.Separator.TheVariants.{Comma}
use Rattle.chip_properties.specs.Words.{is_property_word}
use Rattle.chip_properties.specs.Nesting.{level_after}
use Rattle.chip_properties.specs.computed.Separated.{separates, count_before, before_first, after_first, tail_of, ended, enclosed}
use Rattle.chip_properties.specs.computed.Reading.{natural_of, number_in, if_below, number_below_in, enclosed_number, value_in, point_in, pixel_in, byte_in, item_in}
use Rattle.chip_properties.specs.Language.{IsNumber, IsValue, one_token, in_parentheses, IsItem, named, a_byte, a_pixel}

-- ---- outcomes

-- the result that follows from an existing result
pub record Then {A B : Type 0} (o : Option A) (f : A → Option B) (y : B) : Type 0 where
  pub found : A
  pub is : o ≡ Some found
  pub gives : f found ≡ Some y

pub then_some : {A B : Type 0} (o : Option A) (f : A → Option B) (y : B) → option_and_then f o ≡ Some y → Then o f y
then_some None f y h = absurd (none-some y h)
then_some (Some x) f y h = record { found = x; is = refl; gives = h }

pub record Mapped {A B : Type 0} (o : Option A) (f : A → B) (y : B) : Type 0 where
  pub found : A
  pub is : o ≡ Some found
  pub gives : f found ≡ y

pub mapped_some : {A B : Type 0} (o : Option A) (f : A → B) (y : B) → option_map f o ≡ Some y → Mapped o f y
mapped_some None f y h = absurd (none-some y h)
mapped_some (Some x) f y h = record { found = x; is = refl; gives = same_Some (f x) y h }

-- a result that exists only if a test holds
pub if_some : {A : Type 0} (b : Bool) (o : Option A) (x : A) → (if b then o else None) ≡ Some x → (b ≡ true) × (o ≡ Some x)
if_some true o x h = (refl, h)
if_some false o x h = absurd (none-some x h)

pub unless_some : {A : Type 0} (b : Bool) (o : Option A) (x : A) → (if b then None else o) ≡ Some x → (b ≡ false) × (o ≡ Some x)
unless_some true o x h = absurd (none-some x h)
unless_some false o x h = (refl, h)

-- ---- tokens

pub sign_is : (c : ℕ) (t : Lexeme) → is_sign_of c t ≡ true → t ≡ Sign c
sign_is c (Sign d) h = ap Sign (sym (eqb-true c d h))
sign_is c other h = absurd (cc)

pub word_is : (w : List ℕ) (t : Lexeme) → is_the w t ≡ true → t ≡ Word w
word_is w (Word v) h = ap Word (sym ((bytes_eq-Decides w v).0 h))
word_is w other h = absurd (cc)

-- ---- numbers

natural_is : (r : Result ℤ Fault) (n : ℕ) → natural_of r ≡ Some n → r ≡ Ok (pos n)
natural_is (Ok (pos m)) n h = ap (λ k. Ok (pos k)) (same_Some m n h)
natural_is (Ok (negsuc m)) n h = absurd (none-some n h)
natural_is (Err f) n h = absurd (none-some n h)

pub number_sound : (symbols : Symbols) (ts : List Lexeme) (n : ℕ) → number_in symbols ts ≡ Some n → IsNumber symbols ts n
number_sound symbols ts n h =
    let so = then_some (expression_of ts) (λ e. natural_of (value e symbols)) n h in
    record { tree = so.found; expression = only_expressions ts so.found so.is; valued = natural_is (value so.found symbols) n so.gives }

pub below_is : (limit n m : ℕ) → if_below limit n ≡ Some m → (n ≡ m) × (m < limit)
below_is limit n m h =
    let so = if_some (nat_lt n limit) (Some n) m h in
    let same = same_Some n m so.1 in
    let low = ltb-true n limit so.0 in
    (same, omega arith)

pub below_sound : (limit : ℕ) (symbols : Symbols) (ts : List Lexeme) (n : ℕ) → number_below_in limit symbols ts ≡ Some n
    → IsNumber symbols ts n × (n < limit)
below_sound limit symbols ts n h =
    let so = then_some (number_in symbols ts) (if_below limit) n h in
    let low = below_is limit so.found n so.gives in
    (number_sound symbols ts n (so.is ∙ ap Some low.0), low.1)

-- ---- signs around tokens

ended_is : (close : ℕ) (ts front : List Lexeme) → ended close ts ≡ Some front → ts ≡ front ++ Sign close ∷ []
ended_is close [] front h = absurd (none-some front h)
ended_is close (t ∷ []) front h =
    let so = if_some (is_sign_of close t) (Some []) front h in
    let none = same_Some [] front so.1 in
    rw (← none, sign_is close t so.0) refl
ended_is close (t ∷ u ∷ ts) front h =
    let so = mapped_some (ended close (u ∷ ts)) (λ more. t ∷ more) front h in
    rw (← so.gives) (ap (λ more. t ∷ more) (ended_is close (u ∷ ts) so.found so.is))

pub enclosed_is : (begin end : ℕ) (ts inside : List Lexeme) → enclosed begin end ts ≡ Some inside
    → ts ≡ Sign begin ∷ (inside ++ Sign end ∷ [])
enclosed_is begin end [] inside h = absurd (none-some inside h)
enclosed_is begin end (t ∷ ts) inside h =
    let so = if_some (is_sign_of begin t) (ended end ts) inside h in
    rw (sign_is begin t so.0) (ap (λ more. Sign begin ∷ more) (ended_is end ts inside so.1))

-- ---- values

parenthesized : (symbols : Symbols) (ts : List Lexeme) (n : ℕ) → enclosed_number symbols (enclosed 40 41 ts) ≡ Some n → IsValue symbols ts n
parenthesized symbols ts n h =
    let so = then_some (enclosed 40 41 ts) (number_in symbols) n h in
    in_parentheses (enclosed_is 40 41 ts so.found so.is) (number_sound symbols so.found n so.gives)

pub value_sound : (symbols : Symbols) (ts : List Lexeme) (n : ℕ) → value_in symbols ts ≡ Some n → IsValue symbols ts n
value_sound symbols [] n h = parenthesized symbols [] n h
value_sound symbols (Word w ∷ []) n h =
    let so = unless_some (is_property_word w) (number_in symbols (Word w ∷ [])) n h in
    one_token so.0 (number_sound symbols (Word w ∷ []) n so.1)
value_sound symbols (t ∷ []) n h = one_token tt (number_sound symbols (t ∷ []) n h)
value_sound symbols (Word w ∷ u ∷ ts) n h = parenthesized symbols (Word w ∷ u ∷ ts) n h
value_sound symbols (Number z ∷ u ∷ ts) n h = parenthesized symbols (Number z ∷ u ∷ ts) n h
value_sound symbols (Text bytes ∷ u ∷ ts) n h = parenthesized symbols (Text bytes ∷ u ∷ ts) n h
value_sound symbols (Sign c ∷ u ∷ ts) n h = parenthesized symbols (Sign c ∷ u ∷ ts) n h
value_sound symbols (Bad f ∷ u ∷ ts) n h = parenthesized symbols (Bad f ∷ u ∷ ts) n h

-- ---- separators

-- tokens without a separator
pub alone_is : (n : ℕ) (ts : List Lexeme) → tail_of (drop n ts) ≡ None → take n ts ≡ ts
alone_is zero [] h = refl
alone_is (suc n) [] h = refl
alone_is zero (t ∷ ts) h = absurd (none-some ts (sym h))
alone_is (suc n) (t ∷ ts) h = ap (λ more. t ∷ more) (alone_is n ts h)

-- tokens with a separator among them
pub record Around (s : Separator) (depth : ℕ) (ts back : List Lexeme) : Type 0 where
  pub token : Lexeme
  pub is : separates s token ≡ true
  pub whole : ts ≡ take (count_before s depth ts) ts ++ token ∷ back

at_once : (s : Separator) (depth : ℕ) (t : Lexeme) (ts back : List Lexeme) (b : Bool) → (depth == 0 && separates s t) ≡ b
    → ((more : List Lexeme) → tail_of (drop (count_before s (level_after depth t) ts) ts) ≡ Some more → Around s (level_after depth t) ts more)
    → tail_of (drop (count_before s depth (t ∷ ts)) (t ∷ ts)) ≡ Some back → Around s depth (t ∷ ts) back
at_once s depth t ts back true e again h =
    let same = same_Some ts back (rw e at h) in
    record { token = t; is = (and_parts (depth == 0) (separates s t) e).1; whole = rw e (ap (λ more. t ∷ more) same) }
at_once s depth t ts back false e again h =
    let n = count_before s (level_after depth t) ts in
    let is : count_before s depth (t ∷ ts) ≡ suc n = rw e (add-one n) in
    let so = again back (subst (λ k. tail_of (drop k (t ∷ ts)) ≡ Some back) is h) in
    record {
      token = so.token;
      is = so.is;
      whole = subst (λ k. t ∷ ts ≡ take k (t ∷ ts) ++ so.token ∷ back) (sym is) (ap (λ more. t ∷ more) so.whole);
    }

pub around : (s : Separator) (depth : ℕ) (ts back : List Lexeme) → tail_of (drop (count_before s depth ts) ts) ≡ Some back → Around s depth ts back
around s depth [] back h = absurd (none-some back h)
around s depth (t ∷ ts) back h = at_once s depth t ts back (depth == 0 && separates s t) refl (around s (level_after depth t) ts) h

-- ---- items

pub byte_sound : (symbols : Symbols) (ts : List Lexeme) (i : Item) → byte_in symbols ts ≡ Some i → IsItem symbols ts i
byte_sound symbols ts i h =
    let so = then_some (enclosed 91 93 ts) (λ inside. option_map Byte (number_below_in MEMORY_BYTES symbols inside)) i h in
    let at = mapped_some (number_below_in MEMORY_BYTES symbols so.found) Byte i so.gives in
    let low = below_sound MEMORY_BYTES symbols so.found at.found at.is in
    rw (← at.gives) (a_byte (enclosed_is 91 93 ts so.found so.is) low.0 low.1)

point_sound : (symbols : Symbols) (inside : List Lexeme) (i : Item) (o : Option (List Lexeme)) → after_first Comma inside ≡ o
    → point_in symbols (before_first Comma inside) o ≡ Some i → (rest : List Lexeme) → rest ≡ Sign 40 ∷ (inside ++ Sign 41 ∷ [])
    → IsItem symbols (Word (codes "PIXEL") ∷ rest) i
point_sound symbols inside i None e h rest is = absurd (none-some i h)
point_sound symbols inside i (Some row) e h rest is =
    let column = before_first Comma inside in
    let so = then_some (number_below_in SCREEN_WIDTH symbols column) (λ x. option_map (λ y. Pixel x y) (number_below_in SCREEN_HEIGHT symbols row)) i h in
    let at = mapped_some (number_below_in SCREEN_HEIGHT symbols row) (λ y. Pixel so.found y) i so.gives in
    let wide = below_sound SCREEN_WIDTH symbols column so.found so.is in
    let high = below_sound SCREEN_HEIGHT symbols row at.found at.is in
    let comma = around Comma 0 inside row e in
    let whole = comma.whole ∙ ap (λ t. column ++ t ∷ row) (sign_is 44 comma.token comma.is) in
    rw (← at.gives) (a_pixel (ap (λ more. Word (codes "PIXEL") ∷ more) (is ∙ ap (λ more. Sign 40 ∷ (more ++ Sign 41 ∷ [])) whole)) wide.0 wide.1 high.0 high.1)

pixel_sound : (symbols : Symbols) (rest : List Lexeme) (i : Item) → pixel_in symbols rest ≡ Some i → IsItem symbols (Word (codes "PIXEL") ∷ rest) i
pixel_sound symbols rest i h =
    let so = then_some (enclosed 40 41 rest) (λ inside. point_in symbols (before_first Comma inside) (after_first Comma inside)) i h in
    point_sound symbols so.found i (after_first Comma so.found) refl so.gives rest (enclosed_is 40 41 rest so.found so.is)

two_sound : (symbols : Symbols) (t u : Lexeme) (ts : List Lexeme) (i : Item) (b : Bool) → is_the (codes "PIXEL") t ≡ b
    → (if b then pixel_in symbols (u ∷ ts) else byte_in symbols (t ∷ u ∷ ts)) ≡ Some i → IsItem symbols (t ∷ u ∷ ts) i
two_sound symbols t u ts i true e h = rw (word_is (codes "PIXEL") t e) (pixel_sound symbols (u ∷ ts) i h)
two_sound symbols t u ts i false e h = byte_sound symbols (t ∷ u ∷ ts) i h

pub item_sound : (symbols : Symbols) (ts : List Lexeme) (i : Item) → item_in symbols ts ≡ Some i → IsItem symbols ts i
item_sound symbols [] i h = byte_sound symbols [] i h
item_sound symbols (Word w ∷ []) i h = named h
item_sound symbols (t ∷ []) i h = byte_sound symbols (t ∷ []) i h
item_sound symbols (t ∷ u ∷ ts) i h = two_sound symbols t u ts i (is_the (codes "PIXEL") t) refl h
