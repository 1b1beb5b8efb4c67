-- The names that lines of help look up, and their symbols.
use Rattle.std.proofs.Common.{◌≡◌, ◌∙◌, ℕ, cond, Bool, true, false, true≢false, is_some, List, [], ◌∷◌, ◌++◌, length, map, refl, ap, sym, subst, Option, None, Some, option_map, not, ◌&&◌, nat_le, if◌then◌else◌}
use Rattle.std.specs.FinMap as finite
use Rattle.std.specs.Global.{Vec}
use Rattle.std.specs.Map.{lookup}
use Rattle.std.specs.Option.{option_or}
use Rattle.std.specs.Str.{bytes_eq}
use Rattle.std.proofs.lemmas.Cmp.{nat_list_cmp_total}
use Rattle.std.proofs.lemmas.Slice.Eq.{bytes_eq-Decides}
use Rattle.chip_lang.specs.FaultPlace.{name_of_token}
use Rattle.chip_lang.specs.Line.{reading_of, upper}
use Rattle.chip_lang.specs.declared.fault_place.Span.{Span}
use Rattle.chip_lang.specs.declared.token.Token.{Token}
use Rattle.chip_lang.specs.computed.Tokens.{tokens_of}
use Rattle.chip_symbols.specs.declared.table.Symbol.{Symbol}
use Rattle.chip_symbols.specs.Names.{Name, lookup_name, values_of}
use Rattle.chip_symbols.proofs.NameValues.{value-of-name}
use Rattle.chip_check.specs.Place.{first_unknown, is_seen_symbol, is_unknown_name, last_seen, or_span, undefined_place}
use Rattle.chip_asm.specs.Program.{symbols_of}
use Rattle.chip_check.specs.inner.Known.{Agree, listed}

pub ruleset known_names = (value-of-name)

-- a map returns the symbol of the first entry with a name
pub lookup-listed : (entries : List (Vec ℕ × Symbol)) (name : Name) → lookup (λ (key : Vec ℕ). bytes_eq name key.items) entries ≡ lookup_name (listed entries) name
lookup-listed [] name = refl
lookup-listed (e ∷ es) name = ap (cond (bytes_eq name e.0.items) (Some e.1)) (lookup-listed es name)

pub lookup-behind : (xs ys : List (Name × Symbol)) (name : Name) → lookup_name (xs ++ ys) name ≡ option_or (lookup_name xs name) (lookup_name ys name)
lookup-behind [] ys name = refl
lookup-behind (x ∷ xs) ys name =
    elim (bytes_eq name x.0) as (λ b. cond b (Some x.1) (lookup_name (xs ++ ys) name) ≡ option_or (cond b (Some x.1) (lookup_name xs name)) (lookup_name ys name))
    [ true ↦ refl | false ↦ lookup-behind xs ys name ]

-- lists that agree still agree if the same symbols are appended to both
pub agree-behind : (xs ys zs : List (Name × Symbol)) → Agree xs ys → Agree (xs ++ zs) (ys ++ zs)
agree-behind xs ys zs agree name = lookup-behind xs zs name ∙ ap (λ o. option_or o (lookup_name zs name)) (agree name) ∙ sym (lookup-behind ys zs name)

or-some : (o p : Option Symbol) → is_some o ≡ true → option_or o p ≡ o
or-some None p some = absurd (true≢false (sym some))
or-some (Some s) p some = refl

or-none : (o : Option Symbol) → option_or o None ≡ o
or-none None = refl
or-none (Some s) = refl

-- a symbol whose name is already in the list changes nothing
pub agree-known : (xs : List (Name × Symbol)) (e : Name × Symbol) → is_some (lookup_name xs e.0) ≡ true → Agree xs (xs ++ e ∷ [])
agree-known xs e known other = sym (lookup-behind xs (e ∷ []) other ∙ by (bytes_eq other e.0) refl)
  where
    by : (b : Bool) → bytes_eq other e.0 ≡ b → option_or (lookup_name xs other) (lookup_name (e ∷ []) other) ≡ lookup_name xs other
    by true same = or-some (lookup_name xs other) _ (subst (λ n. is_some (lookup_name xs n) ≡ true) (sym ((bytes_eq-Decides other e.0).0 same)) known)
    by false apart = ap (λ b. option_or (lookup_name xs other) (cond b (Some e.1) None)) apart ∙ or-none (lookup_name xs other)

-- lists that agree assign the same values
pub same-values : (xs ys : List (Name × Symbol)) → Agree xs ys → values_of xs ≡ values_of ys
same-values xs ys agree =
    finite.same_map nat_list_cmp_total (finite.slice_cmp-IsAntisymmetric finite.nat_cmp-IsAntisymmetric) _ _
    (λ name. value-of-name xs name ∙ ap (option_map (λ (s : Symbol). s.value)) (agree name) ∙ sym (value-of-name ys name))

unknown-name : (xs ys : List (Name × Symbol)) (last : ℕ) → Agree xs ys → (name : Option (List ℕ)) → is_unknown_name xs last name ≡ is_unknown_name ys last name
unknown-name xs ys last agree None = refl
unknown-name xs ys last agree (Some name) = ap (λ s. not (is_seen_symbol last s)) (agree (map upper name))

-- lists that agree have the same first unknown name
pub same-unknown : (xs ys : List (Name × Symbol)) (last : ℕ) (line : List ℕ) (place : ℕ) (tokens : List Token) → Agree xs ys → first_unknown xs last line place tokens ≡ first_unknown ys last line place tokens
same-unknown xs ys last line place [] agree = refl
same-unknown xs ys last line place (t ∷ ts) agree =
    λ j. if nat_le place t.start && unknown-name xs ys last agree (name_of_token line t) j then Some (record { start = t.start; end = t.end }) else same-unknown xs ys last line place ts agree j

-- the place of an undefined name, found with a list that agrees with the symbols of the lines
pub place_by : (names : List (Name × Symbol)) (lines : List (List ℕ)) (number : ℕ) (line : List ℕ) (span : Span) (found : Option Span) → Agree names (symbols_of lines)
    → first_unknown names (last_seen number (length lines) (reading_of line)) line span.start (tokens_of line) ≡ found → or_span found span ≡ undefined_place lines number line span
place_by names lines number line span found agree is =
    ap (λ o. or_span o span) (sym is ∙ same-unknown names (symbols_of lines) (last_seen number (length lines) (reading_of line)) line span.start (tokens_of line) agree)
