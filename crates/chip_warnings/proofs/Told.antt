-- The kinds of the warnings that are reported.
use Rattle.std.proofs.Common.{◌≡◌, ◌∙◌, ◌<◌, ◌+◌, ℕ, Bool, true, false, true≢false, not, ◌&&◌, cond, List, [], ◌∷◌, ◌++◌, length, map, take, get_or, slice_get, reverse, refl, ap, sym, append_assoc, zero-add, Some}
use Rattle.std.specs.List.{filter, flat_map, range_with_len}
use Rattle.std.proofs.lemmas.Grind.{flat_map-append}
use Rattle.std.proofs.lemmas.List.FromFn.{map-range_with_len_more}
use Rattle.std.proofs.lemmas.List.{map-append, append-nil, map-id, take_more}
use Rattle.std.proofs.lemmas.List.Elements.{filter-append}
use Rattle.chip_warnings.specs.declared.asked.Asked.{Asked}
use Rattle.chip_warnings.specs.declared.flow.Flow.{Flow}
use Rattle.chip_warnings.specs.declared.seen.Seen.{Seen}
use Rattle.chip_warnings.specs.declared.warning.Warning.{Warning}
use Rattle.chip_warnings.specs.declared.warning.WarningCode.{WarningCode}
use Rattle.chip_warnings.specs.declared.warning.WarningCode.TheVariants.{SplitRows, UnusedName, Unreachable, FallsIntoData, JumpsToData, OddAddress, NotInProfile, NeverExecuted, AlwaysZero, Property}
use Rattle.chip_warnings.specs.Marked.{Marked, marked_by}
use Rattle.chip_warnings.specs.Reach.{flow_after}
use Rattle.chip_warnings.specs.Warned.{has_warning, is_property, kinds_after, kinds_on, kinds_told, warned_at}

-- adding one warning
pub told-more : (old new : List Warning) (w : Warning) → new ≡ old ++ w ∷ [] → kinds_told new ≡ kinds_told old ++ kinds_told (w ∷ [])
told-more old new w pushed =
    ap kinds_told pushed
    ∙ ap (map (λ (v : Warning). (v.line, v.code))) (filter-append (λ (v : Warning). not (is_property v.code)) old (w ∷ []))
    ∙ map-append (λ (v : Warning). (v.line, v.code)) (filter (λ (v : Warning). not (is_property v.code)) old) (filter (λ (v : Warning). not (is_property v.code)) (w ∷ []))

-- a warning that isn't about a property is reported with its line and kind
pub kind-told : (w : Warning) (number : ℕ) (kind : WarningCode) → w.line ≡ number → w.code ≡ kind → is_property kind ≡ false → kinds_told (w ∷ []) ≡ (number, kind) ∷ []
kind-told w number kind there is_kind plain =
    ap (λ b. map (λ (v : Warning). (v.line, v.code)) (cond (not b) (w ∷ []) [])) (ap is_property is_kind ∙ plain)
    ∙ (λ i. (there i, is_kind i) ∷ [])

-- a kind of warning that a line has isn't about a property
pub kind-plain : (asked : Asked) (marked : Marked) (flow : Flow) (s : Seen) (kind : WarningCode) → has_warning asked marked flow s kind ≡ true → is_property kind ≡ false
kind-plain asked marked flow s SplitRows has = refl
kind-plain asked marked flow s UnusedName has = refl
kind-plain asked marked flow s Unreachable has = refl
kind-plain asked marked flow s FallsIntoData has = refl
kind-plain asked marked flow s JumpsToData has = refl
kind-plain asked marked flow s OddAddress has = refl
kind-plain asked marked flow s NotInProfile has = refl
kind-plain asked marked flow s NeverExecuted has = refl
kind-plain asked marked flow s AlwaysZero has = refl
kind-plain asked marked flow s (Property code) has = absurd (true≢false (sym has))

pub and_right : (a b : Bool) → (a && b) ≡ true → b ≡ true
and_right true b both = both
and_right false b both = absurd (true≢false (sym both))

-- the warnings that were reported so far, with one more kind
pub told-next : (number : ℕ) (test : WarningCode → Bool) (kinds : List WarningCode) (i : ℕ) (d : WarningCode) (base told later : List (ℕ × WarningCode)) (b : Bool) → i < length kinds
    → told ≡ base ++ map (λ k. (number, k)) (filter test (take i kinds)) → test (get_or kinds i d) ≡ b → later ≡ told ++ map (λ k. (number, k)) (cond b (get_or kinds i d ∷ []) [])
    → later ≡ base ++ map (λ k. (number, k)) (filter test (take (i + 1) kinds))
told-next number test kinds i d base told later b low before tested after =
    let kind : WarningCode = get_or kinds i d in
    let pair : WarningCode → ℕ × WarningCode = λ k. (number, k) in
    after
    ∙ ap (λ t. t ++ map pair (cond b (kind ∷ []) [])) before
    ∙ append_assoc base (map pair (filter test (take i kinds))) (map pair (cond b (kind ∷ []) []))
    ∙ ap (λ t. base ++ t) (sym (map-append pair (filter test (take i kinds)) (cond b (kind ∷ []) [])))
    ∙ ap (λ x. base ++ map pair (filter test (take i kinds) ++ cond x (kind ∷ []) [])) (sym tested)
    ∙ ap (λ ks. base ++ map pair ks) (sym (ap (filter test) (take_more kinds i d low) ∙ filter-append test (take i kinds) (kind ∷ [])))

below-next : (n : ℕ) → range_with_len 0 (n + 1) ≡ range_with_len 0 n ++ n ∷ []
below-next n = simp map-id at (map-range_with_len_more (λ (k : ℕ). k) 0 n n (zero-add n))

-- the warnings that were reported for the lines so far, with one more line
pub warned-next : (asked : Asked) (lines : List Seen) (place : ℕ) (s : Seen) (marked : Marked) (flow : Flow) (told later : List (ℕ × WarningCode)) → slice_get lines place ≡ Some s → marked ≡ marked_by lines
    → flow ≡ flow_after (marked_by lines).jumped (reverse (take place lines)) → told ≡ flat_map (warned_at asked lines) (range_with_len 0 place)
    → later ≡ told ++ map (λ kind. (place + 1, kind)) (kinds_on asked marked flow s) → later ≡ flat_map (warned_at asked lines) (range_with_len 0 (place + 1))
warned-next asked lines place s marked flow told later at same_marked same_flow before after =
    after
    ∙ (λ i. before i ++ map (λ kind. (place + 1, kind)) (kinds_on asked (same_marked i) (same_flow i) s))
    ∙ ap (λ o. flat_map (warned_at asked lines) (range_with_len 0 place) ++ map (λ kind. (place + 1, kind)) (kinds_after asked (marked_by lines) (reverse (take place lines)) o)) (sym at)
    ∙ ap (λ t. flat_map (warned_at asked lines) (range_with_len 0 place) ++ t) (sym (append-nil (warned_at asked lines place)))
    ∙ sym (ap (flat_map (warned_at asked lines)) (below-next place) ∙ flat_map-append (warned_at asked lines) (range_with_len 0 place) (place ∷ []))
