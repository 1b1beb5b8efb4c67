-- The lines of the stops that facts leave, and what facts say before a search.
use Rattle.std.proofs.Common.{◌≡◌, ℕ, ◌+◌, ◌<◌, true, false, List, [], ◌∷◌, ◌++◌, Option, Some, None, IfSome, length, get_or, take, option_map, refl, sym, ap, ◌∙◌, append_assoc, subst}
use Rattle.std.specs.Prelude.{option_copied}
use Rattle.std.specs.Borrow.{Bor}
use Rattle.std.proofs.lemmas.List.{append-nil, take_more}
use Rattle.std.specs.Prelude.{position, if◌then◌else◌}
use Rattle.chip_explore.specs.Causes.{is_wanted}
use Rattle.chip_explore.specs.Property.{is_met}
use Rattle.chip_explore.specs.Target.{met_by}
use Rattle.chip_explore.specs.declared.property.Property.{Property}
use Rattle.chip_explore.specs.declared.target.Met.TheVariants as met
use Rattle.chip_explore.specs.declared.target.Target.{Target}
use Rattle.chip_machine.specs.declared.stop.Stop.{Stop}
use Rattle.chip_verdicts.specs.Verdict.{NeverMet}
use Rattle.chip_analysis.specs.Proving.{looks_for}
use Rattle.chip_facts.specs.Rows.{HoldFacts}
use Rattle.chip_facts.specs.declared.facts.Facts.{Facts}
use Rattle.chip_facts.specs.declared.table.Left.{Left}
use Rattle.chip_machine.specs.declared.quirks.Quirks.{Quirks}
use Rattle.chip_analysis.specs.Exploring.{AreLeft, AreLeftLines, AreStopsLeft, IsLeftLine, left_line}

-- the lines of some stops, followed by the line of one more stop
one_line_more : (causes : ℕ) (left : List Left) (one : Left) (text line : List ℕ) → AreLeftLines causes left text
    → IsLeftLine (is_wanted causes one.stop) one line → AreLeftLines causes (left ++ one ∷ []) (text ++ line)
one_line_more causes [] one text line none is = (line, [], ap (λ t. t ++ line) none ∙ sym (append-nil line), is, refl)
one_line_more causes (first ∷ others) one text line (front, rest, whole, first-is, rest-are) is =
    (front, rest ++ line, ap (λ t. t ++ line) whole ∙ append_assoc front rest line, first-is, one_line_more causes others one rest line rest-are is)

module _ (causes : ℕ) (left : List Left) (i : ℕ) (d : Left) (text new : List ℕ) (inside : i < length left) (before : AreLeftLines causes (take i left) text) where
  next_line : (line : List ℕ) → IsLeftLine (is_wanted causes (get_or left i d).stop) (get_or left i d) line → new ≡ text ++ line → AreLeftLines causes (take (i + 1) left) new
  next_line line is whole =
      subst (λ some. AreLeftLines causes some new) (sym (take_more left i d inside))
      (subst (AreLeftLines causes (take i left ++ get_or left i d ∷ [])) (sym whole) (one_line_more causes (take i left) (get_or left i d) text line before is))

  -- the line of the next stop is there
  pub with_line : (place : List ℕ) → is_wanted causes (get_or left i d).stop ≡ true → new ≡ text ++ left_line place (get_or left i d) → AreLeftLines causes (take (i + 1) left) new
  with_line place wanted whole =
      next_line (left_line place (get_or left i d)) (subst (λ b. IsLeftLine b (get_or left i d) (left_line place (get_or left i d))) (sym wanted) (place, refl)) whole

  -- the next stop has no line
  pub without_line : is_wanted causes (get_or left i d).stop ≡ false → new ≡ text → AreLeftLines causes (take (i + 1) left) new
  without_line unwanted same = next_line [] (subst (λ b. IsLeftLine b (get_or left i d) []) (sym unwanted) refl) (same ∙ sym (append-nil text))

-- the lines of stops that are lent, or none
pub some_left : (causes : ℕ) (left : Option (Bor (List Left))) (lent : Bor (List Left)) (text new : List ℕ) → left ≡ Some lent → AreLeftLines causes lent.now text → new ≡ text
    → AreStopsLeft causes (option_copied left) new
some_left causes left lent text new is are same =
    subst (AreStopsLeft causes (option_copied left)) (sym same) (subst (λ o. AreStopsLeft causes (option_copied o) text) (sym is) are)

pub none_left : (causes : ℕ) (left : Option (Bor (List Left))) (new : List ℕ) → left ≡ None → new ≡ [] → AreStopsLeft causes (option_copied left) new
none_left causes left new is same = subst (λ o. AreStopsLeft causes (option_copied o) new) (sym is) same

-- a target of one property and nothing else is met where the property is
pub alone : (causes : ℕ) (properties : Bor (List Property)) (property : Property) (image : List ℕ) (quirks : Quirks) → causes ≡ 0
    → properties.now ≡ property ∷ [] → NeverMet image quirks (record { causes = causes; address = None; properties = properties })
    → NeverMet image quirks (looks_for property)
alone causes properties property image quirks none is never s reached = sym (by s.core.stopped) ∙ never s reached
  where
    target : Target
    target = record { causes = causes; address = None; properties = properties }

    by : (o : Option Stop) → met_by target s o ≡ met_by (looks_for property) s o
    by (Some cause) = ap (λ (c : ℕ). if is_wanted c cause then Some (met.Cause cause) else None) none
    by None = ap (λ (ps : List Property). option_map met.Property (position (is_met s) ps)) is

-- the stops of facts are those that are left
pub are_left : (image : List ℕ) (quirks : Quirks) (facts : Option Facts) (left : Option (List Left)) → IfSome facts (HoldFacts image quirks)
    → left ≡ option_map (λ found. found.left.items) facts → IfSome left (AreLeft image quirks)
are_left image quirks None left holds is = subst (λ o. IfSome o (AreLeft image quirks)) (sym is) tt
are_left image quirks (Some found) left holds is = subst (λ o. IfSome o (AreLeft image quirks)) (sym is) (found.executed.items, holds.are)
