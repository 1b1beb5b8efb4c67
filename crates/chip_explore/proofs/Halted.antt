-- Properties of a machine that a step has stopped: the machine has the values that it had before.
use Rattle.std.proofs.Common.{◌≡◌, ℕ, ◌+◌, ◌*◌, ◌&&◌, not, List, Bool, true, false, is_some, Option, Some, Result, Ok, Err, refl, ap, ◌∙◌, if◌then◌else◌}
use Rattle.std.specs.List.{list_all, list_any, sum_by}
use Rattle.chip_machine.proofs.KeptParts.{still_going}
use Rattle.chip_machine.specs.declared.stop.Stop.{Stop}
use Rattle.chip_machine.specs.State.{State}
use Rattle.chip_machine.specs.Step.{effect_at, perform, settle, step_of}
use Rattle.chip_explore.specs.Property.{is_at, is_met, is_related, value_in}
use Rattle.chip_explore.specs.Prospects.{are_met}
use Rattle.chip_explore.specs.declared.property.Comparison.{Comparison}
use Rattle.chip_explore.specs.declared.property.Condition.{Condition}
use Rattle.chip_explore.specs.declared.property.Item.{Item}
use Rattle.chip_explore.specs.declared.property.Item.TheVariants.{Register}
use Rattle.chip_explore.specs.declared.property.Property.{Property}
use Rattle.chip_explore.specs.declared.property.Sum.{Sum}
use Rattle.chip_explore.specs.declared.property.Term.{Term}

abbrev halted : State → Stop → State
halted s why = record s { core = record s.core { stopped = Some why } }

value_halted : (s : State) (why : Stop) (item : Item) → value_in (halted s why) item ≡ value_in s item
value_halted s why (Register x) = refl
value_halted s why item = refl

-- a property, given the values of its items
abbrev sum_by_values : (Item → ℕ) → Sum → ℕ
sum_by_values values sum =
    sum.constant + sum_by (λ (term : Term). term.factor * values term.item) sum.terms.items

abbrev holds_by_values : (Item → ℕ) → Condition → Bool
holds_by_values values c =
    let compares = λ (one : Comparison). is_related one.relation (sum_by_values values one.left) (sum_by_values values one.right) in
    if c.is_all then list_all compares c.comparisons.items else list_any compares c.comparisons.items

abbrev met_by_values : (pc : ℕ) → Property → (Item → ℕ) → Bool
met_by_values pc property values =
    is_at property.place pc
    && (if property.wanted then holds_by_values values property.condition else not (holds_by_values values property.condition))

met_halted : (s : State) (why : Stop) (property : Property) → is_met (halted s why) property ≡ is_met s property
met_halted s why property = ap (met_by_values s.core.pc property) (λ i item. value_halted s why item i)

goals_halted : (s : State) (why : Stop) (goals : List Property) → are_met goals (halted s why) ≡ are_met goals s
goals_halted s why goals = ap (λ (f : Property → Bool). list_all f goals) (λ i property. met_halted s why property i)

by_result : (goals : List Property) (s : State) (tick : Bool) (result : Result State Stop) → ((after : State) → result ≡ Ok after → is_some after.core.stopped ≡ false)
    → is_some (settle tick s result).core.stopped ≡ true → are_met goals (settle tick s result) ≡ are_met goals s
by_result goals s true (Ok after) going stops = let down : is_some after.core.stopped ≡ false = going after refl in absurd (cc)
by_result goals s false (Ok after) going stops = let down : is_some after.core.stopped ≡ false = going after refl in absurd (cc)
by_result goals s tick (Err why) going stops = goals_halted s why goals

by_test : (stopped : Bool) (goals : List Property) (s : State) (keys : ℕ) (tick : Bool) → is_some s.core.stopped ≡ false → stopped ≡ false
    → is_some (if stopped then s else settle tick s (perform keys s (effect_at s))).core.stopped ≡ true
    → are_met goals (if stopped then s else settle tick s (perform keys s (effect_at s))) ≡ are_met goals s
by_test true goals s keys tick going h stops = absurd (cc)
by_test false goals s keys tick going h stops =
    by_result goals s tick (perform keys s (effect_at s))
    (λ after made. ap (λ (why : Option Stop). is_some why) (still_going keys s after made) ∙ going)
    stops

-- a step that stops the machine doesn't change whether the goals are met
pub goals_stopped : (goals : List Property) (s : State) (keys : ℕ) (tick : Bool) → is_some s.core.stopped ≡ false → is_some (step_of s keys tick).core.stopped ≡ true
    → are_met goals (step_of s keys tick) ≡ are_met goals s
unfolding step_of
goals_stopped goals s keys tick going stops = by_test (is_some s.core.stopped) goals s keys tick going going stops
