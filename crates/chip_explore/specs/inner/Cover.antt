-- The states that a search keeps, and the facts about them.
-- Source: chosen by this project.
--     phase           the part of a step's number that decides when the timers tick
--     tick_at         whether the timers tick in a step of the search: if the ticks are free, they
--                     never do, and the delay timer of a state is a bound
--     View            the kept states, each with its forgotten parts and the least step at which it was
--                     reached; the limit, below which the search is about steps; and the addresses at
--                     which the search saw steps executed
--     Grows           noted addresses stay noted
--     meets_goals     whether a state meets each goal
--     IsFine          a state that doesn't meet the target; if it has stopped, it meets the goals; if
--                     not, its address is noted, and nothing that the properties and goals use there is
--                     forgotten
--     Safe            from a state at a step, with some parts forgotten, a few steps lead to the limit,
--                     to a stop, or to a kept state; they tell neither keys nor values of the delay
--                     timer apart, need nothing that is forgotten, pass no state that meets the target,
--                     and are made only at noted addresses
--     IsTaken         each step from a kept state leads to a `Safe` state
--     Extends         a view contains at least the facts of another view
--     Holds           each step from each closed state leads to a safe state, and the rate is at least 1
--     Goes            a call preserves `Holds`, and its view extends the one before
use Rattle.std.specs.Prelude.{◌≡◌, ℕ, zero, suc, ◌+◌, ◌-◌, ◌%◌, ◌^◌, ◌<◌, ◌≤◌, ◌⊎◌, Bool, true, false, Option, Some, None, List, length, is_some, slice_index, slice_index_or, if◌then◌else◌}
use Rattle.chip_machine.specs.Block.{ticks}
use Rattle.chip_machine.specs.Choices.{IsWithin, Represents}
use Rattle.chip_machine.specs.Forgotten.{AreWithin, IsUnneeded, IsForgottenAfter}
use Rattle.chip_machine.specs.Relevant.{Alike}
use Rattle.chip_machine.specs.State.{IsProper, State}
use Rattle.chip_machine.specs.Step.{step_of}
use Rattle.chip_replay.specs.Keys.{Events, held}
use Rattle.chip_replay.specs.Run.{run}
use Rattle.chip_explore.specs.Executed.{is_among, is_at_one}
use Rattle.chip_explore.specs.Prospects.{are_met}
use Rattle.chip_explore.specs.Target.{met_in}
use Rattle.chip_explore.specs.declared.leg.End.{End}
use Rattle.chip_explore.specs.declared.leg.End.TheVariants.{Past, Wanted, Halted, Joined, Read}
use Rattle.chip_explore.specs.inner.Kept.{state_at}
use Rattle.chip_explore.specs.inner.Delays.{read_as, timed_register}
use Rattle.chip_explore.specs.inner.Known.{are_goals_known, are_known}
use Rattle.chip_explore.specs.declared.limits.TheConstants.{END, MOST_QUIET_STEPS}
use Rattle.chip_explore.specs.declared.members.Members.{Members}
use Rattle.chip_explore.specs.declared.setting.Setting.{Setting}
use Rattle.chip_explore.specs.declared.ways.Reading.{Reading}
use Rattle.chip_explore.specs.declared.ways.Ways.{Ways}
use Rattle.chip_explore.specs.declared.ways.Ways.TheVariants.{Keys, Values}

abbrev pub phase : Setting → ℕ → ℕ
phase p t = if p.free then 0 else t % p.rate

abbrev pub tick_at : Setting → ℕ → Bool
tick_at p t = if p.free then false else ticks p.rate t

pub record View : Type 0 where
  pub member : ℕ → State
  pub forgotten : List ℕ
  pub steps : List ℕ
  pub limit : ℕ
  pub executed : List Bool

abbrev pub Grows : List Bool → List Bool → Type 0
Grows early late = (pc : ℕ) → is_among early pc ≡ true → is_among late pc ≡ true

abbrev pub meets_goals : Setting → State → Bool
meets_goals p s = are_met p.goals.now s

pub record IsFine (p : Setting) (executed : List Bool) (forgotten : ℕ) (s : State) : Type 0 where
  pub avoided : met_in p.target s ≡ None
  pub noted : is_at_one executed s ≡ true
  pub known : is_some s.core.stopped ≡ false → are_known p forgotten s ≡ true
  pub ended : is_some s.core.stopped ≡ true → meets_goals p s ≡ true

-- the next step is the same whatever allowed keys are down, and whatever value the delay timer has
pub record Moves (p : Setting) (executed : List Bool) (forgotten : ℕ) (s : State) : Type 0 where
  pub fine : IsFine p executed forgotten s
  pub same : Represents p.allowed 0 s
  pub untimed : timed_register p s ≡ None
  pub drawn : s.core.draws < 2 ^ 64 - 1

abbrev pub forgotten_at : View → ℕ → ℕ
forgotten_at v place = slice_index v.forgotten place

-- the place contains a state like this one, with the ticks as at this step
pub record IsAt (p : Setting) (v : View) (place forgotten : ℕ) (s : State) (t : ℕ) : Type 0 where
  pub kept : place < length v.steps
  pub phased : phase p (slice_index v.steps place) ≡ phase p t
  pub within : AreWithin forgotten (forgotten_at v place)
  pub alike : Alike (forgotten_at v place) (v.member place) s

pub record Joins (p : Setting) (v : View) (forgotten : ℕ) (s : State) (t : ℕ) : Type 0 where
  pub place : ℕ
  pub early : slice_index v.steps place ≤ t
  pub at : IsAt p v place forgotten s t

abbrev pub Ends : Setting → View → (forgotten : ℕ) → State → ℕ → Type 0
Ends p v forgotten s t =
    (v.limit ≤ t)
    ⊎ (IsFine p v.executed forgotten s × ((is_some s.core.stopped ≡ true) ⊎ Joins p v forgotten s t))

abbrev pub SafeFor : Setting → View → ℕ → (forgotten : ℕ) → State → ℕ → Type 0
SafeFor p v zero forgotten s t = Ends p v forgotten s t
SafeFor p v (suc k) forgotten s t =
    Moves p v.executed forgotten s × IsUnneeded forgotten s
    × ((after : ℕ) × IsForgottenAfter forgotten s (step_of s 0 (tick_at p t)).core.pc after
    × SafeFor p v k after (step_of s 0 (tick_at p t)) (t + 1))

pub record Safe (p : Setting) (v : View) (forgotten : ℕ) (s : State) (t : ℕ) : Type 0 where
  pub moves : ℕ
  pub few : moves ≤ MOST_QUIET_STEPS
  pub path : SafeFor p v moves forgotten s t

-- the state to which a step of another state leads is safe, with the parts that are forgotten after that step
pub record GoesTo (p : Setting) (v : View) (forgotten : ℕ) (s : State) (next : State) (t : ℕ) : Type 0 where
  pub after : ℕ
  pub is_after : IsForgottenAfter forgotten s next.core.pc after
  pub safe : Safe p v after next (t + 1)

-- `GoesTo` for the next step with all allowed keys or, if it reads the delay timer, with each value up to
-- the bound
abbrev pub GoesBy : (register : Option ℕ) → Setting → View → (forgotten : ℕ) → State → ℕ → Type 0
GoesBy None p v forgotten s t =
    (keys : ℕ) → IsWithin p.allowed keys → GoesTo p v forgotten s (step_of s keys (tick_at p t)) t
GoesBy (Some register) p v forgotten s t =
    (value : ℕ) → value ≤ s.core.delay → GoesTo p v forgotten s (read_as value s) t

abbrev pub GoesOn : Setting → View → (forgotten : ℕ) → State → ℕ → Type 0
GoesOn p v forgotten s t = GoesBy (timed_register p s) p v forgotten s t

pub record IsTaken (p : Setting) (v : View) (place : ℕ) : Type 0 where
  pub drawn : (v.member place).core.draws < 2 ^ 64 - 1
  pub asked : are_goals_known p (forgotten_at v place) (v.member place) ≡ true
  pub unneeded : IsUnneeded (forgotten_at v place) (v.member place)
  pub goes_on : GoesOn p v (forgotten_at v place) (v.member place) (slice_index v.steps place)

pub record Extends (p : Setting) (v w : View) : Type 0 where
  pub limit : w.limit ≤ v.limit
  pub count : length v.steps ≤ length w.steps
  pub member : (j : ℕ) → j < length v.steps → w.member j ≡ v.member j
  pub forgotten : (j : ℕ) → j < length v.steps → forgotten_at w j ≡ forgotten_at v j
  pub early : (j : ℕ) → j < length v.steps → slice_index w.steps j ≤ slice_index v.steps j
  pub phased : (j : ℕ) → j < length v.steps
      → phase p (slice_index w.steps j) ≡ phase p (slice_index v.steps j)
  pub executed : Grows v.executed w.executed

-- the view of the states that the code keeps
abbrev pub view_of : Members → View
view_of m =
    record {
      member = state_at m.base m.states.items;
      forgotten = m.forgotten.items;
      steps = m.steps.items;
      limit = m.limit;
      executed = m.executed;
    }

pub record Holds (p : Setting) (m : Members) : Type 0 where
  pub rate : 0 < p.rate
  pub states : length m.states.items ≡ length m.steps.items
  pub forgotten : length m.forgotten.items ≡ length m.steps.items
  pub closed : length m.closed.items ≡ length m.steps.items
  pub taken : (j : ℕ) → slice_index_or m.closed.items j false ≡ true → IsTaken p (view_of m) j

-- a call preserves `Holds` and the start, and adds to the view
pub record Goes (p : Setting) (m n : Members) : Type 0 where
  pub holds : Holds p n
  pub start : n.start ≡ m.start
  pub extends : Extends p (view_of m) (view_of n)

-- `Goes`, with at most `most` states afterwards
pub record GoesUpTo (p : Setting) (m n : Members) (most : ℕ) : Type 0 where
  pub goes : Goes p m n
  pub few : length n.steps.items ≤ most

abbrev pub Adds : Setting → (m n : Members) → ℕ → Type 0
Adds p m n count = GoesUpTo p m n (length m.steps.items + count)

-- a place that contains a kept state
pub record HasPlace (p : Setting) (m : Members) (place : ℕ) : Type 0 where
  pub holds : Holds p m
  pub kept : place < length m.steps.items

-- `HasPlace`, with a step that isn't the last possible one
pub record HasStep (p : Setting) (m : Members) (place step : ℕ) : Type 0 where
  pub holds : Holds p m
  pub kept : place < length m.steps.items
  pub in_range : step < 2 ^ 64 - 1

-- the facts about the states that a search keeps, if it began with a state at a step
pub record IsSearched (p : Setting) (m : Members) (start : State) (from : ℕ) : Type 0 where
  pub holds : Holds p m
  pub begins : m.start ≡ start
  pub proper : IsProper m.start
  pub noted : is_at_one m.executed m.start ≡ true
  pub begun : Safe p (view_of m) 0 m.start from

-- two settings ask the same question, perhaps with different ticks
pub record AsksSame (p other : Setting) : Type 0 where
  pub rate : other.rate ≡ p.rate
  pub allowed : other.allowed ≡ p.allowed
  pub target : other.target ≡ p.target
  pub goals : other.goals ≡ p.goals

-- `IsSearched` for a search with other ticks
pub record IsSearchedAs (p other : Setting) (m : Members) (start : State) (from : ℕ) : Type 0 where
  pub same : AsksSame p other
  pub searched : IsSearched other m start from

-- the search is about each step below the end, and each state was taken up
pub record IsWhole (p : Setting) (m : Members) : Type 0 where
  pub limit : END ≤ m.limit
  pub taken : (j : ℕ) → j < length m.steps.items → slice_index m.steps.items j < END - 1
      → IsTaken p (view_of m) j

-- the next step of a state, with any allowed keys down, acts as with one of the choices, and needs
-- nothing that is forgotten
pub record HasChoices (p : Setting) (forgotten : ℕ) (s : State) (choices : ℕ) : Type 0 where
  pub drawn : s.core.draws < 2 ^ 64 - 1
  pub asked : are_goals_known p forgotten s ≡ true
  pub few : choices < 2 ^ 16
  pub all : Represents p.allowed choices s
  pub unneeded : IsUnneeded forgotten s
  pub untimed : timed_register p s ≡ None

-- the next step of a state sets a register to one of the values of the delay timer up to the bound
pub record HasValues (p : Setting) (forgotten : ℕ) (s : State) (read : Reading) : Type 0 where
  pub drawn : s.core.draws < 2 ^ 64 - 1
  pub asked : are_goals_known p forgotten s ≡ true
  pub unneeded : IsUnneeded forgotten s
  pub timed : timed_register p s ≡ Some read.register
  pub range : read.register < 16
  pub bound : s.core.delay ≡ read.bound
  pub is_after : IsForgottenAfter forgotten s (step_of s 0 false).core.pc read.after

-- the ways in which the next step of a state can go
abbrev pub HasWays : (p : Setting) (forgotten : ℕ) (s : State) → Ways → Type 0
HasWays p forgotten s (Keys choices) = HasChoices p forgotten s choices
HasWays p forgotten s (Values read) = HasValues p forgotten s read

-- the state to which a step of a kept state leads is safe in a later view
abbrev pub LeadsBy : (next : State → State) → Setting → (m n : Members) → (place step : ℕ) → Type 0
LeadsBy next p m n place step =
    GoesTo p (view_of n) (forgotten_at (view_of m) place) ((view_of m).member place)
    (next ((view_of m).member place)) step

-- `LeadsBy` for a step with some keys down
abbrev pub Leads : Setting → (m n : Members) → (place step keys : ℕ) → Type 0
Leads p m n place step keys = LeadsBy (λ s. step_of s keys (tick_at p step)) p m n place step

-- `LeadsBy` for a step that sets a register to a value of the delay timer
abbrev pub LeadsAs : Setting → (m n : Members) → (place step value : ℕ) → Type 0
LeadsAs p m n place step value = LeadsBy (read_as value) p m n place step

-- the condition under which a sequence of steps ended at a state
abbrev pub IsEnd : Setting → List Bool → (limit forgotten : ℕ) → State → ℕ → End → Type 0
IsEnd p executed limit forgotten s t Past = limit ≤ t
IsEnd p executed limit forgotten s t Wanted = Unit {0}
IsEnd p executed limit forgotten s t Halted =
    IsFine p executed forgotten s × (is_some s.core.stopped ≡ true)
IsEnd p executed limit forgotten s t Joined = IsFine p executed forgotten s
IsEnd p executed limit forgotten s t Read = Unit {0}

-- a state is that of a run at a step under some events, and only allowed keys are down before it
pub record IsUnder (p : Setting) (start : State) (keys : Events) (step : ℕ) (s : State) : Type 0 where
  pub reached : s ≡ run step_of p.rate (held keys) start step
  pub allowed_only : (t : ℕ) → t < step → IsWithin p.allowed (held keys t)
