use Rattle.std.proofs.Common.{◌≡◌, ℕ, Bool, true, [], is_some}
use Rattle.chip_machine.specs.State.{State}
use Rattle.chip_machine.specs.Step.{step_of, touches}
use Rattle.chip_replay.proofs.machine.MachineTraced.is_still.Goals as goal

stays : (s : State) → is_some s.core.stopped ≡ true → (keys : ℕ) (tick : Bool) → step_of s keys tick ≡ s
unfolding step_of
stays s stopped keys tick = rw stopped

touches_none : (s : State) → is_some s.core.stopped ≡ true → touches s ≡ []
unfolding touches
touches_none s stopped = rw stopped

pub returns-clause-still : goal.returns-clause-still
returns-clause-still c = λ is. stays c.args.self.now (cc)

pub returns-clause-untouched : goal.returns-clause-untouched
returns-clause-untouched c = λ is. touches_none c.args.self.now (cc)
