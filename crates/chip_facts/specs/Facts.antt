-- Statements about all states that a machine with an image can reach.
-- Source: chosen by this project.
--     is_among        whether an address is in a table; an address past the end of the table always is
--     AreFacts        in each reached state, the stop, if there is one, isn't excluded, and a step may be
--                     executed at the address
--     NeverAtAll      no combination of keys, tape and ticks leads to a stop for this cause
use Rattle.std.specs.Prelude.{◌≡◌, ◌≢◌, ℕ, Bool, true, List, Contains, IfSome, Some, slice_index_or}
use Rattle.chip_machine.specs.declared.quirks.Quirks.{Quirks}
use Rattle.chip_machine.specs.declared.stop.Stop.{Stop}
use Rattle.chip_machine.specs.State.{State}
use Rattle.chip_facts.specs.Reached.{IsReached}
use Rattle.chip_facts.specs.declared.table.Left.{Left}

abbrev pub is_among : List Bool → ℕ → Bool
is_among addresses pc = slice_index_or addresses pc true

-- `AreFacts` for one state
pub record IsOneOf (left : List Left) (executed : List Bool) (s : State) : Type 0 where
  pub stop : IfSome s.core.stopped (λ why. Contains left (record { pc = s.core.pc; stop = why }))
  pub place : is_among executed s.core.pc ≡ true

abbrev pub AreFacts : List ℕ → Quirks → List Left → List Bool → Type 0
AreFacts image quirks left executed =
    (s : State) → IsReached image quirks s → IsOneOf left executed s

abbrev pub NeverAtAll : List ℕ → Quirks → Stop → Type 0
NeverAtAll image quirks why =
    (s : State) → IsReached image quirks s → s.core.stopped ≢ Some why
