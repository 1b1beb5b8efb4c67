-- How the parts of the state are encoded as data, so that proofs can distinguish two states.
-- Source: chosen by this project.
use Rattle.std.specs.Prelude.{ℕ, Bool, List, Option, refl}
use Rattle.std.specs.Coded.{Coded, code_by, coded×, coded_ℕ, coded_bool, coded_list, coded_option}
use Rattle.chip_machine.specs.contracts.stop.Stop as stops
use Rattle.chip_machine.specs.contracts.quirks.Quirks as quirks
use Rattle.chip_machine.specs.declared.stop.Stop.{Stop}
use Rattle.chip_machine.specs.declared.quirks.Quirks.{Quirks}
use Rattle.chip_machine.specs.Points.{Points, points_code}
use Rattle.chip_machine.specs.State.{Core, State}

abbrev numbers : Coded (List ℕ)
numbers = coded_list coded_ℕ

-- the parts of a core in the order of its fields
abbrev Parts : Type 0
Parts =
    List ℕ
    × (ℕ × (ℕ × (List ℕ
    × (ℕ × (ℕ × (List ℕ × (List ℕ × (ℕ × (Points × (Bool × (Option Stop × Quirks)))))))))))

abbrev parts_code : Coded Parts
parts_code =
    coded× numbers (coded× coded_ℕ
    (coded× coded_ℕ (coded× numbers
    (coded× coded_ℕ (coded× coded_ℕ
    (coded× numbers (coded× numbers
    (coded× coded_ℕ (coded× points_code
    (coded× coded_bool
    (coded× (coded_option stops.the_row.coded) quirks.the_row.coded)))))))))))

abbrev parts : Core → Parts
parts c = (
  c.registers,
  (
    c.index,
    (
      c.pc,
      (
        c.frames,
        (
          c.delay,
          (c.sound, (c.flags, (c.tape, (c.draws, (c.lit, (c.high, (c.stopped, c.quirks))))))),
        ),
      ),
    ),
  ),
)

abbrev core_of : Parts → Core
core_of p =
    record {
      registers = p.0;
      index = p.1.0;
      pc = p.1.1.0;
      frames = p.1.1.1.0;
      delay = p.1.1.1.1.0;
      sound = p.1.1.1.1.1.0;
      flags = p.1.1.1.1.1.1.0;
      tape = p.1.1.1.1.1.1.1.0;
      draws = p.1.1.1.1.1.1.1.1.0;
      lit = p.1.1.1.1.1.1.1.1.1.0;
      high = p.1.1.1.1.1.1.1.1.1.1.0;
      stopped = p.1.1.1.1.1.1.1.1.1.1.1.0;
      quirks = p.1.1.1.1.1.1.1.1.1.1.1.1;
    }

abbrev pub core_code : Coded Core
core_code = code_by Parts parts_code parts core_of (λ _. refl)

abbrev pub state_code : Coded State
state_code =
    code_by (Core × List ℕ) (coded× core_code numbers) (λ s. (s.core, s.memory))
    (λ p. record { core = p.0; memory = p.1 }) (λ _. refl)
