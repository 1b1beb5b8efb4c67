-- A machine that is restored from its parts.
-- Source: chosen by this project.
--     with_parts       a state with these parts, a silent sound timer and no stop cause
--     with_screen      a state with these rows of 128 pixels, the leftmost pixel as the highest bit
use Rattle.std.specs.Prelude.{ℕ, List, take, None}
use Rattle.chip_machine.specs.State.{Core, State}
use Rattle.chip_machine.specs.Step.{with_lit}
use Rattle.chip_machine.specs.inner.Stored.{in_rows}
use Rattle.chip_machine.specs.declared.parts.Parts.{Parts}

abbrev pub core_with_parts : Parts → Core → Core
core_with_parts p c =
    record {
      registers = p.registers;
      index = p.index;
      pc = p.pc;
      frames = take p.depth p.frames;
      delay = p.delay;
      sound = 0;
      flags = p.flags;
      tape = c.tape;
      draws = p.draws;
      lit = c.lit;
      high = p.high;
      stopped = None;
      quirks = c.quirks;
    }

abbrev pub with_parts : Parts → State → State
with_parts p s = record s { core = core_with_parts p s.core }

abbrev pub with_screen : List ℕ → State → State
with_screen rows s = record s { core = with_lit (in_rows rows) s.core }
