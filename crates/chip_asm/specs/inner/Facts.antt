-- The facts that are reported about a line, given the stored parts (chosen by this project).
use Rattle.std.specs.Prelude.{◌≡◌, ℕ, ◌<◌, ◌≤◌, List}
use Rattle.chip_lang.specs.declared.limits.TheConstants.{MEMORY_BYTES}
use Rattle.chip_lang.specs.declared.line.Line.{Line}
use Rattle.chip_lang.specs.Line.{reading_of}
use Rattle.chip_lang.specs.SeenLine.{seen_line}
use Rattle.chip_asm.specs.LineViews.{LineFacts}
use Rattle.chip_asm.specs.declared.placement.Placement.{Placement}
use Rattle.chip_asm.specs.inner.Placements.{fault_noted, is_active_status}

abbrev pub facts_in : (number : ℕ) → (text : List ℕ) → Placement → (bytes : List ℕ) → LineFacts
facts_in number text q bytes =
    record {
      number = number;
      text = text;
      active = is_active_status q.status;
      address = q.here;
      value = q.value;
      fault = fault_noted q.status;
      bytes = bytes;
    }

-- the number has at most four digits, the reading is the reading of the text, and the address is in
-- the memory or directly after it
pub record IsView (number : ℕ) (text : List ℕ) (line : Line) (q : Placement) : Type 0 where
  pub few : number < 10000
  pub is_read : seen_line line ≡ reading_of text
  pub high : q.here ≤ MEMORY_BYTES
