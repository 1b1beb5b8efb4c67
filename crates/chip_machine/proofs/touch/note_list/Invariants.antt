use Rattle.std.proofs.Common.{◌≡◌, length, take}
use Rattle.chip_lang.specs.declared.limits.TheConstants.{MEMORY_BYTES}
use Rattle.chip_machine.specs.Touched.{IsNoted, is_among}
use Rattle.chip_machine.proofs.touch.note_list.Given as goal

abbrev pub invariant-loop-at : goal.invariant-loop-at
invariant-loop-at l =
    record {
      table : length l.first_touch ≡ MEMORY_BYTES;
      noted : IsNoted (is_among (take l.at-index l.addresses)) l.number l.initial.first_touch l.first_touch;
    }
