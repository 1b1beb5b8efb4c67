use Rattle.std.proofs.Common.{rules, sym, ◌∙◌}
use Rattle.std.specs.Bool.{beq}
use Rattle.std.proofs.lemmas.Bool.{and_parts}
use denote.Enum.Bare.{sameb, same_true}
use Rattle.chip_machine.specs.contracts.quirks.IndexMove as moves
use Rattle.chip_machine.specs.contracts.quirks.LowSixteen as sixteens
use Rattle.chip_machine.proofs.SameMachine.{same_bools}
use Rattle.chip_machine.proofs.quirks.Quirks.is_same.Goals as goal

pub returns : goal.returns
returns c = λ on.
    let s = c.args.self in
    let o = c.args.other in
    let shifts = and_parts (beq s.shifts_second o.shifts_second) _ (sym c.eq.ensures ∙ on) in
    let move = and_parts (sameb moves.the_type s.index_move o.index_move) _ shifts.1 in
    let jumps = and_parts (beq s.jumps_by_first o.jumps_by_first) _ move.1 in
    let clears = and_parts (beq s.clears_flag o.clears_flag) _ jumps.1 in
    let wraps = and_parts (beq s.wraps o.wraps) _ clears.1 in
    let sixteen = and_parts (sameb sixteens.the_type s.low_sixteen o.low_sixteen) _ wraps.1 in
    let scrolls = and_parts (beq s.scrolls_whole o.scrolls_whole) _ sixteen.1 in
    let size = and_parts (beq s.clears_at_size o.clears_at_size) _ scrolls.1 in
    let flags = and_parts (beq s.flags_overflow o.flags_overflow) (beq s.has_super_instructions o.has_super_instructions) size.1 in
    λ i. record {
      shifts_second = same_bools s.shifts_second o.shifts_second shifts.0 i;
      index_move = same_true moves.the_type (search rules) s.index_move o.index_move move.0 i;
      jumps_by_first = same_bools s.jumps_by_first o.jumps_by_first jumps.0 i;
      clears_flag = same_bools s.clears_flag o.clears_flag clears.0 i;
      wraps = same_bools s.wraps o.wraps wraps.0 i;
      low_sixteen = same_true sixteens.the_type (search rules) s.low_sixteen o.low_sixteen sixteen.0 i;
      scrolls_whole = same_bools s.scrolls_whole o.scrolls_whole scrolls.0 i;
      clears_at_size = same_bools s.clears_at_size o.clears_at_size size.0 i;
      flags_overflow = same_bools s.flags_overflow o.flags_overflow flags.0 i;
      has_super_instructions = same_bools s.has_super_instructions o.has_super_instructions flags.1 i;
    }
