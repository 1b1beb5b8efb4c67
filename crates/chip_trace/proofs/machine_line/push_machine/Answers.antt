use Rattle.std.proofs.Common.{codes, sym}
use Rattle.std.specs.List.{join_with_byte}
use Rattle.chip_trace.specs.Machine.{choice_lines, choice_names}
use Rattle.chip_trace.proofs.MachineLemmas.{one_line}
use Rattle.chip_trace.proofs.machine_line.push_machine.Goals as goal

pub returns-in-Some : goal.returns-in-Some
returns-in-Some c = rw (sym c.in-Some.ensures.value) c.push_profile.ensures

pub returns-in_ok-push-in-None : goal.returns-in_ok-push-in-None
unfolding choice_lines
returns-in_ok-push-in-None c =
    rw (sym c.in-None.ensures.value, c.in_ok-push-in-None.ensures.items, c.in_ok-push_choices-in-None.ensures, c.in_ok-extend_from_slice-in-None.ensures.items)
    (one_line c.args.text.now.items (codes "# quirks ") (join_with_byte 44 (choice_names c.args.quirks)))
