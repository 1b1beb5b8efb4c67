use Rattle.std.proofs.Common.{◌≡◌, ◌∙◌, codes, sym, append-nil, true}
use Rattle.chip_machine.specs.Profile.{profile_name}
use Rattle.chip_trace.specs.Machine.{has_line, profile_lines}
use Rattle.chip_trace.proofs.MachineLemmas.{one_line}
use Rattle.chip_trace.proofs.machine_line.push_profile.Goals as goal

pub returns-then-not-has_line : goal.returns-then-not-has_line
unfolding profile_lines
returns-then-not-has_line c = rw (sym c.has_line.ensures ∙ c.if-not-has_line.true) (sym (append-nil c.args.text.now.items))

pub returns : goal.returns
unfolding profile_lines
returns c =
    let has : has_line c.args.profile ≡ true = sym c.has_line.ensures ∙ c.if-not-has_line.false in
    rw (has, c.in_ok-push.ensures.items, c.in_ok-extend_from_slice-2.ensures.items, c.as_bytes.ensures.value, c.name.ensures.name, c.in_ok-extend_from_slice.ensures.items)
    (one_line c.args.text.now.items (codes "# profile ") (profile_name c.args.profile))
