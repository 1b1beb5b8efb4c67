use Rattle.std.proofs.Common.{◌≡◌, ◌≤◌, ◌+◌, length}
use Rattle.chip_files.specs.KeyLines.{key_commands}
use Rattle.chip_session.specs.KeyFile.{first_refusal}
use Rattle.chip_session.specs.Transcript.{session_after}
use Rattle.chip_session.proofs.key_file.insert_keys.Given as goal

abbrev pub invariant-loop-rest : goal.invariant-loop-rest
invariant-loop-rest l =
    (first_refusal l.fn.bench.session 1 (key_commands l.fn.file) ≡ first_refusal l.bench.session (l.number + 1) (key_commands l.rest))
    × (session_after l.fn.bench.session (key_commands l.fn.file) ≡ session_after l.bench.session (key_commands l.rest))
    × (l.number + length l.rest ≤ length l.fn.file)

abbrev pub decreases-loop-rest : goal.decreases-loop-rest
decreases-loop-rest l = length l.rest
