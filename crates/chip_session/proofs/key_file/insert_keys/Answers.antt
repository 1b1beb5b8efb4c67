use Rattle.std.proofs.Common.{◌≡◌, ◌∙◌, ap, sym, ℕ, ◌+◌, Some, None, List, arith}
use Rattle.std.specs.Option.{option_copied}
use Rattle.chip_files.specs.KeyLines.{key_command, key_commands}
use Rattle.chip_session.specs.KeyFile.{first_refusal, refusal_to}
use Rattle.chip_session.specs.Session.{Session}
use Rattle.chip_session.specs.Transcript.{session_after}
use Rattle.chip_session.proofs.KeyLemmas.{fault_is, no_lines, refused_here, refused_later, refused_none, session_is, session_later, session_same}
use Rattle.chip_session.proofs.key_file.insert_keys.Goals as goal

pub returns-in-Some-clause-fault : goal.returns-in-Some-clause-fault
returns-in-Some-clause-fault c =
    let s : Session = c.loop-rest.bench.session in
    let refused : refusal_to s (key_command c.first_line.result.0.now) ≡ Some c.in-Some.code.now =
    sym c.in_ok-code.ensures.code ∙ ap option_copied c.in-Some.is in
    fault_is c.args.bench.now.session c.args.file.now _
    (c.loop-rest.invariant.0 ∙ refused_here s (c.loop-rest.number + 1) c.loop-rest.rest.now c.first_line.result.0.now c.first_line.result.1.now
    c.first_line.ensures.first _ refused)

pub loop-rest-preserved : goal.loop-rest-preserved
loop-rest-preserved c =
    let s : Session = c.loop-rest.bench.session in
    let n : ℕ = c.loop-rest.number in
    let bytes : List ℕ = c.loop-rest.rest.now in
    let line : List ℕ = c.first_line.result.0.now in
    let rest : List ℕ = c.first_line.result.1.now in
    let first = c.first_line.ensures.first in
    let taken : refusal_to s (key_command line) ≡ None = sym c.in_ok-code.ensures.code ∙ ap option_copied c.in_default.is in (
      c.loop-rest.invariant.0 ∙ refused_later s (n + 1) bytes line rest first taken
          ∙ ap (λ (t : Session). first_refusal t (n + 1 + 1) (key_commands rest)) (sym c.in_ok-code.ensures.session),
      c.loop-rest.invariant.1 ∙ session_later s n bytes line rest first
          ∙ ap (λ (t : Session). session_after t (key_commands rest)) (sym c.in_ok-code.ensures.session),
      omega (arith, c.first_line.ensures.shorter, c.loop-rest.invariant.2),
    )

pub returns-clause-none : goal.returns-clause-none
returns-clause-none c =
    let none = no_lines c.loop-rest.rest.now (sym c.is_empty.ensures ∙ c.loop-rest-test.false) in
    fault_is c.args.bench.now.session c.args.file.now None
    (c.loop-rest.invariant.0 ∙ refused_none c.loop-rest.bench.session _ c.loop-rest.rest.now none)

pub returns-clause-session : goal.returns-clause-session
returns-clause-session c =
    let none = no_lines c.loop-rest.rest.now (sym c.is_empty.ensures ∙ c.loop-rest-test.false) in
    session_is c.args.bench.now.session c.loop-rest.bench.session c.args.file.now
    (c.loop-rest.invariant.1 ∙ session_same c.loop-rest.bench.session c.loop-rest.rest.now none)
