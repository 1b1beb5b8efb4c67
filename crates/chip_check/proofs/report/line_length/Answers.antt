use Rattle.std.proofs.Common.{◌==◌, length, get_or, sym, arith}
use Rattle.std.proofs.lemmas.Bool.{false_from_ne_true}
use Rattle.std.proofs.lemmas.List.Sums.{position_or_len_is}
use Rattle.chip_asm.specs.Lines.{is_newline}
use Rattle.chip_check.proofs.report.line_length.Goals as goal

pub returns-in-Some-clause-length : goal.returns-in-Some-clause-length
returns-in-Some-clause-length c =
    let found = c.in-Some.ensures in
    sym (position_or_len_is is_newline c.args.bytes.now c.in-Some.index 0 (omega (arith, found.0.high))
    (λ k h. false_from_ne_true (get_or c.args.bytes.now k 0 == 10) (found.0.before k (omega arith) h)) (λ h. found.1))

pub returns-in-None-clause-length : goal.returns-in-None-clause-length
returns-in-None-clause-length c =
    let nowhere = c.in-None.ensures in
    sym (position_or_len_is is_newline c.args.bytes.now (length c.args.bytes.now) 0 (omega arith)
    (λ k h. false_from_ne_true (get_or c.args.bytes.now k 0 == 10) (nowhere k (omega arith) h)) (λ h. absurd (omega arith)))
