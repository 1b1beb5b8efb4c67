use Rattle.std.proofs.Common.{◌==◌, sym, arith, length, get_or}
use Rattle.std.proofs.lemmas.Bool.{false_from_ne_true}
use Rattle.std.proofs.lemmas.List.Sums.{position_or_len_is}
use Rattle.chip_files.proofs.key_lines.place_of.Goals as goal

pub returns-in-Some-clause-value : goal.returns-in-Some-clause-value
returns-in-Some-clause-value c =
    let found = c.in-Some.ensures in
    sym (position_or_len_is (λ byte. byte == c.args.wanted) c.args.text.now c.in-Some.place 0 (omega (arith, found.0.high))
    (λ k h. false_from_ne_true (get_or c.args.text.now k 0 == c.args.wanted) (found.0.before k (omega arith) h)) (λ h. found.1))

pub returns-in-None-clause-value : goal.returns-in-None-clause-value
returns-in-None-clause-value c =
    let nowhere = c.in-None.ensures in
    sym (position_or_len_is (λ byte. byte == c.args.wanted) c.args.text.now (length c.args.text.now) 0 (omega arith)
    (λ k h. false_from_ne_true (get_or c.args.text.now k 0 == c.args.wanted) (nowhere k (omega arith) h)) (λ h. absurd (omega arith)))
