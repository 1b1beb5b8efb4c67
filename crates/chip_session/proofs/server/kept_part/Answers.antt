use Rattle.std.proofs.Common.{◌≡◌, ◌∙◌, ap, length, min, take, arith}
use Rattle.chip_session.specs.declared.server.TheConstants.{KEPT_LEN}
use Rattle.chip_session.proofs.ProgressLemmas.{take_min}
use Rattle.chip_session.proofs.server.kept_part.Goals as goal

pub returns : goal.returns
returns c =
    let kept : c.min.result ≡ min KEPT_LEN (length c.args.line.now) = omega (arith, c.min.ensures) in
    ap (λ n. take n c.args.line.now) kept ∙ take_min KEPT_LEN c.args.line.now
