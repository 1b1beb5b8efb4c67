use Rattle.std.proofs.Common.{◌≢◌, ◌*◌, ◌+◌, ℕ, refl, length, arith, get_or, get_or-set_other, ap, ◌∙◌}
use Rattle.std.proofs.lemmas.List.{get_or-replicate, length-replicate, length-set}
use Rattle.chip_trace.proofs.DigitLemmas.{pair_is, spaced_step, spaced_done}
use Rattle.chip_trace.proofs.digits.write_spaced_bytes.Goals as goal

pub bytes-init : goal.bytes-init
bytes-init c =
    (refl, λ k low lt. rw c.requires (get_or-replicate (3 * length c.args.bytes.now) k 32 0 (omega (arith, ap length c.requires ∙ length-replicate _ _))))

pub bytes-preserved : goal.bytes-preserved
bytes-preserved c =
    let pair = pair_is c.byte_digits.result (get_or c.args.bytes.now c.bytes.i 0) c.byte_digits.ensures in
    let size = ap length c.requires ∙ length-replicate _ _ in
    let (written, spaces) = c.bytes.invariant in (
      spaced_step c.args.bytes.now c.bytes.text c.bytes.i _ _ (omega arith) (omega (arith, size)) (spaces (3 * c.bytes.i) (omega arith) (omega (arith, size))) pair.0 pair.1 written,
      λ k low lt.
          let first : k ≢ 3 * c.bytes.i + 1 = omega arith in
          let second : k ≢ 3 * c.bytes.i + 2 = omega arith in
          rw (get_or-set_other, get_or-set_other) (spaces k (omega arith) (omega (arith, length-set {A = ℕ}))),
    )

pub returns : goal.returns
returns c = spaced_done _ _ c.bytes.i (omega arith) (omega (arith, ap length c.requires ∙ length-replicate _ _)) c.bytes.invariant.0
