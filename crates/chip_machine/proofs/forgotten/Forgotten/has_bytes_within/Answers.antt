use Rattle.std.proofs.Common.{◌≡◌, ℕ, arith, ap, sym, ◌∙◌, bit_or}
use Rattle.std.proofs.lemmas.Bool.{eqb-true}
use Rattle.chip_machine.proofs.Masks.{byte_by, byte_is, bytes_within}
use Rattle.chip_machine.proofs.forgotten.Forgotten.has_bytes_within.Goals as goal

pub returns : goal.returns
returns c test at h =
    let mine = c.self.inside in
    let theirs = c.others.inside in
    let same : bit_or mine.bytes theirs.bytes ≡ theirs.bytes = eqb-true _ _ test in
    let window : mine.window ≡ theirs.window = omega arith in
    byte_is theirs.parts theirs.window theirs.bytes c.args.others c.others.view_is c.others.invariant at
    ∙ ap (λ (n : ℕ). byte_by n theirs.bytes at) (sym window)
    ∙ bytes_within mine.window mine.bytes theirs.bytes same at (sym (byte_is mine.parts mine.window mine.bytes c.args.self c.self.view_is c.self.invariant at) ∙ h)
