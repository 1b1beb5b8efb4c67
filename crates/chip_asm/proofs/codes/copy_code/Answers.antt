use Rattle.std.proofs.Common.{◌≡◌, ◌∙◌, ◌+◌, ◌-◌, ◌++◌, ap, arith, drop, length, sym, take}
use Rattle.std.specs.Prelude.{min}
use Rattle.std.proofs.lemmas.List.{length-drop, length-take-le}
use Rattle.chip_lang.specs.declared.limits.TheConstants.{IMAGE_START}
use Rattle.chip_asm.specs.inner.Codes.{copied_bytes}
use Rattle.chip_asm.proofs.codes.copy_code.Goals as goal

-- two bytes that are written one by one
pub returns-then-size-eq2 : goal.returns-then-size-eq2
returns-then-size-eq2 c =
    let q = c.args.now.now in
    let p = c.args.was.now in
    let from = c.args.from.now in
    let size : min p.size q.size ≡ 2 = sym c.min-size.ensures ∙ c.if-size-eq2.true in
    let part : take 2 (drop (c.address-at.result - IMAGE_START) from) ≡ copied_bytes p q from
    = ap (λ n. take n (drop (c.address-at.result - IMAGE_START) from)) (sym size) ∙ ap (λ n. take (min p.size q.size) (drop (n - IMAGE_START) from)) c.address-at.ensures in
    let long : 2 ≡ length (copied_bytes p q from) = sym (length-take-le (min p.size q.size) (drop (p.here - IMAGE_START) from) (omega (arith, length-drop (p.here - IMAGE_START) from, c.requires.was_low, c.requires.was_high)) ∙ size) in
    c.copy_two.ensures ∙ ap (λ n. take (n - IMAGE_START) c.args.image.now ++ (take 2 (drop (c.address-at.result - IMAGE_START) from) ++ drop (n - IMAGE_START + 2) c.args.image.now)) c.address-to.ensures
    ∙ ap (λ l. take (q.here - IMAGE_START) c.args.image.now ++ (l ++ drop (q.here - IMAGE_START + 2) c.args.image.now)) part
    ∙ ap (λ n. take (q.here - IMAGE_START) c.args.image.now ++ (copied_bytes p q from ++ drop (q.here - IMAGE_START + n) c.args.image.now)) long
