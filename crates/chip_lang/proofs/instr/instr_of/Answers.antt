use Rattle.std.proofs.Common.{◌≡◌, ◌/◌, ◌%◌, ◌∙◌, rules, refl}
use Rattle.chip_lang.specs.inner.ByDigits.{instr_with}
use Rattle.chip_lang.proofs.Decoding.{on_page}
use Rattle.chip_lang.proofs.instr.instr_of.Goals as goal

pub returns-in-0 : goal.returns-in-0
unfolding instr_with
returns-in-0 c =
    let x : c.in_ok-x.x ≡ c.args.w / 256 % 16 = search rules in
    let y : c.in_ok-y.y ≡ c.args.w / 16 % 16 = search rules in
    let n : c.in_ok-n.n ≡ c.args.w % 16 = search rules in
    on_page c.args.w 0 _ c.in-0.is (c.system.ensures ∙ rw (x, y, n) refl)

pub returns-in-8 : goal.returns-in-8
unfolding instr_with
returns-in-8 c =
    let x : c.in_ok-x.x ≡ c.args.w / 256 % 16 = search rules in
    let y : c.in_ok-y.y ≡ c.args.w / 16 % 16 = search rules in
    let n : c.in_ok-n.n ≡ c.args.w % 16 = search rules in
    on_page c.args.w 8 _ c.in-8.is (c.arithmetic.ensures ∙ rw (x, y, n) refl)
