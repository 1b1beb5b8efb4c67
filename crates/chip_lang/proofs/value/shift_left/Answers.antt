use Rattle.std.proofs.Common.{◌≡◌, ◌∙◌, ◌^◌, rules, arith, lit<, SFits, w32, w64}
use Rattle.std.specs.Prelude.{pos}
use Rattle.std.proofs.lemmas.Int.{ints, to_z-of_z, fits_signed_mul}
use Rattle.chip_lang.proofs.value.shift_left.Goals as goal

pub overflow_mul-shifted : goal.overflow_mul-shifted
overflow_mul-shifted c =
    let from : SFits w64 c.from.result = search rules in
    let power : SFits w64 c.power_of_two.result = search rules in
    let a : c.from.result ≡ c.args.a = c.from.ensures ∙ to_z-of_z w32 c.args.a c.ranges.a in
    rw (to_z-of_z w64 c.from.result from, to_z-of_z w64 c.power_of_two.result power, a, c.power_of_two.ensures.value)
    (fits_signed_mul w64 c.args.a (pos (2 ^ c.in-Ok.n)) 2147483648 4294967295 (omega (arith, ints)) (omega (arith, ints)) (lit< tt))
