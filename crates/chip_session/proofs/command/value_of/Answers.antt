use Rattle.std.proofs.Common.{◌∙◌, ◌<◌, sym, ap, subst, arith, ◌+◌, ◌*◌, get_or, take}
use Rattle.std.specs.Char.{digit_value}
use Rattle.std.specs.Str.Parse.{digits_value}
use Rattle.std.proofs.lemmas.Int.Digits.{digits_value_more}
use Rattle.chip_session.proofs.NumberLemmas.{more_digits, value_fits}
use Rattle.chip_session.proofs.command.value_of.Goals as goal

pub overflow_mul-value : goal.overflow_mul-value
overflow_mul-value c =
    let ds = c.args.digits.now in
    let i = c.loop-byte.byte-index in
    let digit : digit_value (get_or ds i 0) < c.args.base = subst (λ n. n < c.args.base) c.digit_value-digit.ensures c.if-digit-base.false in
    let fits = value_fits c.args.base ds i c.requires.some (more_digits c.args.base ds i c.loop-byte.invariant.digits c.loop-byte-test.true digit) c.requires.room c.loop-byte-test.true in
    omega (arith, fits, ap (λ n. n * c.args.base) c.loop-byte.invariant.value)

pub overflow_add-value : goal.overflow_add-value
overflow_add-value c =
    let ds = c.args.digits.now in
    let i = c.loop-byte.byte-index in
    let digit : digit_value (get_or ds i 0) < c.args.base = subst (λ n. n < c.args.base) c.digit_value-digit.ensures c.if-digit-base.false in
    let fits = value_fits c.args.base ds i c.requires.some (more_digits c.args.base ds i c.loop-byte.invariant.digits c.loop-byte-test.true digit) c.requires.room c.loop-byte-test.true in
    omega (arith, fits, ap (λ n. n * c.args.base) c.loop-byte.invariant.value, c.digit_value-digit.ensures)

pub loop-byte-preserved : goal.loop-byte-preserved
loop-byte-preserved c =
    let ds = c.args.digits.now in
    let i = c.loop-byte.byte-index in
    let digit : digit_value (get_or ds i 0) < c.args.base = subst (λ n. n < c.args.base) c.digit_value-digit.ensures c.if-digit-base.false in
    record {
      value = ap (λ n. n * c.args.base + c.digit_value-digit.result) c.loop-byte.invariant.value ∙ ap (λ d. digits_value c.args.base (take i ds) * c.args.base + d) c.digit_value-digit.ensures
          ∙ sym (digits_value_more c.args.base ds i c.loop-byte-test.true);
      digits = more_digits c.args.base ds i c.loop-byte.invariant.digits c.loop-byte-test.true digit;
    }
