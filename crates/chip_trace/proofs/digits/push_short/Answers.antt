use Rattle.std.proofs.lemmas.Fmt.{decimal_digit}
use Rattle.chip_trace.proofs.DigitLemmas.{two_digits, three_digits, four_digits, taken_where_ok}
use Rattle.chip_trace.proofs.digits.push_short.Goals as goal

pub returns-then-number-lt10 : goal.returns-then-number-lt10
returns-then-number-lt10 c = rw (decimal_digit c.args.number c.if-number-lt10.true) c.in_ok-push.ensures.items

pub returns-then-number-lt100 : goal.returns-then-number-lt100
returns-then-number-lt100 c =
    rw (two_digits c.args.number c.if-number-lt10.false c.if-number-lt100.true) (taken_where_ok _ _ _ _ c.extend_from_slice.ensures.items)

pub returns-then-number-lt1000 : goal.returns-then-number-lt1000
returns-then-number-lt1000 c =
    rw (three_digits c.args.number c.if-number-lt100.false c.if-number-lt1000.true) (taken_where_ok _ _ _ _ c.extend_from_slice-then-number-lt1000.ensures.items)

pub returns : goal.returns
returns c =
    rw (four_digits c.args.number c.if-number-lt1000.false c.requires) (taken_where_ok _ _ _ _ c.extend_from_slice-2.ensures.items)
