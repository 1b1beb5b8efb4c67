use Rattle.std.proofs.Common.{rules, arith}
use Rattle.chip_asm.proofs.ListingSteps.{one-digit, two-digits, three-digits, four-digits}
use Rattle.chip_asm.proofs.listing.number_text.Goals as goal

pub returns-then-tens-eq0-clause-text : goal.returns-then-tens-eq0-clause-text
returns-then-tens-eq0-clause-text c = rw (one-digit c.args.number c.if-tens-eq0.true) (search rules)

pub returns-then-hundreds-eq0-clause-text : goal.returns-then-hundreds-eq0-clause-text
returns-then-hundreds-eq0-clause-text c = rw (two-digits c.args.number (omega arith) (omega arith)) (search rules)

pub returns-then-thousands-eq0-clause-text : goal.returns-then-thousands-eq0-clause-text
returns-then-thousands-eq0-clause-text c = rw (three-digits c.args.number (omega arith) (omega arith)) (search rules)

pub returns-clause-text : goal.returns-clause-text
returns-clause-text c = rw (four-digits c.args.number (omega arith) (omega arith)) (search rules)
