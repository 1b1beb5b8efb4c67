use Rattle.std.proofs.Common.{None, Some, rules}
use Rattle.chip_lang.proofs.TokenList.{these_tokens}
use Rattle.chip_check.specs.inner.Known.{listed}
use Rattle.chip_check.proofs.KnownNames.{place_by}
use Rattle.chip_check.proofs.place.undefined_place.Goals as goal

pub first_unknown-requires : goal.first_unknown-requires
first_unknown-requires c = rw (c.requires.tokens, c.text.ensures) (these_tokens c.args.line.now.text)

pub returns-in-Some-clause-span : goal.returns-in-Some-clause-span
returns-in-Some-clause-span c =
    place_by (listed c.args.known.now.symbols.entries) c.args.source.now.lines c.args.line.now.number c.args.line.now.text c.args.span (Some c.in-Some.found) c.requires.known (search rules)

pub returns-in-None-clause-span : goal.returns-in-None-clause-span
returns-in-None-clause-span c =
    place_by (listed c.args.known.now.symbols.entries) c.args.source.now.lines c.args.line.now.number c.args.line.now.text c.args.span None c.requires.known (search rules)
