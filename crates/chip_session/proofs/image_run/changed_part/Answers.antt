use Rattle.std.proofs.Common.{◌-◌, ◌∙◌, arith, drop, sym, take}
use Rattle.std.proofs.lemmas.Slice.Eq.{bytes_eq-Decides}
use Rattle.chip_session.proofs.SameParts.{same_between, within_length}
use Rattle.chip_session.proofs.image_run.changed_part.Goals as goal

pub returns-then-eq-clause-places : goal.returns-then-eq-clause-places
returns-then-eq-clause-places c =
    let alike = within_length c.args.old.now c.args.new.now c.args.places.start c.args.places.end c.min-first.result c.min-end.result c.requires.lengths c.requires.alike (omega arith) (omega arith) in
    same_between c.args.old.now c.args.new.now c.min-first.result c.min-end.result c.requires.lengths alike
    ((bytes_eq-Decides (take (c.min-end.result - c.min-first.result) (drop c.min-first.result c.args.old.now)) (take (c.min-end.result - c.min-first.result) (drop c.min-first.result c.args.new.now))).0 (sym c.eq.ensures ∙ c.if-eq.true))

pub returns-else-eq-clause-places : goal.returns-else-eq-clause-places
returns-else-eq-clause-places c =
    within_length c.args.old.now c.args.new.now c.args.places.start c.args.places.end c.min-first.result c.min-end.result c.requires.lengths c.requires.alike (omega arith) (omega arith)
