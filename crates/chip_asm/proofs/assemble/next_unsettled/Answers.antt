use Rattle.std.proofs.Common.{◌∙◌, Some, ap, arith, below_more, rules, sym}
use Rattle.std.proofs.lemmas.Option.{get_or_from_slice_get, slice_get-get_or}
use Rattle.chip_asm.specs.inner.Placements.{nothing}
use Rattle.chip_asm.proofs.LinesAfter.{read-at}
use Rattle.chip_asm.proofs.assemble.next_unsettled.Goals as goal

pub is_settled-requires : goal.is_settled-requires
is_settled-requires c = let n = c.requires.notes in (n.0, (search (rules, n.1.0), n.1.1))

pub loop-place-preserved : goal.loop-place-preserved
loop-place-preserved c =
    let i = c.loop-place.invariant in
    let place = c.loop-place.place in
    let kept = c.index-lines-place.result in
    record {
      after = omega arith;
      within = omega arith;
      settled = λ names infos notes. below_more _ place (i.settled names infos notes)
          (λ from line q at noted.
          (let here = read-at c.args.lines.now place kept line (slice_get-get_or c.args.lines.now place kept (omega arith) ∙ ap Some (sym c.index-lines-place.is)) at in
          let is = get_or_from_slice_get c.args.placements.now place q nothing noted in
          ((rw (← is) (c.is_settled.ensures.done c.if-is_settled.true)), (rw (← here) (c.is_settled.ensures.same names (search rules) notes c.if-is_settled.true)))));
    }
