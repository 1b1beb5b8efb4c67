use Rattle.std.proofs.Common.{◌≡◌, ℕ, ◌<◌, ◌∙◌, length, get_or, sym, subst, refl}
use Rattle.std.proofs.lemmas.Bool.{ltb-true}
use Rattle.chip_facts.proofs.table.Table.has_row.Goals as goal

pub returns-then-is_within : goal.returns-then-is_within
returns-then-is_within c = λ _ core next.
    let number : ℕ = get_or c.args.leads.now c.loop-number.number-index 0 in
    let found = c.in-Some.ensures.lookup in
    let rows = c.deref.ensures.value in (
      number,
      c.in-Some.row.now,
      subst (λ xs. number < length xs) rows (ltb-true _ _ (sym found.0)),
      sym (subst (λ xs. c.in-Some.row.now ≡ get_or xs number c.in-Some.row.now) rows found.1),
      record {
        pc_is = next.pc ∙ sym c.if-row-successor.true;
        frames_are = next.frames_are ∙ sym (c.if-are_frames.ensures refl) ∙ c.deref-then-row-successor.ensures.value;
        known = c.if-is_within.ensures refl core next.known;
      },
    )
