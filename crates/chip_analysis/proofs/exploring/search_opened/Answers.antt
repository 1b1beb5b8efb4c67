use Rattle.std.proofs.Common.{inl, inr, sym, refl, ◌∙◌, length}
use Rattle.std.specs.Prelude.{option_copied}
use Rattle.chip_host.specs.Printing.{printed, printed_faults}
use Rattle.chip_host.specs.declared.ending.Ending.TheVariants.{Done}
use Rattle.chip_analysis.proofs.ExcludingLemmas.{are_left}
use Rattle.chip_analysis.proofs.exploring.search_opened.Goals as goal

pub returns-in_default : goal.returns-in_default
returns-in_default g c = rw (sym c.in_default.ensures.value) (c.deliver.ensures.wanted (printed_faults c.args.source.now.lines) c.faults.ensures)

-- facts exclude what is looked for
pub returns : goal.returns
returns g c =
    let asks = rw (sym c.deref.ensures.value) at c.in_ok-properties.ensures.ok in
    let holds = rw c.in-Some-facts.is at c.facts_within-facts.ensures in
    let never = c.excludes.ensures c.if-excludes.true c.in-Some.image.now c.quirks.result holds in
    rw (sym c.in-Some.ensures.value) (inl (
      c.deref.result,
      asks,
      rw (sym c.in-Some-target_of.ensures) (inl (
        rw (sym c.quirks.ensures) never,
        inl (
          printed c.deref-2.result.now Done,
          record { rows = length c.rows.result.now; text = c.deref-2.ensures.value ∙ c.in_ok-text.ensures; ending = refl },
          c.print.ensures,
        ),
      )),
    ))

-- a search answers
pub returns-2 : goal.returns-2
returns-2 g c =
    let asks = rw (sym c.deref.ensures.value) at c.in_ok-properties.ensures.ok in
    rw (sym c.in-Some.ensures.value) (inl (
      c.deref.result,
      asks,
      rw (sym c.in-Some-target_of.ensures) (inr (
        option_copied c.left_of-left.result,
        rw (sym c.quirks.ensures) (are_left c.in-Some.image.now c.quirks.result c.facts_within-facts.result (option_copied c.left_of-left.result) c.facts_within-facts.ensures c.left_of-left.ensures),
        rw (sym c.rate.ensures.value, sym c.tape.ensures.value, sym c.quirks-2.ensures, sym c.in_ok-start.ensures) c.carry_out.ensures.searched,
      )),
    ))
