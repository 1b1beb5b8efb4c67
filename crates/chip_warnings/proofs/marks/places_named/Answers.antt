use Rattle.std.proofs.Common.{◌∙◌, ◌||◌, ap, sym}
use Rattle.chip_lang.specs.declared.limits.TheConstants.{MEMORY_BYTES}
use Rattle.chip_warnings.specs.Marked.{is_among, names_at}
use Rattle.chip_warnings.specs.inner.Noted.{flag}
use Rattle.chip_warnings.proofs.Flags.{none-set, noted-next, written-back}
use Rattle.chip_warnings.proofs.marks.places_named.Goals as goal

pub loop-seen-init : goal.loop-seen-init
loop-seen-init c = record {
  size = c.in_ok-flags.ensures.len;
  set = λ a. ap (λ l. flag l a) (c.in_ok-flags.ensures.items_if_clones_equal (λ y e. e)) ∙ none-set MEMORY_BYTES a;
}

pub loop-seen-preserved : goal.loop-seen-preserved
loop-seen-preserved c = record {
  size = c.loop-seen.invariant.size;
  set = noted-next flag (names_at c.args.naming) c.args.lines.now c.loop-seen.seen-index _ c.loop-seen.flags.items c.mark.new.flags _ c.loop-seen-test.true c.loop-seen.invariant.set
      (λ a. c.mark.ensures.set a ∙ (λ j. flag (c.deref_mut.ensures.value j) a || is_among (c.target.ensures.value j) (c.places_of.ensures.value j) a))
      (written-back c.loop-seen.flags.len c.mark.new.flags c.loop-seen.flags.items (c.loop-seen.invariant.size ∙ sym c.mark.ensures.size));
}
