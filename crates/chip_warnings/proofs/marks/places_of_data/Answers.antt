use Rattle.std.proofs.Common.{◌∙◌, ◌||◌, ap, false, get_or, nat_lt, slice_index, sym}
use Rattle.chip_lang.specs.declared.limits.TheConstants.{MEMORY_BYTES}
use Rattle.chip_warnings.specs.declared.seen.Says.TheVariants.{Nothing}
use Rattle.chip_warnings.specs.declared.seen.Seen.{Seen}
use Rattle.chip_warnings.specs.Marked.{is_data_at}
use Rattle.chip_warnings.proofs.Flags.{none-there, noted-next, written-back}
use Rattle.chip_warnings.proofs.marks.places_of_data.Goals as goal

pub loop-index-init : goal.loop-index-init
loop-index-init c = record {
  size = c.in_ok-numbers.ensures.len;
  set = λ a. ap (λ l. nat_lt 0 (slice_index l a)) (c.in_ok-numbers.ensures.items_if_clones_equal (λ y e. e)) ∙ ap (nat_lt 0) (none-there MEMORY_BYTES a);
}

pub loop-index-preserved : goal.loop-index-preserved
loop-index-preserved c =
    let d : Seen = record { number = 0; address = 0; begins = false; unused = false; says = Nothing } in
    record {
      size = c.loop-index.invariant.size;
      set = noted-next (λ l a. nat_lt 0 (slice_index l a)) is_data_at c.args.lines.now c.loop-index.index d c.loop-index.numbers.items c.note_data.new.numbers _ c.loop-index-test.true c.loop-index.invariant.set
          (λ a. c.note_data.ensures.set a ∙ ap (λ l. nat_lt 0 (slice_index l a) || is_data_at a (get_or c.args.lines.now c.loop-index.index d)) c.deref_mut.ensures.value)
          (written-back c.loop-index.numbers.len c.note_data.new.numbers c.loop-index.numbers.items (c.loop-index.invariant.size ∙ sym c.note_data.ensures.size));
    }
