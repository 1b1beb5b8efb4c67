use Rattle.std.proofs.Common.{◌≡◌, ℕ, nat_lt, slice_index, take, vec_len}
use Rattle.std.specs.List.{list_any}
use Rattle.chip_lang.specs.declared.limits.TheConstants.{MEMORY_BYTES}
use Rattle.chip_warnings.specs.Marked.{is_data_at}
use Rattle.chip_warnings.proofs.marks.places_of_data.Given as goal

abbrev pub invariant-loop-index : goal.invariant-loop-index
invariant-loop-index l = record {
  size : vec_len l.numbers ≡ MEMORY_BYTES;
  set : (a : ℕ) → nat_lt 0 (slice_index l.numbers.items a) ≡ list_any (is_data_at a) (take l.index l.lines);
}
