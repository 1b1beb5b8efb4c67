use Rattle.std.proofs.Common.{◌≡◌, ℕ, take, vec_len}
use Rattle.std.specs.List.{list_any}
use Rattle.chip_lang.specs.declared.limits.TheConstants.{MEMORY_BYTES}
use Rattle.chip_warnings.specs.Marked.{names_at}
use Rattle.chip_warnings.specs.inner.Noted.{flag}
use Rattle.chip_warnings.proofs.marks.places_named.Given as goal

abbrev pub invariant-loop-seen : goal.invariant-loop-seen
invariant-loop-seen l = record {
  size : vec_len l.flags ≡ MEMORY_BYTES;
  set : (a : ℕ) → flag l.flags.items a ≡ list_any (names_at l.naming a) (take l.seen-index l.lines);
}
