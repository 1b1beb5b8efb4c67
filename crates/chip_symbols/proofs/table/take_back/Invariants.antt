use Rattle.std.proofs.Common.{◌≡◌, ◌<◌, List, All, length, vec_capacity}
use Rattle.chip_symbols.specs.Names.{Name}
use Rattle.chip_symbols.specs.declared.table.Entry.{Entry}
use Rattle.chip_symbols.specs.inner.Entries.{AreApart, AreDefined, IsFront, IsPastNext}
use Rattle.chip_symbols.proofs.table.take_back.Given as goal

abbrev pub invariant-loop-entry : goal.invariant-loop-entry
invariant-loop-entry l = record {
  inside : All (λ (e : Entry). e.id.number < length l.values.current) l.entries.items;
  defined : (keys : List Name) → AreApart keys → AreDefined keys l.fn.entries.items l.fn.values.current → AreDefined keys l.entries.items l.values.current;
  past : l.values.past ≡ l.fn.values.past;
  room : vec_capacity l.entries ≡ vec_capacity l.fn.entries;
  front : IsFront l.entries.items l.fn.entries.items;
  stops : IsPastNext l.number l.entries.items l.fn.entries.items;
}

abbrev pub decreases-loop-entry : goal.decreases-loop-entry
decreases-loop-entry l = length l.entries.items
