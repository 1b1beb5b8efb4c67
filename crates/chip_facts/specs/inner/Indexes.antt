-- Sets of values of I: address a is number a, and the last number stands for all values past the memory.
use Rattle.std.specs.Prelude.{ℕ, List, min}
use Rattle.chip_facts.specs.Sets.{Holds}

abbrev pub HoldsIndex : List ℕ → ℕ → Type 0
HoldsIndex set i = Holds set (min i 4096)
