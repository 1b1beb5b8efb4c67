-- Consecutive addresses.
use Rattle.std.proofs.Common.{◌≡◌, ℕ, ◌+◌, ◌<◌, ◌≤◌, ◌++◌, List, All, arith, sym, subst}
use Rattle.std.proofs.lemmas.List.Elements.{All-append}
use Rattle.std.proofs.lemmas.List.FromFn.{get_or-range_with_len, length-range_with_len}
use Rattle.std.specs.List.{range_with_len}
use Rattle.chip_lang.specs.declared.limits.TheConstants.{MEMORY_BYTES}

-- consecutive addresses that end within the memory
span_in_memory : (at count : ℕ) → at + count ≤ MEMORY_BYTES → All (λ a. a < MEMORY_BYTES) (range_with_len at count)
span_in_memory at count fits = λ k d h. let inside : k < count = rw (← length-range_with_len at count) h in rw (get_or-range_with_len at count k d inside) (omega arith)

-- addresses in the memory, followed by consecutive addresses within it
pub addresses_more : (all before : List ℕ) (at count : ℕ) → all ≡ before ++ range_with_len at count → at + count ≤ MEMORY_BYTES → All (λ a. a < MEMORY_BYTES) before → All (λ a. a < MEMORY_BYTES) all
addresses_more all before at count e fits held =
    subst (All (λ a. a < MEMORY_BYTES)) (sym e) (All-append (λ a. a < MEMORY_BYTES) before (range_with_len at count) held (span_in_memory at count fits))
