use Rattle.std.proofs.Common.{arith, ◌≡◌, ◌∙◌, ◌++◌, ◌∷◌, ◌+◌, [], ap, sym, append_assoc, map, ℕ, true, List, zero-add}
use Rattle.std.specs.Prelude.{nat_lt}
use Rattle.std.specs.List.{range_with_len}
use Rattle.std.proofs.lemmas.Bool.{lt-ltb}
use Rattle.std.proofs.lemmas.List.FromFn.{map-range_with_len_more}
use Rattle.chip_trace.specs.declared.column.Column.{Column}
use Rattle.chip_trace.specs.declared.column.Column.TheVariants.{Register}
use Rattle.chip_trace.proofs.columns.push_registers.Goals as goal
use Rattle.chip_trace.proofs.columns.push_registers.Goals.{in-Some+in_ok-push, in_default}

-- one more register
one_more : (front columns : List Column) (n r : ℕ) → columns ≡ front ++ map (λ x. Register x) (range_with_len 0 n) → r ≡ n →
    columns ++ Register r ∷ [] ≡ front ++ map (λ x. Register x) (range_with_len 0 (n + 1))
one_more front columns n r is same =
    rw (is, same) (append_assoc front (map (λ x. Register x) (range_with_len 0 n)) (Register n ∷ [])
    ∙ ap (λ xs. front ++ xs) (sym (map-range_with_len_more (λ x. Register x) 0 n n (zero-add n))))

pub loop-number-preserved : goal.loop-number-preserved
loop-number-preserved c =
    let below : nat_lt c.loop-number.number 16 ≡ true = lt-ltb c.loop-number.number 16 c.loop-number-test.true in
    elim c.match-new.branch [
      | in-Some+in_ok-push w ↦
          let number : w.in-Some.register ≡ c.loop-number.number = grind arith in
          rw (w.columns-is, w.in_ok-push.ensures.items) (one_more c.args.columns.now.items c.loop-number.columns.items c.loop-number.number w.in-Some.register c.loop-number.invariant number)
      | in_default w ↦ absurd (grind arith)
    ]
