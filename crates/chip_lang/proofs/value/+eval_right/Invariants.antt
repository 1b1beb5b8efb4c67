use Rattle.std.proofs.Common.{◌≡◌, ◌≤◌, ℤ, List, ◌∷◌, length}
use Rattle.chip_lang.specs.inner.LastValue.{last_value}
use Rattle.chip_lang.proofs.value.+eval_right.Given as goal

abbrev pub decreases-eval_right : goal.decreases-eval_right
decreases-eval_right g l = length l.items.now

abbrev pub invariant-loop-item : goal.invariant-loop-item
invariant-loop-item g l = record {
  same : (under : List ℤ) → last_value l.meanings.words.now (g.N.Names.symbols l.meanings.names.now) (l.fn.first ∷ l.left ∷ under) l.items
      ≡ last_value l.meanings.words.now (g.N.Names.symbols l.meanings.names.now) (l.right ∷ l.left ∷ under) l.rest;
  within : length l.rest ≤ length l.items;
}

abbrev pub decreases-loop-item : goal.decreases-loop-item
decreases-loop-item g l = length l.rest
