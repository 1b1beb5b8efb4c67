use Rattle.std.proofs.Common.{◌≡◌, [], ◌∷◌, length}
use Rattle.chip_lang.specs.inner.LastValue.{last_value}
use Rattle.chip_lang.proofs.value.eval_items.Given as goal

abbrev pub invariant-loop-rest : goal.invariant-loop-rest
invariant-loop-rest g l = last_value l.meanings.words.now (g.N.Names.symbols l.meanings.names.now) [] l.items ≡ last_value l.meanings.words.now (g.N.Names.symbols l.meanings.names.now) (l.top ∷ []) l.rest

abbrev pub decreases-loop-rest : goal.decreases-loop-rest
decreases-loop-rest g l = length l.rest
