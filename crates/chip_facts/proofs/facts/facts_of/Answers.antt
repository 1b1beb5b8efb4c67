use Rattle.std.proofs.Common.{◌≡◌, List, Any, sym, refl, subst}
use Rattle.chip_facts.specs.declared.table.Row.{Row}
use Rattle.chip_facts.proofs.Closed.{one_of}
use Rattle.chip_facts.proofs.InRows.{in_some}
use Rattle.chip_facts.proofs.facts.facts_of.Goals as goal

pub returns : goal.returns
returns c = record {
  are = λ s reached.
      one_of c.in-Some.table c.args.quirks c.in_ok-executed.executed.items
      (λ pc at. c.in_ok-executed.ensures pc (subst (λ (rows : List Row). Any (λ row. pc ≡ row.pc) rows) (sym c.deref.ensures.value) at))
      s (c.in_ok-is_proof.ensures c.if-not-branch.false s reached);
  rows = λ s reached runs.
      in_some c.in-Some.table _ c.args.quirks refl refl s (c.in_ok-is_proof.ensures c.if-not-branch.false s reached) runs;
}
