use Rattle.std.proofs.Common.{◌≡◌, ◌∙◌, ◌-◌, ◌<◌, ◌++◌, ◌∷◌, [], All, List, ℤ, None, Option, Some, ap, sym, subst, arith, length, length-append, length-set, take, slice_get}
use Rattle.std.proofs.lemmas.List.{get_or_append_left}
use Rattle.chip_symbols.specs.declared.table.Entry.{Entry}
use Rattle.chip_symbols.specs.inner.Entries.{AreDefined}
use Rattle.chip_symbols.proofs.SymbolSteps.{defined-less, front-less, last-of, past-next}
use Rattle.chip_symbols.proofs.table.take_back.Goals as goal

pub loop-entry-preserved : goal.loop-entry-preserved
loop-entry-preserved c =
    let es : List Entry = c.loop-entry.entries.items in
    let vs : List (Option ℤ) = c.loop-entry.values.current in
    let e : Entry = c.in-Some.entry.now in
    let next : List Entry = c.pop.new.self.items in
    let at : Some e ≡ slice_get es (length es - 1)
    = subst (λ (xs : List Entry). Some c.in-Some.entry.now ≡ slice_get xs (length xs - 1)) c.deref.ensures.value c.in-Some.ensures.value in
    let is : es ≡ next ++ e ∷ []
    = last-of es e at ∙ ap (λ n. take (n - 1) es ++ e ∷ []) (sym c.loop-entry.entries.ok.0) ∙ ap (λ (xs : List Entry). xs ++ e ∷ []) (sym c.pop.ensures.rest) in
    let all : All (λ (x : Entry). x.id.number < length vs) (next ++ e ∷ []) = rw (← is) c.loop-entry.invariant.inside in
    let long = length-set vs e.id.number None in record {
      inside = λ k x h. (let low = all k x (omega (arith, h, length-append next (e ∷ []))) in omega (arith, long, ap length c.set.ensures.now, subst (λ (y : Entry). y.id.number < length vs) (get_or_append_left next (e ∷ []) x k h) low));
      defined = λ keys apart was.
          rw c.set.ensures.now (defined-less keys next vs e apart (subst (λ xs. AreDefined keys xs vs) is (c.loop-entry.invariant.defined keys apart was)));
      past = c.set.ensures.past ∙ c.loop-entry.invariant.past;
      room = c.pop.ensures.capacity ∙ c.loop-entry.invariant.room;
      front = front-less es next c.args.entries.now.items e is c.loop-entry.invariant.front;
      stops = past-next c.args.number es next c.args.entries.now.items e is c.loop-entry.invariant.front c.if-entry-number.false;
    }
