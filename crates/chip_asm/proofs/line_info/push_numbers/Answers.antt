use Rattle.std.proofs.Common.{◌≡◌, ◌∙◌, ◌++◌, ◌∷◌, [], List, ap, sym, subst, refl, None, Some, slice_get, drop}
use Rattle.std.proofs.lemmas.List.{append-nil, append_assoc}
use Rattle.chip_symbols.specs.Names.{Name}
use Rattle.chip_symbols.specs.declared.table.NameId.{NameId}
use Rattle.chip_symbols.specs.Tables.{AreNumbers}
use Rattle.chip_asm.proofs.InfoSteps.{extends-through, numbers-push}
use Rattle.chip_asm.proofs.line_info.push_numbers.Goals as goal

first-of : (names rest : List Name) (name : Name) → Some name ≡ slice_get names 0 → rest ≡ drop 1 names → name ∷ rest ≡ names
first-of [] rest name h e = cc
first-of (x ∷ xs) rest name h e = cc

none-left : (names : List Name) → None ≡ slice_get names 0 → names ≡ []
none-left [] h = refl
none-left (x ∷ xs) h = cc

pub loop-name-preserved : goal.loop-name-preserved
loop-name-preserved c = record {
  are = λ front a. (
      let d = c.loop-name.invariant.are front a in
      let name : Name = c.in-Some.name.now in
      let rest : List Name = c.next.new.self in (
        d.0 ++ name ∷ [],
        subst (λ (xs : List NameId). AreNumbers c.number.new.self.keys xs (d.0 ++ name ∷ [])) (sym c.in_ok-push.ensures.items)
            (numbers-push c.loop-name.table.keys c.number.new.self.keys c.loop-name.numbers.items d.0 c.in_ok-id.id name c.number.ensures.keys d.1 c.in_ok-id.ensures.id),
        append_assoc d.0 (name ∷ []) rest ∙ ap (λ ns. d.0 ++ ns) (first-of c.loop-name.names rest name c.in-Some.ensures.next c.next.ensures.rest) ∙ d.2,
      ));
  keys = extends-through c.args.table.now.keys c.loop-name.table.keys c.number.new.self.keys c.loop-name.invariant.keys c.number.ensures.keys;
  symbols = c.number.ensures.symbols ∙ c.loop-name.invariant.symbols;
  before = c.number.ensures.before ∙ c.loop-name.invariant.before;
}

pub returns-clause-are : goal.returns-clause-are
returns-clause-are c = λ front a.
    let d = c.loop-name.invariant.are front a in
    let whole = ap (λ ns. d.0 ++ ns) (sym (none-left c.loop-name.names c.in_default.ensures.next)) ∙ d.2 in
    subst (AreNumbers c.loop-name.table.keys c.loop-name.numbers.items) (sym (append-nil d.0) ∙ whole) d.1
