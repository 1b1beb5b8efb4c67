use Rattle.std.proofs.Common.{◌≡◌, ◌∙◌, ◌<◌, [], ◌∷◌, List, length, Option, option_copied, None, Some, ap, drop, sym, subst, refl, is_some, false, not, slice_get}
use Rattle.std.specs.Borrow.{Bor}
use Rattle.std.proofs.lemmas.List.Elements.{All-cons, All-nil}
use Rattle.chip_lang.specs.SeenLine.{seen_line}
use Rattle.chip_lang.specs.Uses.{names_used}
use Rattle.chip_symbols.specs.Names.{Name}
use Rattle.chip_symbols.specs.Tables.{AreNumbers, IsNumber}
use Rattle.chip_symbols.specs.declared.table.NameId.{NameId}
use Rattle.chip_asm.proofs.InfoSteps.{no-numbers}
use Rattle.chip_asm.proofs.line_info.uses_of.Goals as goal

no-first : (names all : List Name) → names ≡ all → None ≡ slice_get names 0 → [] ≡ all
no-first [] all e h = e
no-first (x ∷ xs) all e h = cc

one-use : (names all rest : List Name) (name : Name) → names ≡ all → Some name ≡ slice_get names 0 → rest ≡ drop 1 names → None ≡ slice_get rest 0 → name ∷ [] ≡ all
one-use [] all rest name is h e k = cc
one-use (x ∷ []) all rest name is h e k = cc
one-use (x ∷ y ∷ ys) all rest name is h e k = let second : None ≡ Some y = k ∙ ap (λ (ns : List Name). slice_get ns 0) e in cc

copied-none : {X : Type 0} (r : Option (Bor X)) → is_some r ≡ false → None ≡ option_copied r
copied-none None h = refl
copied-none (Some x) h = cc

pub returns-in_default-clause-are : goal.returns-in_default-clause-are
returns-in_default-clause-are c = record {
  within = All-nil (λ (id : NameId). id.number < length c.match-line.table.keys);
  named = no-first c.used_names-names.result (names_used (seen_line c.args.line.now)) c.used_names-names.ensures c.in_default.ensures.next;
}

pub returns-then-is_none-clause-are : goal.returns-then-is_none-clause-are
returns-then-is_none-clause-are c =
    let keys : List Name = c.number-then-is_none.new.self.keys in
    let one : IsNumber keys c.in_ok-id-2.id c.in-Some.name.now = c.in_ok-id-2.ensures.id in
    let only : c.in-Some.name.now ∷ [] ≡ names_used (seen_line c.args.line.now)
    = one-use c.used_names-names.result (names_used (seen_line c.args.line.now)) c.next.new.self c.in-Some.name.now c.used_names-names.ensures c.in-Some.ensures.next c.next.ensures.rest
    (copied-none c.next-2.result (c.is_none.ensures ∙ ap not c.if-is_none.true) ∙ c.next-2.ensures.next) in record {
      within = All-cons (λ (id : NameId). id.number < length keys) c.in_ok-id-2.id [] one.within (All-nil (λ (id : NameId). id.number < length keys));
      named = ap (λ (n : Name). n ∷ []) one.named ∙ only;
    }

pub returns-clause-are : goal.returns-clause-are
returns-clause-are c =
    subst (AreNumbers c.push_numbers.new.table.keys c.push_numbers.new.numbers.items) c.used_names.ensures
    (c.in_ok-push_numbers.ensures.are [] (subst (λ (ids : List NameId). AreNumbers c.args.table.now.keys ids []) (sym c.new-numbers.ensures.items) (no-numbers c.args.table.now.keys)))
