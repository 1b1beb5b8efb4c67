-- `into_raw` moves two fields together with everything that the fields own, because the owner has a session.
use Rattle.chip_web.proofs.Steps.{[], ◌∷◌, ◌++◌, List, refl, sym, subst, Ura, Val, SProp, ent, id⊢, ftrue, fsep, Fun, tables, tables_of, Memory, Routine, WpFn, Tables, WpFn-mono, Logic, ⋆, Item, ‵, raw, ◌⊛◌, ◌$◌, ◌∵◌, !, qed, by, move, drop, use1, join, split, fsplit, fjoin, suffices, done, whole, sub, agg, stop, fld, no_more, and_then, of_opd, returns, enter, alloc_all, pass_all, free_all, look_at, get, get_in, sets, yes, type_at, nothing, heard, rewrite, fact, ◌≡◌, triple_of, entered, says, Stays, stay_dropped, walk_of, ends_at, Goes-dropped, walk_Meets, D, B, word, box_typed, box_out, box_in}
use Rattle.std.specs.Prelude.{Option, is_some, true}
use Rattle.chip_web.specs.contracts.owner.Owner as Owner
use Rattle.chip_web.proofs.Types.{boxed, there, owner as Taken}
use Rattle.chip_web.specs.contracts.owner.Owner.into_raw as contract
use Rattle.chip_web.specs.contracts.owner.Owner.into_raw.Key.{name}
use Rattle.chip_web.proofs.owner.Owner.into_raw.Statement.{statement}
use Rattle.chip_web.proofs.owner.Owner.into_raw.Code as code

abbrev stayed : Stays contract.ended.signature.params contract.ended.kept
stayed = (stay_dropped Taken yes, tt)

module _ {M : Type 1} {𝓤 : Ura M} (𝓛 : Logic 𝓤) (at_mem : Memory → SProp 𝓤) (run : Routine → Fun 𝓤) (𝓣 : Tables 𝓤 𝓛.H) where
  open 𝓛 use {H}

  walk : (z : (walk_of 𝓛 contract.ended stayed (contract.clauses 𝓛 at_mem run)).Ghost)
      → ent 𝓤 ((walk_of 𝓛 contract.ended stayed (contract.clauses 𝓛 at_mem run)).pre z) (WpFn 𝓤 H 𝓣.C 𝓣.Λ code.function (z.0.4.0 ++ []) ((walk_of 𝓛 contract.ended stayed (contract.clauses 𝓛 at_mem run)).post z))
  walk z =
      let Post = (walk_of 𝓛 contract.ended stayed (contract.clauses 𝓛 at_mem run)).post z in
      let owner = z.0.3.0 in
      let Made = type_at contract.signature.result tt in
      qed 𝓛 ((‵ ftrue ⊛ ‵ (fsep (Owner.the_row.own_val owner z.0.4.0) ftrue)) ∷ raw (fact 𝓤 (is_some owner.session ≡ true)) ∷ []) ∵
      split ! $ drop ! $ fsplit ! $ move ! (2 ∷ []) $ heard ! (is_some owner.session ≡ true) (λ is_there.
      let found = there owner.session is_there in
      let held : D boxed = record { ptr = owner.pointer; alloc = owner.allocator; value = found.0 } in
      let made : Made.Denot = record { pointer = held.ptr; allocator = held.alloc; value = held.value } in
      rewrite ! 0 (λ (session : Option boxed.row.Denot). ‵ (Owner.the_row.own_val (record owner { session = session }) z.0.4.0)) found.1 refl $
      use1 𝓛 (‵ ((B boxed).own_val held z.0.4.0)) (id⊢ 𝓤 _) $
      box_out boxed ! held z.0.4.0 (λ block offset heap at is fits. box_in boxed ! held block offset held.value at refl $
      let pair = word boxed heap block offset in
      use1 𝓛 (‵ (Made.own_val made (pair ∷ []))) (id⊢ 𝓤 _) $ move ! (1 ∷ []) $ drop ! $
      let Γ : List (Item 𝓤) = ‵ (Made.own_val made (pair ∷ [])) ∷ [] in
      by ! (subst (λ (words : List Val). ent 𝓤 (⋆ 𝓛 Γ) (WpFn 𝓤 H 𝓣.C 𝓣.Λ code.function (words ++ []) Post)) (sym is)
      (qed 𝓛 Γ ∵ enter ! 𝓣.C 𝓣.Λ code.function (pair ∷ []) _ $
      alloc_all ! (λ locals. pass_all ! refl (box_typed boxed heap block offset fits, tt) $
      sets ! (of_opd ! (get_in ! (fld ! refl (stop !)) (sub ! 0 refl (whole !)))) refl (tt, tt) $
      sets ! (of_opd ! (get_in ! (fld ! refl (stop !)) (sub ! 1 refl (whole !)))) refl fits $
      sets ! (of_opd ! (get ! refl)) refl (tt, tt) $
      sets ! (agg ! (and_then ! (get ! refl) (and_then ! (get ! refl) (no_more !)))) refl (box_typed boxed heap block offset fits) $
      returns ! (look_at ! 0 refl) $ free_all ! refl $
      suffices ! _ (ends_at 𝓛 contract.ended stayed (contract.clauses 𝓛 at_mem run) z pair made (tt, tt) (tt, tt)) $ says ! (sym found.1) $
      nothing ! $ nothing ! $ fjoin ! $ join ! $ nothing ! $ join ! $ done !)))))

pub into_raw_spec : {M : Type 1} → statement M
unfolding tables_of
into_raw_spec 𝓤 𝓛 𝓜 𝓡 wired =
    let 𝓣 : Tables 𝓤 𝓛.H = tables_of 𝓤 𝓛.H 𝓜 (tables 𝓤 𝓛.H 𝓜 𝓡 𝓡.env) in
    entered 𝓤 𝓛.H (triple_of 𝓛 contract.signature (contract.spec 𝓛 𝓜.mem 𝓡.returns)) 𝓣.C 𝓣.Λ name code.function (code.unfolded 𝓤 𝓛.H 𝓜 𝓡 wired)
    (walk_Meets 𝓛 contract.ended stayed (Goes-dropped 𝓛 0 Taken yes (λ lifetimes x words. refl), tt) (contract.clauses 𝓛 𝓜.mem 𝓡.returns) (WpFn 𝓤 𝓛.H 𝓣.C 𝓣.Λ code.function) (WpFn-mono 𝓤 𝓛.H 𝓛.laws 𝓣 code.function)
    (walk 𝓛 𝓜.mem 𝓡.returns 𝓣))
