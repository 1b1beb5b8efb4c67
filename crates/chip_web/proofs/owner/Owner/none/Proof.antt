-- `none` combines null with the given allocator. An owner without a session owns nothing else.
use Rattle.chip_web.proofs.Steps.{[], ◌∷◌, ◌++◌, List, refl, sym, subst, Ura, Val, vnull, vstruct, vcons, vnil, SProp, ent, emp, id⊢, ftrue, fsep, Fun, tables, tables_of, Memory, Routine, WpFn, Tables, WpFn-mono, Logic, ⋆, Item, ‵, raw, ◌⊛◌, ◌$◌, ◌∵◌, !, qed, by, move, drop, use1, join, split, fsplit, fjoin, feq_i, fpack, suffices, done, agg, no_more, and_then, lit, returns, enter, alloc_all, pass_all, free_all, look_at, get, sets, yes, null_ptr, nothing, Valss, within, shape, fields, to, triple_of, entered, says, Stays, stay_dropped, walk_of, ends_at, Goes-dropped, walk_Meets, handle_tells, and_tt, lit<}
use Rattle.std.specs.Prelude.{None}
use Rattle.std_heap.specs.contracts.Global as Heap
use Rattle.chip_web.proofs.Types.{boxed, allocator as Taken}
use Rattle.chip_web.specs.contracts.owner.Owner as Owner
use Rattle.chip_web.specs.contracts.owner.Owner.none as contract
use Rattle.chip_web.specs.contracts.owner.Owner.none.Key.{name}
use Rattle.chip_web.proofs.owner.Owner.none.Statement.{statement}
use Rattle.chip_web.proofs.owner.Owner.none.Code as code

abbrev stayed : Stays contract.ended.signature.params contract.ended.kept
stayed = (stay_dropped Taken yes, tt)

module _ {M : Type 1} {𝓤 : Ura M} (𝓛 : Logic 𝓤) (at_mem : Memory → SProp 𝓤) (run : Routine → Fun 𝓤) (𝓣 : Tables 𝓤 𝓛.H) where
  open 𝓛 use {H}

  walk : (z : (walk_of 𝓛 contract.ended stayed (contract.clauses 𝓛 at_mem run)).Ghost)
      → ent 𝓤 ((walk_of 𝓛 contract.ended stayed (contract.clauses 𝓛 at_mem run)).pre z) (WpFn 𝓤 H 𝓣.C 𝓣.Λ code.function (z.0.4.0 ++ []) ((walk_of 𝓛 contract.ended stayed (contract.clauses 𝓛 at_mem run)).post z))
  walk z =
      let Post = (walk_of 𝓛 contract.ended stayed (contract.clauses 𝓛 at_mem run)).post z in
      let given = z.0.3.0 in
      let made : Owner.the_row.Denot = record { pointer = null_ptr; allocator = given; session = None } in
      qed 𝓛 ((‵ ftrue ⊛ ‵ (fsep (Heap.the_row.own_val given z.0.4.0) ftrue)) ∷ raw (emp 𝓤) ∷ []) ∵
      split ! $ drop ! $ fsplit ! $ move ! (1 ∷ 2 ∷ []) $ drop ! $ drop ! $
      handle_tells boxed.al ! given z.0.4.0 (λ held is fits.
      let pair = vstruct (vcons vnull (vcons held vnil)) in
      let Γ : List (Item 𝓤) = ‵ (Heap.the_row.own_val given (held ∷ [])) ∷ [] in
      by ! (subst (λ (words : List Val). ent 𝓤 (⋆ 𝓛 Γ) (WpFn 𝓤 H 𝓣.C 𝓣.Λ code.function (words ++ []) Post)) (sym is)
      (qed 𝓛 Γ ∵ enter ! 𝓣.C 𝓣.Λ code.function (held ∷ []) _ $ alloc_all ! (λ locals. pass_all ! refl (fits, tt) $
      sets ! (agg ! (and_then ! (lit ! tt) (and_then ! (get ! refl) (no_more !)))) refl (and_tt _ fits.0, (record { fits = lit< tt }, (fits.1, tt))) $
      returns ! (look_at ! 0 refl) $ free_all ! refl $
      -- [the allocator] becomes [the owner]
      nothing ! $ move ! (1 ∷ 0 ∷ []) $ fjoin ! $ feq_i ! (List Val) (vnull ∷ []) (vnull ∷ []) refl $ fjoin ! $
      feq_i ! (List Val) (pair ∷ []) (pair ∷ []) refl $ fjoin ! $
      fpack ! (Valss (fields Owner.the_type)) (within (shape Owner.the_type) (to Owner.the_type made) (pair ∷ [])) (vnull ∷ [], (held ∷ [], tt)) $
      nothing ! $ move ! (1 ∷ 0 ∷ []) $ fjoin ! $ use1 𝓛 (‵ (Owner.the_row.own_val made (pair ∷ []))) (id⊢ 𝓤 _) $
      suffices ! _ (ends_at 𝓛 contract.ended stayed (contract.clauses 𝓛 at_mem run) z pair made (tt, tt) (tt, tt)) $ says ! refl $
      nothing ! $ nothing ! $ fjoin ! $ join ! $ nothing ! $ join ! $ done !))))

pub none_spec : {M : Type 1} → statement M
unfolding tables_of
none_spec 𝓤 𝓛 𝓜 𝓡 wired =
    let 𝓣 : Tables 𝓤 𝓛.H = tables_of 𝓤 𝓛.H 𝓜 (tables 𝓤 𝓛.H 𝓜 𝓡 𝓡.env) in
    entered 𝓤 𝓛.H (triple_of 𝓛 contract.signature (contract.spec 𝓛 𝓜.mem 𝓡.returns)) 𝓣.C 𝓣.Λ name code.function (code.unfolded 𝓤 𝓛.H 𝓜 𝓡 wired)
    (walk_Meets 𝓛 contract.ended stayed (Goes-dropped 𝓛 0 Taken yes (λ lifetimes x words. refl), tt) (contract.clauses 𝓛 𝓜.mem 𝓡.returns) (WpFn 𝓤 𝓛.H 𝓣.C 𝓣.Λ code.function) (WpFn-mono 𝓤 𝓛.H 𝓛.laws 𝓣 code.function)
    (walk 𝓛 𝓜.mem 𝓡.returns 𝓣))
