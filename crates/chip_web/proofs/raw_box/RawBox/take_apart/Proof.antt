-- `take_apart` passes the box to std. The returned pointer and allocator own what the box owned.
use Rattle.chip_web.proofs.Steps.{[], ◌∷◌, ◌++◌, ◌≡◌, ◌∙◌, List, refl, sym, subst, ap, Ura, Fn, Args, Dict, a_type, dcons, dnil, inst_fn, untyped, Val, vstruct, of_list, SProp, ent, id⊢, never, fst∗, ftrue, fsep, flft, ◌⊑◌, Fun, fact, tables, tables_of, Memory, Routine, WpFn, Tables, fm_of, WpFn-mono, Logic, sem, ⋆, Item, ‵, raw, ◌⊛◌, some, later, ◌$◌, ◌∵◌, !, qed, by, move, drop, use1, join, split, split3, pick, rewrite, fsplit, fjoin, fpick, feq_l, suffices, await, done, whole, sub, agg, stop, fld, no_more, and_then, of_opd, returns, enter, alloc_all, pass_all, free_all, look_at, get, get_in, sets, lands_as, RattleType, no, bounded, Ptr, RawPtr, block_ptr, null_ptr, ptr_val, in_a_block, plain, heard, nothing, only, Tuple, calls_at, Ended, Clauses, triple_of, Triple, Contract, entered, says, Stays, stay_dropped, walk_of, ends_at, walk_Meets, token, handle_tells, Goes-blank, box_owns, Bx, D, τ, R, P, B, word, box_typed, box_out, box_in}
use Rattle.std_alloc.specs.contracts.boxed.Box.into_raw_with_allocator as Opening
use Rattle.std_alloc.proofs.boxed.Box.into_raw_with_allocator.Symbol as opening_symbol
use Rattle.std_alloc.proofs.boxed.Box.into_raw_with_allocator.Met as opening
use Rattle.chip_web.specs.contracts.raw_box.RawBox as RawBox
use Rattle.chip_web.specs.contracts.raw_box.RawBox.take_apart as contract
use Rattle.chip_web.specs.contracts.raw_box.RawBox.take_apart.Key.{name}
use Rattle.chip_web.proofs.raw_box.RawBox.take_apart.Statement.{statement}
use Rattle.chip_web.proofs.raw_box.RawBox.take_apart.Code as code

-- for a box, and the drop of its contents
module _ (E : Bx) (drops : Dict) where
  abbrev given : Args
  given = bounded (a_type ∷ a_type ∷ []) (E.row, (E.al.row, tt)) (dcons E.al.d (dcons E.al.drops (dcons drops dnil)))

  abbrev function : Fn
  function = inst_fn given code.function

  abbrev ended : Ended
  ended = contract.ended E.row E.al.row E.al.g E.al.d E.al.drops drops

  abbrev stayed : Stays ended.signature.params ended.kept
  stayed = (stay_dropped (plain (λ _. B E)) no, tt)

  abbrev Made : RattleType
  Made = RawBox.the_row (R E) (P E) E.al.g

  module _ {M : Type 1} {𝓤 : Ura M} (𝓛 : Logic 𝓤) (at_mem : Memory → SProp 𝓤) (run : Routine → Fun 𝓤) (𝓣 : Tables 𝓤 𝓛.H) where
    open 𝓛 use {H}

    abbrev clauses : Clauses 𝓤 ended
    clauses = contract.clauses E.row E.al.row E.al.g E.al.d E.al.drops drops 𝓛 at_mem run

    abbrev Opens : Contract 𝓤
    Opens = triple_of 𝓛 (Opening.signature E.row E.al.row E.al.g E.al.d E.al.drops drops) (Opening.spec E.row E.al.row E.al.g E.al.d E.al.drops drops 𝓛 at_mem run)

    walk : Triple 𝓤 (𝓣.C (opening_symbol.name given)) Opens
        → (z : (walk_of 𝓛 ended stayed clauses).Ghost) → ent 𝓤 ((walk_of 𝓛 ended stayed clauses).pre z) (WpFn 𝓤 H 𝓣.C 𝓣.Λ function (z.0.4.0 ++ []) ((walk_of 𝓛 ended stayed clauses).post z))
    walk opens z =
        let κs = z.0.0 in let qs = z.0.1 in let taken = z.0.3.0 in let x = taken.value in let a = taken.alloc in
        let Post = (walk_of 𝓛 ended stayed clauses).post z in
        let tokens : Item 𝓤 = ‵ (flft κs.0 qs.0) ⊛ ‵ (flft κs.1.0 qs.1.0) ⊛ ‵ ftrue in
        let bounds : Item 𝓤 = raw (fact 𝓤 (κs.0 ⊑ E.row.lives)) ⊛ raw (fact 𝓤 (κs.1.0 ⊑ E.al.row.lives)) ⊛ ‵ ftrue in
        qed 𝓛 ((tokens ⊛ ‵ (fsep ((B E).own_val taken z.0.4.0) ftrue)) ∷ bounds ∷ []) ∵ split ! $ move ! (1 ∷ []) $ fsplit ! $
        box_out E ! taken z.0.4.0 (λ block offset heap at is fits. box_in E ! taken block offset x at refl $
        let pair = word E heap block offset in
        let call : Opens.Ghost = ((κs, qs, tt, (taken, tt), (pair ∷ [], tt)), tt) in
        let Γ : List (Item 𝓤) = ‵ ((B E).own_val taken (pair ∷ [])) ∷ ‵ ftrue ∷ tokens ∷ bounds ∷ [] in
        by ! (subst (λ (words : List Val). ent 𝓤 (⋆ 𝓛 Γ) (WpFn 𝓤 H 𝓣.C 𝓣.Λ function (words ++ []) Post)) (sym is)
        (qed 𝓛 Γ ∵ enter ! 𝓣.C 𝓣.Λ function (pair ∷ []) _ $
        alloc_all ! (λ locals. pass_all ! refl (box_typed E heap block offset fits, tt) $
        sets ! (of_opd ! (get ! refl)) refl (box_typed E heap block offset fits) $
        -- [what the call requires]
        fjoin ! $ move ! (1 ∷ 0 ∷ []) $ join ! $ join ! $ use1 𝓛 (raw (Opens.pre call)) (id⊢ 𝓤 _) $
        calls_at ! (fm_of 𝓤 H 𝓛.laws 𝓣) Opens opens call (and_then ! (get ! refl) (no_more !)) (λ answer.
        use1 𝓛 (later (some (λ (r : Ptr × E.al.row.Denot).
        (tokens ⊛ ‵ ((Tuple (RawPtr ∷ P E ∷ [])).own_val r (answer ∷ []))) ⊛ some (λ (_ : (Unit {0} × (Unit {0} × Unit {0})) × Unit {0}).
        ‵ (fsep (fsep ftrue (fsep ftrue ftrue)) ftrue) ⊛ (raw (fact 𝓤 (r.1 ≡ a)) ⊛ ‵ (box_owns (token E.al a) (R E) r.0 x)))))) (id⊢ 𝓤 _) $
        await ! tt $ pick ! (λ r. split ! $ move ! (1 ∷ []) $ pick ! (λ _. split3 ! $ drop ! $ heard ! (r.1 ≡ a) (λ same.
        in_a_block ! r.0 (λ p. box_owns (token E.al a) (R E) p x) (fst∗ 𝓤 (never 𝓤) (sem 𝓛 (token E.al a (untyped (τ E)) null_ptr))) (λ block' offset' at'.
        -- the returned tuple, field by field
        move ! (1 ∷ []) $ split ! $ move ! (1 ∷ []) $ fpick ! (λ words. fsplit ! $ feq_l ! (λ whole_is. fsplit ! $ feq_l ! (λ pointer_is. fsplit ! $
        rewrite ! 0 (λ (s : E.al.row.Denot). ‵ (E.al.row.own_val s words.1.0)) same refl $ handle_tells E.al ! a words.1.0 (λ heap' heap_is fits'.
        let value : D E = record { ptr = block_ptr block' offset'; alloc = a; value = x } in
        let made : Made.Denot = record { pointer = block_ptr block' offset'; allocator = a; value = x } in
        let typed = box_typed E heap' block' offset' fits' in
        lands_as ! (ap only (whole_is ∙ (λ i. vstruct (of_list ((pointer_is ∙ ap (λ (p : Ptr). ptr_val p ∷ []) at') i ++ (heap_is i ++ []))) ∷ []))) refl typed $
        sets ! (of_opd ! (get_in ! (fld ! refl (stop !)) (sub ! 0 refl (whole !)))) refl (tt, tt) $
        sets ! (of_opd ! (get_in ! (fld ! refl (stop !)) (sub ! 1 refl (whole !)))) refl fits' $
        sets ! (of_opd ! (get ! refl)) refl fits' $
        sets ! (agg ! (and_then ! (get ! refl) (and_then ! (get ! refl) (no_more !)))) refl typed $
        returns ! (look_at ! 0 refl) $ free_all ! refl $
        -- [the allocator; true; the tokens; the value with its token]
        move ! (3 ∷ []) $ fsplit ! $ box_in E ! value block' offset' x refl refl $
        use1 𝓛 (‵ (Made.own_val made (word E heap' block' offset' ∷ []))) (id⊢ 𝓤 _) $ move ! (1 ∷ []) $ drop ! $
        suffices ! _ (ends_at 𝓛 ended stayed clauses z (word E heap' block' offset') made ((tt, (tt, tt)), tt) (tt, tt)) $ says ! refl $
        nothing ! $ nothing ! $ fjoin ! $ join ! $ move ! (1 ∷ 0 ∷ []) $ join ! $ done !)))))))))))))

pub take_apart_spec : {M : Type 1} → statement M
unfolding tables_of
take_apart_spec 𝓤 𝓛 𝓜 𝓡 wired X Z X_laws Z_laws ghosts methods drop_allocator drop_value meets_allocator meets_drop glue =
    let E : Bx = record { row = X; laws = X_laws; al = record { row = Z; laws = Z_laws; g = ghosts; d = methods; drops = drop_allocator } } in
    let 𝓣 : Tables 𝓤 𝓛.H = tables_of 𝓤 𝓛.H 𝓜 (tables 𝓤 𝓛.H 𝓜 𝓡 𝓡.env) in
    entered 𝓤 𝓛.H (triple_of 𝓛 (ended E drop_value).signature (contract.spec X Z ghosts methods drop_allocator drop_value 𝓛 𝓜.mem 𝓡.returns)) 𝓣.C 𝓣.Λ (name (given E drop_value)) (function E drop_value)
    (code.unfolded 𝓤 𝓛.H 𝓜 𝓡 wired (X, (Z, tt)) methods drop_allocator drop_value)
    (walk_Meets 𝓛 (ended E drop_value) (stayed E drop_value) (Goes-blank 𝓛 2 (plain (λ _. B E)) no (λ κs x words. tt), tt) (clauses E drop_value 𝓛 𝓜.mem 𝓡.returns 𝓣)
    (WpFn 𝓤 𝓛.H 𝓣.C 𝓣.Λ (function E drop_value)) (WpFn-mono 𝓤 𝓛.H 𝓛.laws 𝓣 (function E drop_value))
    (walk E drop_value 𝓛 𝓜.mem 𝓡.returns 𝓣
    (opening.met 𝓤 𝓛 𝓜 𝓡 (code.calls-std_alloc::boxed::Box::into_raw_with_allocator 𝓡.env wired) X Z X_laws Z_laws ghosts methods drop_allocator drop_value meets_allocator meets_drop glue)))
