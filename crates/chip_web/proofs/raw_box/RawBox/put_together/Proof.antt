-- `put_together` passes everything that the raw box owns to std, and returns the box that std builds.
use Rattle.chip_web.proofs.Steps.{[], ◌∷◌, ◌++◌, ◌≡◌, List, refl, sym, subst, ap, T, Ura, Fn, Body, place, copy, assign, rv_opd, seq, return, inst_fn, Val, vptr, has_ty, WT, SProp, ent, id⊢, ftrue, fsep, flft, ◌⊑◌, Fun, fact, tables, tables_of, Memory, Routine, WpFn, Tables, fm_of, WpFn-mono, Logic, ⋆, Item, at_ret, ‵, raw, ◌⊛◌, some, later, ◌$◌, ◌∵◌, !, qed, by, move, drop, use1, join, split, split3, pick, rewrite, fsplit, fjoin, feq_i, suffices, await, done, whole, sub, stop, fld, no_more, and_then, of_opd, returns, enter, first, blocks, exec, alloc_all, pass_all, free_all, look_at, get, get_in, sets, lands_last, env, RattleType, no, block_ptr, plain, heard, nothing, only, calls_at_last, Ended, Clauses, triple_of, Triple, Contract, entered, says, Stays, stay_dropped, walk_of, ends_at, walk_Meets, token, Goes-blank, box_owns, Bx, D, R, P, B, args, box_ty, word, box_typed, box_out, box_in}
use Rattle.std_alloc.specs.contracts.boxed.Box.from_raw as Closing
use Rattle.std_alloc.proofs.boxed.Box.from_raw.Symbol as closing_symbol
use Rattle.std_alloc.proofs.boxed.Box.from_raw.Met as closing
use Rattle.chip_web.specs.contracts.raw_box.RawBox as RawBox
use Rattle.chip_web.specs.contracts.raw_box.RawBox.put_together as contract
use Rattle.chip_web.specs.contracts.raw_box.RawBox.put_together.Key.{name}
use Rattle.chip_web.proofs.raw_box.RawBox.put_together.Statement.{statement}
use Rattle.chip_web.proofs.raw_box.RawBox.put_together.Code as code

-- the statements that run after the block of the call
abbrev last_part : Body
last_part = seq (assign (place 0 []) (rv_opd (copy (place 4 [])))) return

module _ (E : Bx) where
  abbrev function : Fn
  function = inst_fn (args E) code.function

  abbrev ended : Ended
  ended = contract.ended E.row E.al.row E.al.g E.al.d E.al.drops

  abbrev Taken : RattleType
  Taken = RawBox.the_row (R E) (P E) E.al.g

  abbrev stayed : Stays ended.signature.params ended.kept
  stayed = (stay_dropped (plain (λ _. Taken)) no, tt)

  module _ {M : Type 1} {𝓤 : Ura M} (𝓛 : Logic 𝓤) (at_mem : Memory → SProp 𝓤) (run : Routine → Fun 𝓤) (𝓣 : Tables 𝓤 𝓛.H) where
    open 𝓛 use {H}

    abbrev clauses : Clauses 𝓤 ended
    clauses = contract.clauses E.row E.al.row E.al.g E.al.d E.al.drops 𝓛 at_mem run

    abbrev Closes : Contract 𝓤
    Closes = triple_of 𝓛 (Closing.signature E.row E.al.row E.al.g E.al.d E.al.drops) (Closing.spec E.row E.al.row E.al.g E.al.d E.al.drops 𝓛 at_mem run)

    walk : Triple 𝓤 (𝓣.C (closing_symbol.name (args E))) Closes
        → (z : (walk_of 𝓛 ended stayed clauses).Ghost) → ent 𝓤 ((walk_of 𝓛 ended stayed clauses).pre z) (WpFn 𝓤 H 𝓣.C 𝓣.Λ function (z.0.4.0 ++ []) ((walk_of 𝓛 ended stayed clauses).post z))
    walk closes z =
        let κs = z.0.0 in let qs = z.0.1 in let a = z.0.3.0.allocator in let x = z.0.3.0.value in
        let Post = (walk_of 𝓛 ended stayed clauses).post z in
        let held : D E = record { ptr = z.0.3.0.pointer; alloc = a; value = x } in
        let tokens : Item 𝓤 = ‵ (flft κs.0 qs.0) ⊛ ‵ (flft κs.1.0 qs.1.0) ⊛ ‵ ftrue in
        let bound_x : Item 𝓤 = raw (fact 𝓤 (κs.0 ⊑ E.row.lives)) in let bound_a : Item 𝓤 = raw (fact 𝓤 (κs.1.0 ⊑ E.al.row.lives)) in
        qed 𝓛 ((tokens ⊛ ‵ (fsep ((B E).own_val held z.0.4.0) ftrue)) ∷ (bound_x ⊛ bound_a ⊛ ‵ ftrue) ∷ []) ∵ split ! $ move ! (1 ∷ []) $ fsplit ! $
        box_out E ! held z.0.4.0 (λ block offset heap at is fits. fjoin ! $
        let pair = word E heap block offset in
        let call : Closes.Ghost = ((κs, qs, tt, (a, (block_ptr block offset, tt)), (heap ∷ [], (vptr block offset ∷ [], tt))), x) in
        let Γ : List (Item 𝓤) = ‵ (box_owns (token E.al a) (R E) (block_ptr block offset) x) ∷ ‵ ((P E).own_val a (heap ∷ [])) ∷ ‵ ftrue ∷ tokens ∷ (bound_x ⊛ bound_a ⊛ ‵ ftrue) ∷ [] in
        by ! (subst (λ (words : List Val). ent 𝓤 (⋆ 𝓛 Γ) (WpFn 𝓤 H 𝓣.C 𝓣.Λ function (words ++ []) Post)) (sym is)
        (qed 𝓛 Γ ∵ enter ! 𝓣.C 𝓣.Λ function (pair ∷ []) _ $
        alloc_all ! (λ locals. pass_all ! refl (box_typed E heap block offset fits, tt) $
        sets ! (of_opd ! (get_in ! (fld ! refl (stop !)) (sub ! 0 refl (whole !)))) refl (tt, tt) $
        sets ! (of_opd ! (get_in ! (fld ! refl (stop !)) (sub ! 1 refl (whole !)))) refl fits $
        first ! $ blocks ! $ sets ! (of_opd ! (get ! refl)) refl fits $
        -- [what the call requires; the allocator; true; the tokens]
        move ! (4 ∷ []) $ split3 ! $ move ! (2 ∷ []) $ drop ! $ move ! (1 ∷ 2 ∷ []) $ join ! $ move ! (1 ∷ 0 ∷ []) $ join ! $
        move ! (2 ∷ []) $ feq_i ! (List Val) (vptr block offset ∷ []) (vptr block offset ∷ []) refl $ fjoin ! $
        move ! (2 ∷ 0 ∷ []) $ fjoin ! $ move ! (2 ∷ 0 ∷ []) $ join ! $ join ! $ use1 𝓛 (raw (Closes.pre call)) (id⊢ 𝓤 _) $
        calls_at_last ! (fm_of 𝓤 H 𝓛.laws 𝓣) Closes closes call (and_then ! (get ! refl) (and_then ! (get ! refl) (no_more !))) (λ answer.
        use1 𝓛 (later (some (λ (r : D E). (tokens ⊛ ‵ ((B E).own_val r (answer ∷ []))) ⊛ some (λ (_ : Unit {0} × (Unit {0} × Unit {0})).
        ‵ (fsep ftrue (fsep ftrue ftrue)) ⊛ (raw (fact 𝓤 (r.value ≡ x)) ⊛ raw (fact 𝓤 (r.alloc ≡ a))))))) (id⊢ 𝓤 _) $
        await ! tt $ pick ! (λ r. split ! $ move ! (1 ∷ []) $ pick ! (λ _. split3 ! $ drop ! $ heard ! (r.value ≡ x) (λ same. drop ! $ split ! $ move ! (1 ∷ []) $
        -- the returned box is a pair of words
        box_out E ! r (answer ∷ []) (λ block' offset' heap' at' is' fits'. box_in E ! r block' offset' r.value at' refl $
        rewrite ! 0 (λ (words : List Val). ‵ ((B E).own_val r words)) (sym is') refl $
        let typed : T (has_ty (box_ty E) answer) × WT answer = subst (λ (s : Val). T (has_ty (box_ty E) s) × WT s) (sym (ap only is')) (box_typed E heap' block' offset' fits') in
        lands_last ! refl typed $ exec ! 𝓣.C 𝓣.Λ (env function.locals locals) last_part (at_ret (env function.locals locals) Post) $
        sets ! (of_opd ! (get ! refl)) refl typed $ returns ! (look_at ! 0 refl) $ free_all ! refl $
        suffices ! _ (ends_at 𝓛 ended stayed clauses z answer r ((tt, (tt, tt)), tt) (tt, tt)) $ says ! same $
        nothing ! $ nothing ! $ fjoin ! $ join ! $ move ! (1 ∷ 0 ∷ []) $ join ! $ done !)))))))))

pub put_together_spec : {M : Type 1} → statement M
unfolding tables_of
put_together_spec 𝓤 𝓛 𝓜 𝓡 wired X Z X_laws Z_laws ghosts methods drop_allocator meets_allocator meets_drop =
    let E : Bx = record { row = X; laws = X_laws; al = record { row = Z; laws = Z_laws; g = ghosts; d = methods; drops = drop_allocator } } in
    let 𝓣 : Tables 𝓤 𝓛.H = tables_of 𝓤 𝓛.H 𝓜 (tables 𝓤 𝓛.H 𝓜 𝓡 𝓡.env) in
    entered 𝓤 𝓛.H (triple_of 𝓛 (ended E).signature (contract.spec X Z ghosts methods drop_allocator 𝓛 𝓜.mem 𝓡.returns)) 𝓣.C 𝓣.Λ (name (args E)) (function E)
    (code.unfolded 𝓤 𝓛.H 𝓜 𝓡 wired (X, (Z, tt)) methods drop_allocator)
    (walk_Meets 𝓛 (ended E) (stayed E) (Goes-blank 𝓛 2 (plain (λ _. Taken E)) no (λ κs x words. tt), tt) (clauses E 𝓛 𝓜.mem 𝓡.returns 𝓣)
    (WpFn 𝓤 𝓛.H 𝓣.C 𝓣.Λ (function E)) (WpFn-mono 𝓤 𝓛.H 𝓛.laws 𝓣 (function E))
    (walk E 𝓛 𝓜.mem 𝓡.returns 𝓣
    (closing.met 𝓤 𝓛 𝓜 𝓡 (code.calls-std_alloc::boxed::Box::from_raw 𝓡.env wired) X Z X_laws Z_laws ghosts methods drop_allocator meets_allocator meets_drop)))
