use Rattle.std.proofs.Common.{rules, ◌≡◌, ◌<◌, ℕ, List, Bool, cond, [], ◌∷◌, ◌++◌, false, true, refl, sym, ap, subst, inr, arith, ◌∙◌, length, get_or}
use Rattle.std.proofs.lemmas.List.{get_or_append_left, length-append}
use Rattle.std.proofs.Math.Seq.{get_or-append_seam}
use Rattle.chip_machine.specs.Forgotten.{AreWithin}
use Rattle.chip_explore.specs.declared.kept.Kept.{Kept}
use Rattle.chip_explore.specs.inner.Kept.{state_at}
use Rattle.chip_explore.specs.inner.Cover.{phase}
use Rattle.chip_explore.proofs.Alike.{all_within, alike_within}
use Rattle.chip_explore.proofs.Places.{state_before, state_last}
use Rattle.chip_explore.proofs.Growth.{closed_inside, closed_pushed, goes}
use Rattle.chip_explore.proofs.members.Members.add.Goals as goal

-- the elements added by a push into memory that was reserved
pushed : {A : Type 0} (done : Bool) (now room was : List A) (x : A) → now ≡ cond done (room ++ x ∷ []) room → done ≡ true → room ≡ was → now ≡ was ++ x ∷ []
pushed done now room was x items succeeds same =
    items ∙ ap (λ b. cond b (room ++ x ∷ []) room) succeeds ∙ ap (λ xs. xs ++ x ∷ []) same

inside : (closed : List Bool) (j : ℕ) → get_or closed j false ≡ true → {n : ℕ} → length closed ≡ n → j < n
inside closed j up e = let within = closed_inside closed j up in omega arith

pub returns : goal.returns
returns c =
    let m = c.args.self.now in
    let p = c.args.setting.now in
    let kept = c.args.kept in
    let states : c.push.new.self.items ≡ m.states.items ++ kept ∷ [] =
    pushed _ _ _ _ _ c.push.ensures.items (c.push.ensures.succeeds (omega (arith, c.in_ok-reserve.ensures.ok))) c.reserve.ensures.items in
    let forgotten : c.push-2.new.self.items ≡ m.forgotten.items ++ c.args.parts ∷ [] =
    pushed _ _ _ _ _ c.push-2.ensures.items (c.push-2.ensures.succeeds (omega (arith, c.in_ok-reserve-2.ensures.ok))) c.reserve-2.ensures.items in
    let closed : c.push-3.new.self.items ≡ m.closed.items ++ false ∷ [] =
    pushed _ _ _ _ _ c.push-3.ensures.items (c.push-3.ensures.succeeds (omega (arith, c.in_ok-reserve-3.ensures.ok))) c.reserve-3.ensures.items in
    let steps : c.push-4.new.self.items ≡ m.steps.items ++ c.args.step ∷ [] =
    pushed _ _ _ _ _ c.push-4.ensures.items (c.push-4.ensures.succeeds (omega (arith, c.in_ok-reserve-4.ensures.ok))) c.reserve-4.ensures.items in
    let more_states = ap (length {A = Kept}) states ∙ length-append m.states.items (kept ∷ []) in
    let more_forgotten = ap (length {A = ℕ}) forgotten ∙ length-append m.forgotten.items (c.args.parts ∷ []) in
    let more_closed = ap (length {A = Bool}) closed ∙ length-append m.closed.items (false ∷ []) in
    let more_steps = ap (length {A = ℕ}) steps ∙ length-append m.steps.items (c.args.step ∷ []) in
    let count = c.requires.states in
    let parts_count = c.requires.forgotten in
    let counted = c.requires.closed in
    let same : (j : ℕ) → j < length m.steps.items → get_or c.push-4.new.self.items j 0 ≡ get_or m.steps.items j 0 =
    λ j l. ap (λ (xs : List ℕ). get_or xs j 0) steps ∙ get_or_append_left m.steps.items (c.args.step ∷ []) 0 j l in
    let parts : get_or c.push-2.new.self.items (length m.steps.items) 0 ≡ c.args.parts =
    ap (λ (xs : List ℕ). get_or xs (length m.steps.items) 0) forgotten
    ∙ ap (λ (i : ℕ). get_or (m.forgotten.items ++ c.args.parts ∷ []) i 0) (sym parts_count)
    ∙ get_or-append_seam m.forgotten.items c.args.parts [] 0 in
    let member =
    ap (λ (xs : List Kept). state_at m.base xs (length m.steps.items)) states
    ∙ ap (λ (i : ℕ). state_at m.base (m.states.items ++ kept ∷ []) i) (sym count)
    ∙ state_last m.base m.states.items kept in
    let last : get_or c.push-4.new.self.items (length m.steps.items) 0 ≡ c.args.step =
    ap (λ (xs : List ℕ). get_or xs (length m.steps.items) 0) steps ∙ get_or-append_seam m.steps.items c.args.step [] 0 in
    record {
      adds = record {
        goes = goes p m _ c.requires refl
            (record {
              limit = omega arith;
              count = omega arith;
              member = λ j l. ap (λ (xs : List Kept). state_at m.base xs j) states ∙ state_before m.base m.states.items (kept ∷ []) j (omega arith);
              forgotten = λ j l. ap (λ (xs : List ℕ). get_or xs j 0) forgotten ∙ get_or_append_left m.forgotten.items (c.args.parts ∷ []) 0 j (omega arith);
              early = λ j l. let is = same j l in omega arith;
              phased = λ j l. ap (phase p) (same j l);
              executed = λ pc h. h;
            })
            (omega arith)
            (omega arith)
            (omega arith)
            (λ j h.
            let was : get_or m.closed.items j false ≡ true = closed_pushed m.closed.items j (ap (λ (xs : List Bool). get_or xs j false) (sym closed) ∙ h) in
            inr (was, same j (inside m.closed.items j was counted)));
        few = omega arith;
      };
      joins = λ _.
          record {
            place = length m.steps.items;
            early = omega arith;
            at = record {
              kept = omega arith;
              phased = ap (phase p) last;
              within = subst (λ (f : ℕ). AreWithin c.args.parts f) (sym parts) (record { parts = λ part h. h; bytes = λ at h. h });
              alike = rw (parts, member) (alike_within 0 _ _ (c.in_ok-is_same.ensures (search rules)) c.args.parts (all_within c.args.parts));
            };
          };
    }
