use Rattle.std.proofs.Common.{◌≡◌, ◌∙◌, ◌∷◌, ◌++◌, [], false, true, subst, ap, get_or, refl, set, sym, take}
use Rattle.chip_lang.specs.SeenLine.{seen_line}
use Rattle.chip_asm.specs.declared.line_info.LineInfo.{LineInfo}
use Rattle.chip_asm.specs.declared.placement.Placement.{Placement}
use Rattle.chip_asm.specs.Layout.{Placed, body_of}
use Rattle.chip_asm.specs.computed.Walk.{place, placed}
use Rattle.chip_asm.specs.inner.Placements.{Follows, placement_of, bare_status, found, is_accepted, is_accepted_found, nothing}
use Rattle.chip_asm.specs.inner.Infos.{has_code}
use Rattle.chip_asm.specs.inner.Records.{reading_in}
use Rattle.chip_asm.proofs.LinesByPlace.{noted-found}
use Rattle.chip_asm.proofs.PassSteps.{Copied, StepsOn, bare-accepted, copied, copied-held, copy-room, facing, fresh-held, passed-on, value-faced, zeros-next}
use Rattle.chip_asm.proofs.assemble.pass_line.Goals.{then-is_accepted+then-is_accepted-2, then-is_accepted+else-is_accepted-2, else-is_accepted}
use Rattle.chip_asm.proofs.assemble.pass_line.Goals as goal

pub known_value-known-requires-clause-was : goal.known_value-known-requires-clause-was
known_value-known-requires-clause-was c = λ taken agree.
    (let e = c.requires.under_way.0 in
    let u = c.requires.under_way.1 in
    let f = facing e _ _ _ _ _ _ _ c.index-lines-place.result u c.requires.inside c.index-lines-place.is in
    value-faced c.kept_value.ensures c.same_code.ensures.value e _ _ _ _ _ _ _ _ _ _ u f taken agree)

pub copy_code-requires : goal.copy_code-requires
copy_code-requires c =
    let e = c.requires.under_way.0 in
    let u = c.requires.under_way.1 in
    let f = facing e _ _ _ _ _ _ _ c.index-lines-place.result u c.requires.inside c.index-lines-place.is in
    let is = c.step-now.ensures.found (placed (take c.args.place e.now)) u.walked.follows ∙ ap (λ l. placement_of (place (placed (take c.args.place e.now)) (seen_line l))) c.line-line.ensures in
    let room = copy-room e _ _ _ _ _ _ _ _ _ c.step-now.result nothing u f (sym c.is_accepted-then-is_accepted.ensures ∙ c.if-is_accepted-2.true) is in
    record { was_low = room.was_low; was_high = room.was_high; low = room.low; high = room.high }

pub returns : goal.returns
returns c = λ e u.
    (let kept = c.index-lines-place.result in
    let was = c.args.placements.now in
    let n = c.args.place in
    let q : Placement = get_or was n nothing in
    let now = c.step-now.result in
    let from = c.args.from.now in
    let image = c.args.image.now in
    let f = facing e _ _ _ _ _ _ _ kept u c.requires.inside c.index-lines-place.is in
    let x : Placed = place (placed (take n e.now)) (reading_in kept) in
    let is : found now ≡ placement_of x = c.step-now.ensures.found (placed (take n e.now)) u.walked.follows ∙ ap (λ l. placement_of (place (placed (take n e.now)) (seen_line l))) c.line-line.ensures in
    let s : StepsOn c.args.pass.now c.step-now.new.self n (reading_in kept)
    = record { keeps = c.step-now.ensures.keeps; passed = λ before follows at. subst (λ line. Follows c.step-now.new.self (placed (before ++ seen_line line ∷ []))) c.line-line.ensures (c.step-now.ensures.passed before follows at); room = c.step-now.ensures.room } in
    let zeros = zeros-next e n x image u.gaps f.at in
    elim c.if-is_accepted.branch [
      | then-is_accepted+then-is_accepted-2 w ↦
          (let taken : is_accepted q.status ≡ true = sym w.is_accepted-then-is_accepted.ensures ∙ w.if-is_accepted-2.true in
          let there = copied q now from image w.copy_code.new.image w.copy_code.ensures (copy-room e _ _ _ _ _ _ _ _ _ now nothing u f taken is) in
          let carried : Copied q (placement_of x) from image w.copy_code.new.image = subst (λ r. Copied q r from image w.copy_code.new.image) is there in
          rw w.image-is
          (passed-on e _ _ _ _ _ _ _ _ _ _ _ kept (record now { status = q.status }) u c.requires.inside f s (c.put.ensures.placements ∙ ap (set was n) w.now-is)
          (noted-found now q.status (sym c.is_accepted.ensures ∙ w.if-is_accepted.true) taken ∙ is) c.put.ensures.tally w.copy_code.auto.image carried.off
          (λ effect. copied-held e c.args.pass.now was from image w.copy_code.new.image n kept x f u.change taken carried zeros)))
      | then-is_accepted+else-is_accepted-2 w ↦
          (let coded = w.info-else-is_accepted-2.result.is_coded in
          rw w.image-is
          (passed-on e _ _ _ _ _ _ _ _ _ _ _ kept (record now { status = bare_status true coded }) u c.requires.inside f s (c.put.ensures.placements ∙ ap (set was n) (w.now-is ∙ ap (λ s. record now { status = s }) w.bare-now.ensures))
          (noted-found now (bare_status true coded) (sym c.is_accepted.ensures ∙ w.if-is_accepted.true) (bare-accepted coded) ∙ is) c.put.ensures.tally refl (λ k out. refl)
          (λ effect. fresh-held e from image n x (reading_in kept) q coded (f.slot nothing) (sym w.is_accepted-then-is_accepted.ensures ∙ w.if-is_accepted-2.false) zeros
          (ap (λ (i : LineInfo). i.is_coded) w.info-else-is_accepted-2.ensures ∙ f.info.coded ∙ ap (λ l. has_code (body_of l)) (sym f.line_is)))))
      | else-is_accepted w ↦
          rw w.image-is
          (passed-on e _ _ _ _ _ _ _ _ _ _ _ kept now u c.requires.inside f s (c.put.ensures.placements ∙ ap (set was n) w.now-is) is c.put.ensures.tally refl (λ k out. refl)
          (λ effect. absurd (let never : false ≡ true = sym w.if-is_accepted.false ∙ c.is_accepted.ensures ∙ ap is_accepted_found is ∙ effect in cc)))
    ])
