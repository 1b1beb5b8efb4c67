use Rattle.std.proofs.Common.{rules, ◌≡◌, ◌∙◌, subst, ◌+◌, ◌≤◌, ap, arith, false, get_or, length, pos, refl, sym, take, to_z, true, w32}
use Rattle.std.proofs.lemmas.Bool.{false≢true, not-true}
use Rattle.std.proofs.lemmas.List.{length-take-le}
use Rattle.chip_asm.specs.Layout.{Placed}
use Rattle.chip_asm.specs.computed.Walk.{place, placed}
use Rattle.chip_asm.specs.declared.pass.Pass.{Pass}
use Rattle.chip_asm.specs.declared.placement.Placement.{Placement}
use Rattle.chip_asm.specs.inner.Codes.{IsCopied}
use Rattle.chip_asm.specs.inner.Placements.{placement_of, Found, bare_status, found, is_accepted, nothing}
use Rattle.chip_lang.specs.declared.limits.TheConstants.{MEMORY_BYTES}
use Rattle.chip_asm.specs.inner.Infos.{IsInfo, IsPlain}
use Rattle.chip_asm.specs.inner.Passes.{IsUnderWay}
use Rattle.chip_asm.specs.inner.Records.{reading_in}
use Rattle.chip_asm.proofs.QuietLines.{found-plain, number-within, passed-plain}
use Rattle.chip_asm.proofs.Resumed.{end-low}
use Rattle.chip_asm.proofs.LinesByPlace.{high, low, tally-same}
use Rattle.chip_asm.proofs.PassSteps.{Copied, StepsOn, plain-held, plain-stood, copied, copied-held, copy-room, facing, noted-plain, passed-on, steps-plain, stood-there, unpadded-stood, zeros-next}
use Rattle.chip_asm.proofs.pass.Pass.run_as.Goals.{else-active, else-active-via-else-active, else-active-via-then-active+else-is_accepted, else-loop-place-test, then-active+then-is_accepted, then-loop-place-test+in-Some+then-not-define_new, then-loop-place-test+in_default}
use Rattle.chip_asm.proofs.pass.Pass.run_as.Goals as goal

pub loop-place-init : goal.loop-place-init
loop-place-init c = record { high = c.args.self.now.within; after = omega arith; within = c.requires.under_way.1.inside; same = sym c.requires.active; under_way = search rules }

pub define_new-requires-clause-within : goal.define_new-requires-clause-within
define_new-requires-clause-within c =
    let l = c.loop-place in
    let kept = c.index-lines-place.result in
    let u = l.invariant.under_way l.invariant.high c.requires.under_way.0 c.requires.under_way.1 in
    let f = facing c.requires.under_way.0 _ _ _ _ _ _ _ kept u c.loop-place-test.true c.index-lines-place.is in
    number-within l.self.names.keys c.in-Some.defines _ (c.in-Some.ensures.is l.self.names.keys kept.several (reading_in kept) (rw c.info-info.ensures f.info)).named

pub define_new-requires-clause-room : goal.define_new-requires-clause-room
define_new-requires-clause-room c =
    let i = c.loop-place.invariant in
    let u = i.under_way i.high c.requires.under_way.0 c.requires.under_way.1 in
    omega (arith, u.room.names, c.loop-place-test.true)

pub move_line-here-requires-clause-was : goal.move_line-here-requires-clause-was
move_line-here-requires-clause-was c =
    let e = c.requires.under_way.0 in
    let l = c.loop-place in
    let kept = c.index-lines-place.result in
    let u = l.invariant.under_way l.invariant.high e c.requires.under_way.1 in
    let f = facing e _ _ _ _ _ _ _ kept u c.loop-place-test.true c.index-lines-place.is in
    let s = stood-there e _ l.place (reading_in kept) _ u.change f.line (f.slot nothing) (sym c.is_accepted.ensures ∙ c.if-is_accepted.true) in
    (low e.was s.before _ s.at, omega (arith, high e.was s.before _ s.at, u.from_long))

pub move_line-here-requires-clause-low : goal.move_line-here-requires-clause-low
move_line-here-requires-clause-low c =
    let i = c.loop-place.invariant in
    let u = i.under_way i.high c.requires.under_way.0 c.requires.under_way.1 in
    omega (arith, u.walked.follows.at_address, end-low (take c.loop-place.place c.requires.under_way.0.now))

pub move_line-here-requires-clause-same : goal.move_line-here-requires-clause-same
move_line-here-requires-clause-same c = λ short.
    (let e = c.requires.under_way.0 in
    let l = c.loop-place in
    let kept = c.index-lines-place.result in
    let u = l.invariant.under_way l.invariant.high e c.requires.under_way.1 in
    let f = facing e _ _ _ _ _ _ _ kept u c.loop-place-test.true c.index-lines-place.is in
    let keys = l.self.names.keys in
    let info : IsInfo keys c.info-info.result kept.several (reading_in kept) = rw c.info-info.ensures f.info in
    let plain : IsPlain keys true l.self.aligning l.here (reading_in kept) c.in-Some.size c.in-Some.defines = rw (← c.if-active.true) (c.in-Some.ensures.is keys kept.several (reading_in kept) info) in
    unpadded-stood e _ _ _ l.place _ kept _ _ _ _ u.change f (sym c.is_accepted.ensures ∙ c.if-is_accepted.true) (c.in-Some.ensures.unpadded keys kept.several (reading_in kept) info c.if-active.true short) plain)

pub put-requires-clause-tally : goal.put-requires-clause-tally
put-requires-clause-tally c = (let i = c.loop-place.invariant in (i.under_way i.high c.requires.under_way.0 c.requires.under_way.1).tallied)

pub loop-place-preserved : goal.loop-place-preserved
loop-place-preserved c =
    let l = c.loop-place in
    let i = l.invariant in
    let kept = c.index-lines-place.result in
    let keys = l.self.names.keys in
    let size = c.in-Some.size in
    let from = c.args.from.now in
    let moved : c.if-active.here ≡ l.here + size = elim c.if-active.branch [ then-active+then-is_accepted w ↦ w.here-is ∙ w.move_line-here.ensures.behind | else-active w ↦ w.here-is ] in
    record {
      high = omega (arith, moved, c.in-Some.ensures.fits);
      after = omega (arith, i.after);
      within = omega (arith, c.loop-place-test.true);
      same = i.same;
      under_way = λ fits e u0.
          subst (λ h. (fits : h ≤ MEMORY_BYTES) → IsUnderWay e c.args.lines.now (record l.self { here = h; within = fits; names = c.define_new.new.self }) c.if-active.placements c.if-active.tally from c.if-active.image (l.place + 1)) (sym moved)
          (λ fits.
          let u = i.under_way i.high e u0 in
          let pass : Pass = record l.self { here = l.here; within = i.high } in
          let f = facing e c.args.lines.now pass l.placements l.tally from l.image l.place kept u c.loop-place-test.true c.index-lines-place.is in
          let x : Placed = place (placed (take l.place e.now)) (reading_in kept) in
          let bare : IsPlain keys c.args.active l.self.aligning l.here (reading_in kept) size c.in-Some.defines = c.in-Some.ensures.is keys kept.several (reading_in kept) (rw c.info-info.ensures f.info) in
          let cast : to_z w32 l.here ≡ pos l.here = (let h = i.high in grind arith) in
          let new = not-true _ (sym c.define_new.ensures.new ∙ c.if-not-define_new.false) in
          let given = c.define_new.ensures.symbols c.if-not-define_new.false ∙ (rw cast refl) in
          let here : l.place ≡ length (take l.place e.now) = sym (length-take-le l.place e.now (omega (arith, f.inside))) in
          let next : Pass = record pass { here = l.here + size; within = fits; names = c.define_new.new.self } in
          let s : StepsOn pass next l.place (reading_in kept) = steps-plain pass c.define_new.new.self l.place size (reading_in kept) c.in-Some.defines c.args.active i.same bare fits new given c.define_new.ensures.keeps in
          let is : found-plain l.here size c.args.active ≡ placement_of x = (passed-plain pass c.define_new.new.self (take l.place e.now) (reading_in kept) l.place size c.in-Some.defines c.args.active i.same u.walked.follows here bare fits new given).0 in
          let zeros = zeros-next e l.place x l.image u.gaps f.at in
          let q : Placement = get_or l.placements l.place nothing in
          let now : Placement = record q { here = l.here; size = size } in
          elim c.if-active.branch as (λ branch. IsUnderWay e c.args.lines.now next c.if-active.placements c.if-active.tally from c.if-active.image (l.place + 1)) [
            | then-active+then-is_accepted w ↦
                (let taken = sym w.is_accepted.ensures ∙ w.if-is_accepted.true in
                let active : true ≡ c.args.active = sym w.if-active.true in
                let is_now : found now ≡ placement_of x = ap (λ (r : Found). record r { here = l.here; size = size }) (plain-stood e pass l.placements from l.place kept x u.change f taken bare.plain) ∙ (rw active is) in
                let put : w.move_line-here.new.line ≡ now = w.move_line-here.ensures.line in
                let image = copied q now from l.image w.move_line-here.new.image (subst (λ r. IsCopied q r from l.image w.move_line-here.new.image) put w.move_line-here.ensures.image) (copy-room e c.args.lines.now pass l.placements l.tally from l.image l.place kept x now nothing u f taken is_now) in
                let there : Copied q (placement_of x) from l.image w.move_line-here.new.image = subst (λ r. Copied q r from l.image w.move_line-here.new.image) is_now image in
                rw (w.placements-is, w.tally-is, w.image-is, put)
                (passed-on e c.args.lines.now pass next l.placements _ l.tally l.tally from l.image w.move_line-here.new.image l.place kept now u c.loop-place-test.true f s refl is_now
                (tally-same l.placements l.tally l.place now nothing u.tallied f.inside_was refl) w.move_line-here.auto.image there.off (λ effect. copied-held e pass l.placements from l.image w.move_line-here.new.image l.place kept x f u.change taken there zeros)))
            | else-active w ↦
                (let refused : c.args.active ≡ true → is_accepted q.status ≡ false
                = elim w.else-active.branch [
                  | else-active-via-then-active+else-is_accepted v ↦ λ same. sym v.is_accepted.ensures ∙ v.if-is_accepted.false
                  | else-active-via-else-active v ↦ λ same. absurd (false≢true (sym v.if-active.false ∙ same))
                ] in
                rw (w.placements-is, w.tally-is, w.image-is)
                (passed-on e c.args.lines.now pass next l.placements w.put.new.placements l.tally w.put.new.self from l.image l.image l.place kept (record { value = pos 0; here = l.here; size = size; status = bare_status c.args.active kept.info.is_coded }) u c.loop-place-test.true f s
                (w.put.ensures.placements ∙ (rw (w.bare.ensures, c.info-info.ensures) refl)) (noted-plain l.here size c.args.active kept.info.is_coded ∙ is) w.put.ensures.tally refl (λ k out. refl)
                (plain-held e pass l.placements from l.image l.place size kept x c.args.active l.here f is refused zeros)))
          ]) fits;
    }

pub returns-clause-under_way : goal.returns-clause-under_way
returns-clause-under_way c = λ e u.
    elim c.loop-place-test.branch [
      | else-loop-place-test w ↦ rw w.self-is (c.loop-place.invariant.under_way _ e u)
      | then-loop-place-test+in_default w ↦ rw w.self-is (c.loop-place.invariant.under_way _ e u)
      | then-loop-place-test+in-Some+then-not-define_new w ↦ rw (w.self-is, w.define_new.ensures.same w.if-not-define_new.true) (c.loop-place.invariant.under_way _ e u)
    ]
