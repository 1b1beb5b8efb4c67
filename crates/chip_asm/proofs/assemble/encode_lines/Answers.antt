use Rattle.std.proofs.Common.{◌≡◌, ◌+◌, ◌∙◌, ap, arith, get_or, map, refl, rules, set, slice_get, subst, sym}
use Rattle.std.proofs.Math.Seq.{map-set_same}
use Rattle.chip_lang.specs.Code.{code_length}
use Rattle.chip_asm.specs.declared.placement.Placement.{Placement}
use Rattle.chip_asm.specs.inner.Codes.{kept_fault}
use Rattle.chip_asm.specs.inner.Passes.{AreCoded}
use Rattle.chip_asm.specs.inner.Placements.{found, nothing, status_coded}
use Rattle.chip_asm.specs.inner.Records.{readings_in}
use Rattle.chip_asm.proofs.LinesByPlace.{found-coded, code-fits, high, low}
use Rattle.chip_asm.proofs.PassSteps.{noted-set, Reached, again-accepted, again-later, again-more, coded-still, placed-many, reached, settled-coded, written-anew}
use Rattle.chip_asm.proofs.assemble.encode_lines.Goals as goal
use Rattle.chip_asm.proofs.assemble.encode_lines.Goals.{After-index-lines-place, then-is_again, else-is_again}

-- the line at the loop's place
here : (c : After-index-lines-place) → Reached c.args.lines.now c.loop-place.placements c.loop-place.place c.index-lines-place.result
here c = reached c.args.lines.now c.loop-place.placements c.loop-place.place c.index-lines-place.result (c.loop-place.invariant.laid ∙ c.requires.laid) (omega (arith, c.loop-place-test.true, c.requires.within)) c.index-lines-place.is

pub bounds-placements-place : goal.bounds-placements-place
bounds-placements-place c = (here (goal.at.bounds-placements-place c).After-index-lines-place).many

pub is_settled-requires : goal.is_settled-requires
is_settled-requires c = (c.args.names.now, (search rules, c.differences-changed.ensures))

pub write_line-fault-requires : goal.write_line-fault-requires
write_line-fault-requires c =
    let lines = readings_in c.args.lines.now in
    let place = c.loop-place.place in
    let r = here (goal.at.write_line-fault-requires c).After-index-lines-place in
    let s = r.stands lines refl in
    record {
      info = search rules;
      low = low lines place _ s.at;
      high = omega (arith, high lines place _ s.at, c.loop-place.auto.image, c.requires.long);
      room = λ accepted. omega (arith, code-fits lines place _ s.at accepted, ap code_length s.line);
    }

pub loop-place-preserved : goal.loop-place-preserved
loop-place-preserved c =
    let i = c.loop-place.invariant in
    let place = c.loop-place.place in
    let names = c.args.names.now in
    let lines = c.args.lines.now in
    let kept = c.index-lines-place.result in
    let qs = c.loop-place.placements in
    let q : Placement = get_or qs place nothing in
    let r = here (goal.at.loop-place-preserved c).After-index-lines-place in
    elim c.if-is_again.branch [
      | then-is_again w ↦
          let now : Placement = record q { status = status_coded (kept_fault names kept q) } in
          let is = w.put_code.ensures.placements ∙ ap (λ f. set qs place (record q { status = status_coded f })) w.write_line-fault.ensures.fault in
          let noted = noted-set qs w.put_code.new.placements place now is r.many in
          let again = sym c.is_again.ensures ∙ w.if-is_again.true in
          record {
            after = omega arith;
            within = omega arith;
            tally = rw (w.placements-is, w.tally-is) w.put_code.ensures.tally;
            laid = ap (map found) (w.placements-is ∙ is) ∙ map-set_same found qs place now nothing (found-coded q (kept_fault names kept q) (again-accepted q kept _ again)) ∙ i.laid;
            behind = λ k past. ap (λ l. slice_get l k) w.placements-is ∙ noted.others k (λ same. omega arith) ∙ i.behind k (omega arith);
            coded = λ e u a. rw (w.placements-is, w.image-is)
                (written-anew e names lines place kept q qs _ c.loop-place.image _ u (r.stands e.now u.now) (i.coded e u a) noted
                w.write_line-fault.ensures.written w.write_line-fault.auto.image);
            encoded = λ e u a.
                (let more = again-more e names lines place kept q qs c.loop-place.image u (r.stands e.now u.now) (i.coded e u a) r.there
                again c.loop-place.meter.encoded w.write_line-fault.new.meter.encoded w.write_line-fault.ensures.encoded in
                omega (arith, more, i.encoded e u a, ap (λ m. m.encoded) w.meter-is));
            not_lowered = omega (arith, i.not_lowered, w.write_line-fault.ensures.not_lowered, ap (λ m. m.encoded) w.meter-is);
            parsed = ap (λ m. m.parsed) w.meter-is ∙ w.write_line-fault.ensures.parsed ∙ i.parsed;
          }
      | else-is_again w ↦ record {
        after = omega arith;
        within = omega arith;
        tally = rw (w.placements-is, w.tally-is) i.tally;
        laid = rw w.placements-is i.laid;
        behind = λ k past. rw w.placements-is (i.behind k (omega arith));
        coded = λ e u a. rw (w.placements-is, w.image-is)
            (coded-still c.same_code.ensures.code e names lines place kept q qs c.loop-place.image u (r.stands e.now u.now) (i.coded e u a) r.there
            (sym c.is_again.ensures ∙ w.if-is_again.false));
        encoded = λ e u a. omega (arith, i.encoded e u a, again-later e place (place + 1) (omega arith), ap (λ m. m.encoded) w.meter-is);
        not_lowered = omega (arith, i.not_lowered, ap (λ m. m.encoded) w.meter-is);
        parsed = ap (λ m. m.parsed) w.meter-is ∙ i.parsed;
      }
    ]

pub next_unsettled-place-requires-clause-placements : goal.next_unsettled-place-requires-clause-placements
next_unsettled-place-requires-clause-placements c = omega (arith, placed-many c.args.lines.now c.loop-place.placements (c.loop-place.invariant.laid ∙ c.requires.laid), c.requires.within)

pub next_unsettled-place-requires-clause-notes : goal.next_unsettled-place-requires-clause-notes
next_unsettled-place-requires-clause-notes c = (c.args.names.now, (c.requires.infos, c.differences-changed.ensures))

pub loop-place-preserved-then-is_settled : goal.loop-place-preserved-then-is_settled
loop-place-preserved-then-is_settled c =
    let i = c.loop-place.invariant in
    let place = c.loop-place.place in
    let next = c.next_unsettled-place in
    let names = c.args.names.now in
    let lines = c.args.lines.now in
    let kept = c.index-lines-place.result in
    let qs = c.loop-place.placements in
    let image = c.loop-place.image in
    let q : Placement = get_or qs place nothing in
    let r = here (goal.at.loop-place-preserved-then-is_settled c).After-index-lines-place in
    record {
      after = omega (arith, next.ensures.after);
      within = next.ensures.within;
      tally = i.tally;
      laid = i.laid;
      behind = λ k past. i.behind k (omega (arith, next.ensures.after));
      coded = λ e u a.
          settled-coded c.same_code.ensures.code e names lines qs image (place + 1) next.result u (next.ensures.settled names c.requires.infos c.differences-changed.ensures) next.ensures.after
          (coded-still c.same_code.ensures.code e names lines place kept q qs image u (r.stands e.now u.now) (i.coded e u a) r.there
          (rw (c.is_settled.ensures.done c.if-is_settled.true, c.is_settled.ensures.same names (search rules) c.differences-changed.ensures c.if-is_settled.true) refl));
      encoded = λ e u a. omega (arith, i.encoded e u a, again-later e place next.result (omega (arith, next.ensures.after)));
      not_lowered = i.not_lowered;
      parsed = i.parsed;
    }

pub returns-clause-coded : goal.returns-clause-coded
returns-clause-coded c = λ e u a.
    (let there : c.loop-place.place ≡ c.args.places.end = omega (arith, c.loop-place-test.false, c.loop-place.invariant.within) in
    subst (AreCoded e c.loop-place.placements c.loop-place.image) there (c.loop-place.invariant.coded e u a))
