use Rattle.std.proofs.Common.{◌≡◌, ◌∙◌, ◌+◌, ◌<◌, ◌≤◌, ◌++◌, ◌∷◌, [], Some, None, ap, arith, map, rules, slice_get, sym, vec_len}
use Rattle.std.proofs.lemmas.List.{append-nil}
use Rattle.std.proofs.lemmas.Option.{slice_get-get_or}
use Rattle.chip_lang.specs.Line.{reading_of}
use Rattle.chip_asm.specs.Program.{faults_of}
use Rattle.chip_asm.proofs.Resumed.{length-laid}
use Rattle.chip_asm.proofs.Views.{layout-view}
use Rattle.chip_asm.proofs.WholeImage.{faults-all, faults_to, next-fault}
use Rattle.chip_asm.proofs.source.Source.faults.Goals as goal
use Rattle.chip_asm.proofs.source.Source.faults.Goals.{in-Some+in_ok-push, in_default}

pub loop-place-preserved : goal.loop-place-preserved
loop-place-preserved c =
    let layout = c.self.inside.kept.layout in
    let lines = map reading_of c.args.self.now.lines in
    let laid = layout-view c.self.inside.kept c.args.self.now.lines c.self.invariant (ap (λ t. t.lines) c.self.view_is) in
    let inside : c.loop-place.place < vec_len layout.placements = search rules in
    let there : slice_get layout.placements.items c.loop-place.place ≡ Some c.index.result.now
    = slice_get-get_or layout.placements.items c.loop-place.place c.index.result.now (omega (arith, inside, layout.placements.ok.0)) ∙ ap Some (sym c.index.ensures) in
    elim c.match-fault.branch [
      | in-Some+in_ok-push w ↦
          ap (λ v. v.items) w.faults-is ∙ w.in_ok-push.ensures.items ∙ ap (λ l. l ++ (c.loop-place.place + 1, w.in-Some.fault) ∷ []) c.loop-place.invariant
          ∙ sym (next-fault layout lines c.loop-place.place c.index.result.now (Some w.in-Some.fault) laid there (sym c.fault.ensures ∙ w.in-Some.is))
      | in_default w ↦
          ap (λ v. v.items) w.faults-is ∙ c.loop-place.invariant
          ∙ sym (next-fault layout lines c.loop-place.place c.index.result.now None laid there (sym c.fault.ensures ∙ w.in_default.is) ∙ append-nil (faults_to lines c.loop-place.place))
    ]

pub returns : goal.returns
unfolding faults_of
returns c =
    let layout = c.self.inside.kept.layout in
    let lines = map reading_of c.args.self.now.lines in
    let laid = layout-view c.self.inside.kept c.args.self.now.lines c.self.invariant (ap (λ t. t.lines) c.self.view_is) in
    let past : vec_len layout.placements ≤ c.loop-place.place = search rules in
    c.loop-place.invariant ∙ faults-all lines c.loop-place.place (omega (arith, past, layout.placements.ok.0, length-laid layout lines laid))
