use Rattle.std.proofs.Common.{◌∙◌, ◌||◌, ap, refl, sym}
use Rattle.chip_warnings.specs.inner.Noted.{marked_in}
use Rattle.chip_warnings.proofs.Flows.{after-code, after-nothing, after-others}
use Rattle.chip_warnings.proofs.flow.Flow.after.Goals as goal
use Rattle.chip_warnings.proofs.flow.Flow.after.Goals.{then-seen, else-seen}

pub returns-after-seen : goal.returns-after-seen
returns-after-seen c above before =
    let flow = c.args.self.now in
    let s = c.args.seen.now in
    after-nothing (marked_in c.args.marks.now).jumped above s flow before c.if-seen.result c.in-Nothing.is
    (elim c.if-seen.branch [
      | then-seen w ↦ w.result-is ∙ w.if-seen.true ∙ ap (λ b. b || flow.begins) (sym w.if-seen.true)
      | else-seen w ↦ w.result-is ∙ ap (λ b. b || flow.begins) (sym w.if-seen.false)
    ])

pub returns-in-Code : goal.returns-in-Code
returns-in-Code c above before =
    c.past.ensures ∙ after-code (marked_in c.args.marks.now).jumped above c.args.seen.now c.args.self.now before c.in-Code.base c.in-Code.word c.reach_past.result c.in-Code.is c.reach_past.ensures

pub returns-in_default : goal.returns-in_default
returns-in_default c above before =
    c.past-in_default.ensures ∙ after-others (marked_in c.args.marks.now).jumped above c.args.seen.now c.args.self.now before c.args.seen.now.says refl c.in_default.not-Nothing c.in_default.not-Code
