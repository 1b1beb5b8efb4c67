use Rattle.std.proofs.Common.{◌≡◌, ◌∙◌, ◌+◌, ◌<◌, ◌≤◌, ap, arith, get_or, length, subst, sym}
use Rattle.std.proofs.lemmas.List.{get_or-map}
use Rattle.chip_asm.specs.Edits.{before_replace}
use Rattle.chip_asm.specs.Work.{needs_count}
use Rattle.chip_asm.specs.declared.edit.LineEdit.TheVariants.{Replace}
use Rattle.chip_asm.specs.inner.Kept.{IsKept, MayEdit, needed_by, texts_kept}
use Rattle.chip_asm.specs.inner.Records.{reading_in, readings_in, texts_after}
use Rattle.chip_asm.proofs.QuietLines.{info-here}
use Rattle.chip_asm.proofs.KeptSteps.{needs-edited, readings-set}
use Rattle.chip_asm.proofs.kept.Kept.edit.Goals as goal
use Rattle.chip_asm.proofs.kept.Kept.edit.Goals.{Joined-edit, In-Replace, in-Replace+then-is_alike, in-Replace+else-is_alike+in_ok-remake-in-Replace, in_default+in_ok-remake-in_default}

within : (c : In-Replace) → c.in-Replace.at < length c.args.self.now.lines.items
within c = let h = rw c.in-Replace.is at c.requires.within in omega (arith, h, c.args.self.now.lines.ok.0)

pub rewrite-requires-clause-is_read : goal.rewrite-requires-clause-is_read
rewrite-requires-clause-is_read c = rw c.in-Replace.is at c.requires.are_read

pub rewrite-requires-clause-info : goal.rewrite-requires-clause-info
rewrite-requires-clause-info c = rw c.in-Replace.is at c.requires.infos

pub rewrite-requires-clause-alike : goal.rewrite-requires-clause-alike
rewrite-requires-clause-alike c =
    let lines = c.args.self.now.lines.items in
    let there = within (goal.at.rewrite-requires-clause-alike c).In-Replace in
    let was : get_or (readings_in lines) c.in-Replace.at (reading_in c.in-Replace.added) ≡ reading_in c.index.result.now
    = get_or-map reading_in lines c.in-Replace.at c.index.result.now (reading_in c.in-Replace.added) there ∙ ap reading_in (sym c.index.ensures) in
    let info = info-here c.args.self.now.names.keys lines c.in-Replace.at c.index.result.now c.requires.kept.infos there c.index.ensures in
    rw was (c.is_alike.ensures c.args.self.now.names.keys c.index.result.now.several c.in-Replace.added.several (reading_in c.index.result.now) (reading_in c.in-Replace.added) (rw c.info.ensures info) (rw c.info-in-Replace.ensures (rewrite-requires-clause-info c)) c.if-is_alike.true)

-- the contents after the edit itself
made : (c : Joined-edit) → IsKept c.match-edit.self × (texts_kept c.match-edit.self ≡ texts_after (texts_kept c.args.self.now) c.args.edit) × (c.match-edit.meter.encoded ≤ c.args.meter.now.encoded + needed_by c.args.self.now c.args.edit)
made c =
    elim c.match-edit.branch [
      | in-Replace+then-is_alike w ↦
          (let lines = c.args.self.now.lines.items in
          let needed = needs-edited c.args.self.now (Replace w.in-Replace.at w.in-Replace.added) (subst (MayEdit c.args.self.now) w.in-Replace.is c.requires) in
          let counted = ap (λ rs. needs_count (readings_in lines) rs (before_replace w.in-Replace.at)) (readings-set lines w.in-Replace.at w.in-Replace.added) in
          rw (w.self-is, w.meter-is, w.in-Replace.is) (w.rewrite.ensures.kept, w.rewrite.ensures.texts, omega (arith, w.rewrite.ensures.encoded, needed, counted)))
      | in-Replace+else-is_alike+in_ok-remake-in-Replace w ↦ rw (w.self-is, w.meter-is, w.in-Replace.is) (w.remake.ensures.kept, w.in_ok-remake-in-Replace.ensures.ok, w.remake.ensures.encoded)
      | in_default+in_ok-remake-in_default w ↦ rw (w.self-is, w.meter-is) (w.remake-in_default.ensures.kept, w.in_ok-remake-in_default.ensures.ok, w.remake-in_default.ensures.encoded)
    ]

pub renumber-requires : goal.renumber-requires
renumber-requires c = (made (goal.at.renumber-requires c).Joined-edit).0

pub returns-clause-ok : goal.returns-clause-ok
returns-clause-ok c = c.renumber.ensures.texts ∙ (made (goal.at.returns-clause-ok c).Joined-edit).1

pub returns-clause-encoded : goal.returns-clause-encoded
returns-clause-encoded c = (made (goal.at.returns-clause-encoded c).Joined-edit).2
