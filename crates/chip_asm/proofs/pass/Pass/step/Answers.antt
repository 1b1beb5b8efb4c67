use Rattle.std.proofs.Common.{◌≡◌, ◌∙◌, ◌+◌, ap, refl, arith, w32, to_z, of_z}
use Rattle.std.proofs.lemmas.Int.{to_z-of_z}
use Rattle.chip_lang.specs.SeenLine.{seen_line}
use Rattle.chip_asm.specs.declared.pass.Pass.{Pass}
use Rattle.chip_asm.specs.Layout.{condition_of, body_of}
use Rattle.chip_asm.specs.computed.Walk.{placed}
use Rattle.chip_asm.specs.inner.Placements.{found}
use Rattle.chip_asm.proofs.Resumed.{follows-push}
use Rattle.chip_asm.proofs.pass.Pass.step.Goals as goal

pub returns-clause-passed : goal.returns-clause-passed
returns-clause-passed c = λ lines f n.
    let same : to_z w32 (of_z w32 c.place-placement.result.value) ≡ c.place-placement.result.value = grind (arith, to_z-of_z) in
    let holds : c.condition.result ≡ condition_of c.args.self.now.names.symbols (body_of (seen_line c.args.line.now)) = c.condition.ensures ∙ ap (condition_of c.args.self.now.names.symbols) c.body_or-body.ensures in
    follows-push c.args.self.now c.note_active.new.self lines (seen_line c.args.line.now) (c.args.at + 1) (found c.place-placement.result) (ap (λ k. k + 1) n) f (c.place-placement.ensures.placed (placed lines) f)
    (record {
      at_address = rw (c.note_active.ensures.rest, c.advance.ensures.here, c.define.ensures.rest, same, c.is_accepted-accepted.ensures, c.body_or-body.ensures) refl;
      aligning = rw (c.note_active.ensures.rest, c.advance.ensures.aligning, c.define.ensures.rest, c.is_accepted-accepted.ensures, c.body_or-body.ensures) refl;
      ended = rw (c.note_active.ensures.rest, c.advance.ensures.ended, c.define.ensures.rest, c.is_active-active.ensures, c.body_or-body.ensures) refl;
      names = rw (c.note_active.ensures.rest, c.advance.ensures.names, c.define.ensures.names, same, c.is_accepted-accepted.ensures) refl;
      open_blocks = λ nearest e.
          rw (c.note_active.ensures.rest, c.advance.ensures.blocks) (c.move_blocks.ensures.items nearest (ap (λ (p : Pass). p.blocks.items) c.define.ensures.rest ∙ e) ∙ (rw (holds, c.is_active-active.ensures, c.body_or-body.ensures) refl));
      active = c.note_active.ensures.active;
    })
