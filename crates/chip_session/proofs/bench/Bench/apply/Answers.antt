use Rattle.std.proofs.Common.{List, Option, ℕ, subst, sym}
use Rattle.std.specs.Prelude.{IfSome}
use Rattle.chip_asm.specs.Program.{image_of}
use Rattle.chip_replay.specs.Image.{AgreeOutside}
use Rattle.chip_session.proofs.ImageLemmas.{outside_written}
use Rattle.chip_session.proofs.bench.Bench.apply.Goals as goal
use Rattle.chip_session.proofs.bench.Bench.apply.Goals.{in-Insert+in_ok-insert-in-Insert, in-Replace+in_ok-written-in-Replace, in-Delete+in_ok-delete-in-Delete}

pub follow-requires-clause-alike : goal.follow-requires-clause-alike
follow-requires-clause-alike c =
    let told : IfSome c.match-edit.written (λ places. IfSome (image_of c.match-edit.self-inside.source.lines) (AgreeOutside places.start places.end c.match-edit.self-inside.run.last_image))
    = elim c.match-edit.branch [
      | in-Insert+in_ok-insert-in-Insert w ↦ rw w.written-is tt
      | in-Replace+in_ok-written-in-Replace w ↦ rw (w.written-is, w.self-inside-is) (outside_written (image_of c.self.inside.source.lines) _ _ _ c.self.invariant w.in_ok-written-in-Replace.ensures.written)
      | in-Delete+in_ok-delete-in-Delete w ↦ rw w.written-is tt
    ] in
    subst (λ (after : Option (List ℕ)). IfSome c.match-edit.written (λ places. IfSome after (AgreeOutside places.start places.end c.match-edit.self-inside.run.last_image))) (sym c.image.ensures.value) told
