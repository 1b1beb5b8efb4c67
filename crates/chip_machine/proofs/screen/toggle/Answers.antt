use Rattle.std.proofs.Common.{◌≡◌, ◌∙◌, ℕ, Bool, true, not, ◌==◌, ◌||◌, length, sym, subst, ◌&&◌}
use Rattle.chip_machine.specs.inner.Stored.{AreTurned}
use Rattle.chip_machine.proofs.SpriteLemmas.{covers-clipped}
use Rattle.chip_machine.proofs.screen.toggle.Goals as goal

pub returns-then-is_clipped : goal.returns-then-is_clipped
returns-then-is_clipped c =
    let clipped : (not c.args.wraps && (not (length c.args.sprite.now == 32) || c.args.high)) ≡ true = sym c.is_clipped.ensures ∙ c.if-is_clipped.true in
    subst (λ (cover : ℕ → ℕ → Bool). AreTurned 0 64 cover c.args.rows.now c.toggle_clipped.new.rows c.toggle_clipped.result)
    (covers-clipped c.args.wraps c.args.high c.args.x c.args.y c.args.sprite.now clipped) c.toggle_clipped.ensures
