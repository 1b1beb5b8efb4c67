use Rattle.std.proofs.Common.{◌≡◌, ◌∙◌, ◌++◌, drop, ◌+◌, ◌≤◌, ℕ, ap, arith, get_or, length, sym, subst, take, vec_capacity}
use Rattle.std.specs.Global.{Vec}
use Rattle.chip_asm.specs.declared.block.Block.{Block}
use Rattle.chip_asm.specs.inner.Kept.{IsExchanged}
use Rattle.chip_asm.specs.inner.Passes.{Change, IsUnderWay}
use Rattle.chip_symbols.specs.Tables.{Tables}
use Rattle.chip_asm.proofs.PassSteps.{begun-way}
use Rattle.chip_asm.proofs.Resumed.{end-high, end-low}
use Rattle.chip_asm.proofs.LinesByPlace.{refilled}
use Rattle.chip_asm.proofs.kept.Kept.first_pass.Goals as goal
use Rattle.chip_asm.proofs.kept.Kept.first_pass.Goals.{After-deref_mut-3}

pub overflow_sub-here : goal.overflow_sub-here
overflow_sub-here c = (let x = c.requires.1 in omega (arith, x.at_address, end-low (take c.args.first c.requires.0.now)))

pub copy_front-requires-clause-end : goal.copy_front-requires-clause-end
copy_front-requires-clause-end c = (let x = c.requires.1 in omega (arith, x.at_address, end-high (take c.args.first c.requires.0.now), c.deref.ensures.len, ap (λ (v : Vec ℕ). v.len) c.swap.ensures.y_after, x.image_long))

image-refilled : (c : After-deref_mut-3) → c.deref_mut-3.result.now ≡ c.copy_front.new.image
image-refilled c = c.deref_mut-3.ensures.value ∙ refilled c.swap.new.x.len c.copy_front.new.image c.swap.new.x.items (c.copy_front.auto.image ∙ c.deref_mut.ensures.len)

-- the walk begins
begins : (c : After-deref_mut-3) (e : Change) → IsExchanged e c.args.self.now c.args.first c.args.here
    → IsUnderWay e c.deref-2.result.now c.resume-pass.result c.deref_mut-2.result.now c.new-tally.result c.deref-3.result.now c.deref_mut-3.result.now c.args.first
begins c e x =
    let image = image-refilled c in
    begun-way e c.args.self.now c.args.first c.args.here c.resume-pass.result c.deref-2.result.now c.deref_mut-2.result.now c.new-tally.result c.deref-3.result.now c.deref_mut-3.result.now x
    c.deref-2.ensures.value c.deref_mut-2.ensures.value (c.deref-3.ensures.value ∙ ap (λ (v : Vec ℕ). v.items) c.swap.ensures.y_after) c.new-tally.ensures.faults c.new-tally.ensures.end
    (omega (arith, ap length image, c.copy_front.auto.image, c.deref_mut.ensures.len, ap (λ (v : Vec ℕ). v.len) c.swap.ensures.x_after, x.spare_long))
    (λ k less. ap (λ l. get_or l k 0) image ∙ c.copy_front.ensures.front k less ∙ ap (λ l. get_or l k 0) (c.deref.ensures.value ∙ sym c.deref-3.ensures.value)) (λ k past. ap (λ l. get_or l k 0) image ∙ c.copy_front.ensures.zeros k past)
    (c.resume-pass.ensures.names ∙ c.replace-names.ensures.value) (λ before at high aligning ended blocks names. c.resume-pass.ensures.follows before at high aligning ended blocks (ap (λ (t : Tables). t.symbols) c.replace-names.ensures.value ∙ names))
    (λ left blocks names. c.resume-pass.ensures.room left (subst (λ (v : Vec Block). left ≤ vec_capacity v) (sym c.replace-blocks.ensures.value) blocks) (subst (λ (t : Tables). length t.symbols + left ≤ t.room) (sym c.replace-names.ensures.value) names))

pub walk-requires : goal.walk-requires
walk-requires c = (c.requires.0, begins (goal.at.walk-requires c).After-deref_mut-3 c.requires.0 c.requires.1)

pub returns-clause-passed : goal.returns-clause-passed
returns-clause-passed c = λ e x.
    (let placements = refilled c.args.self.now.layout.placements.len c.walk.new.placements c.args.self.now.layout.placements.items (c.walk.auto.placements ∙ c.deref_mut-2.ensures.len) in
    let now = refilled c.swap.new.x.len c.walk.new.image (take c.swap.new.x.len (c.copy_front.new.image ++ drop (length c.copy_front.new.image) c.swap.new.x.items)) (c.walk.auto.image ∙ c.deref_mut-3.ensures.len) in
    rw (placements, now, ← c.deref-2.ensures.value, ← c.deref-3.ensures.value) (c.walk.ensures e (begins (goal.at.returns-clause-passed c).After-deref_mut-3 e x)))
