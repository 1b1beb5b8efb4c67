use Rattle.std.proofs.Common.{◌≡◌, ℕ, ◌+◌, ◌-◌, ◌*◌, ◌/◌, ◌≤◌, ◌++◌, ◌∙◌, length, if◌then◌else◌, take, drop, map, nat_lt, ap, subst, arith}
use Rattle.chip_replay.specs.Limits.{never}
use Rattle.chip_replay.specs.declared.kept.TheConstants.{PART}
use Rattle.chip_replay.proofs.Parts.{map_part_more, map_part_last}
use Rattle.chip_replay.proofs.kept.cut.Goals as goal

pub loop-place-preserved : goal.loop-place-preserved
loop-place-preserved c =
    let f = λ (first : ℕ). if nat_lt first c.args.reach then first else never in
    let items = c.args.first_touch.now in
    let start = c.loop-place.place * PART in
    let size = start + PART - start in
    let next : start + size ≡ (c.loop-place.place + 1) * PART = omega arith in
    let fits : start + size ≤ length items = omega (arith, c.loop-place-test.true) in
    map_part_more f items c.loop-place.first_touch c.cut_part.new.part start size fits c.loop-place.invariant c.cut_part.ensures
    ∙ ap (λ (m : ℕ). map f (take m items) ++ drop m items) next

pub returns : goal.returns
returns c =
    let f = λ (first : ℕ). if nat_lt first c.args.reach then first else never in
    let items = c.args.first_touch.now in
    let table = c.loop-place.first_touch in
    let ended : c.loop-place.place ≡ length items / PART = omega (arith, c.loop-place-test.false, c.loop-place.auto.place-end) in
    let so_far : table ≡ map f (take (length items / PART * PART) items) ++ drop (length items / PART * PART) items =
    subst (λ (m : ℕ). table ≡ map f (take (m * PART) items) ++ drop (m * PART) items) ended c.loop-place.invariant in
    map_part_last f items table c.cut_each.new.first_touch (length items / PART * PART) (omega arith) c.loop-place.auto.first_touch so_far c.cut_each.ensures
