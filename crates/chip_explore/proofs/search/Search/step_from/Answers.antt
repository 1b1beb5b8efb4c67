use Rattle.std.proofs.Common.{rules, ◌≡◌, ◌∙◌, ◌<◌, Option, Some, false, is_some, refl, slice_index, ◌-◌, ◌^◌, suc, None, sym, arith}
use Rattle.std.proofs.lemmas.Grind.{get_or_default_zero}
use Rattle.chip_machine.specs.Step.{step_of}
use Rattle.chip_explore.specs.inner.Cover.{forgotten_at, tick_at, view_of}
use Rattle.chip_explore.specs.inner.Delays.{timed_register}
use Rattle.chip_explore.proofs.search.Search.step_from.Goals as goal

none_of : {A : Type 0} (option : Option A) → is_some option ≡ false → option ≡ None
none_of None h = refl
none_of (Some value) h = absurd (cc)

pub returns-clause-path : goal.returns-clause-path
returns-clause-path c = λ yes ranks rank most climbs.
    let p = c.args.setting.now in
    let m = c.args.self.now.members in
    let s = (view_of m).member c.args.place in
    let keys = c.args.keys in
    let t = slice_index m.steps.items c.args.place in
    let count = c.requires.holds.forgotten in
    let kept = c.requires.kept in
    let there : c.index.result.now ≡ forgotten_at (view_of m) c.args.place =
    c.index.ensures ∙ get_or_default_zero m.forgotten.items c.args.place c.index.result.now (omega arith) in
    let here : c.load.new.machine ≡ s = c.in_ok-load.ensures (search rules) in
    let made : c.step.new.self ≡ step_of s keys (tick_at p t) = cc in
    let unread = none_of c.timed_register.result (sym c.is_some.ensures ∙ c.if-is_some.false) in
    let none : timed_register p s ≡ None = cc in
    let low : s.core.draws < 2 ^ 64 - 1 = rw (← here) (omega (arith, c.draws.ensures)) in
    let unneeded = rw (there, here) at c.in-Ok.ensures.unneeded in
    let is_after = rw (there, here) at (c.in-Ok.ensures.after (tick_at p t)) in
    let path = rw made at climbs.path in
    let few = climbs.few in
    record {
      moves = suc climbs.moves;
      few = omega arith;
      path = (record { untimed = none; drawn = low }, unneeded, (keys, c.if-keys-setting.false, (c.in-Ok.after, is_after, path)));
    }
