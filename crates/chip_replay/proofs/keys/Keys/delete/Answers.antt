use Rattle.std.proofs.Common.{◌≡◌, ◌+◌, ◌<◌, None, cond, length, is_some, sym, ap, ◌∙◌}
use Rattle.std.specs.FinMap as map
use Rattle.chip_replay.specs.declared.keys.Moment.{Moment}
use Rattle.chip_replay.specs.Keys.{Events, event_at, edit_fault}
use Rattle.chip_replay.specs.inner.Changes.{all_events}
use Rattle.chip_replay.proofs.Moments.{one_removed, len_removed}
use Rattle.chip_replay.proofs.KeyFacts.{says_set, event_at-remove, there_if_no_fault, key_if_no_fault}
use Rattle.chip_replay.proofs.keys.Keys.delete.Goals as goal

pub remove-requires-2-clause-there : goal.remove-requires-2-clause-there
remove-requires-2-clause-there c =
    let no_fault : edit_fault c.args.self.now c.args.step c.args.key ≡ None = sym c.edit_fault.ensures ∙ c.in_default.is in
    let in_range : c.args.key < 16 = key_if_no_fault c.args.self.now c.args.step c.args.key no_fault in
    ap is_some (c.self.invariant.1 c.args.step c.args.key in_range ∙ ap (λ (e : Events). event_at e c.args.step c.args.key) c.self.view_is)
    ∙ there_if_no_fault c.args.self.now c.args.step c.args.key no_fault

pub invariant_of-self : goal.invariant_of-self
invariant_of-self c =
    let m : Moment = record { step = c.args.step; key = c.args.key } in
    let es = c.self.inside.events.entries in
    let fs = c.remove.new.self.entries in
    let before : Events = map.from_entries es in
    let later : Events = map.from_entries fs in
    let is : later ≡ map.remove before m = one_removed es fs m c.remove.ensures.updates.0 in (
      len_removed es fs m is c.self.invariant.0 (ap (λ o. length fs + cond (is_some o) 1 0) (sym c.remove.ensures.value) ∙ c.remove.ensures.len),
      says_set before later (all_events c.self.inside.steps.pages.items) (all_events c.remove-2.new.self.pages.items) c.args.step c.args.key _ c.self.invariant.1 c.remove-2.ensures.set
          (λ s k. ap (λ (e : Events). event_at e s k) is ∙ event_at-remove before c.args.step c.args.key s k),
      c.remove-2.ensures.in_order,
    )

pub returns-clause-ok : goal.returns-clause-ok
returns-clause-ok c =
    let m : Moment = record { step = c.args.step; key = c.args.key } in
    one_removed c.self.inside.events.entries c.remove.new.self.entries m c.remove.ensures.updates.0 ∙ ap (λ (e : Events). map.remove e m) c.self.view_is
