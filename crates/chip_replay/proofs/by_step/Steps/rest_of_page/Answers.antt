use Rattle.std.proofs.Common.{◌≡◌, ◌+◌, ◌-◌, ◌<◌, ◌∙◌, ℕ, List, length, take, drop, slice_index_or, sym, ap, arith}
use Rattle.std.proofs.lemmas.List.{take_all, length-drop, get_or-drop}
use Rattle.std.specs.Global.{Vec}
use Rattle.chip_replay.specs.inner.Changes.{all_events}
use Rattle.chip_replay.specs.declared.by_step.Event.{Event}
use Rattle.chip_replay.proofs.Pages.{list_inside, element, count_within}
use Rattle.chip_replay.proofs.by_step.Steps.rest_of_page.Goals as goal

rest : (xs : List Event) (n : ℕ) → take (length xs - n) (drop n xs) ≡ drop n xs
rest xs n = take_all (length xs - n) (drop n xs) (omega (arith, length-drop n xs))

pub returns-clause-within : goal.returns-clause-within
returns-clause-within c =
    let pages = c.args.self.now.pages.items in
    let page = c.index.result.now in
    let at = c.args.place.index in
    let xs = c.deref.result.now in
    let within = list_inside (λ (p : Vec Event). p.items) pages c.args.place.page at c.requires.there in
    let inside : at < length page.items = omega (arith, c.requires.place page within, ap (λ (p : Vec Event). length p.items) c.index.ensures) in
    omega (arith, inside, ap length (rest xs at), length-drop at xs, ap length c.deref.ensures.value, count_within (λ (p : Vec Event). p.items) pages c.args.place.page page within c.index.ensures)

pub returns-clause-same : goal.returns-clause-same
returns-clause-same c = λ i d l.
    let pages = c.args.self.now.pages.items in
    let page = c.index.result.now in
    let at = c.args.place.index in
    let xs = c.deref.result.now in
    let within = list_inside (λ (p : Vec Event). p.items) pages c.args.place.page at c.requires.there in
    let items : xs ≡ page.items = c.deref.ensures.value in
    let inside : at + i < length page.items = omega (arith, l, ap length (rest xs at), length-drop at xs, ap length items) in
    ap (λ n. slice_index_or (all_events pages) n d) (omega arith)
    ∙ element (λ (p : Vec Event). p.items) pages c.args.place.page page within c.index.ensures (at + i) d inside
    ∙ sym (ap (λ ys. slice_index_or ys i d) (rest xs at) ∙ get_or-drop at xs i d ∙ ap (λ ys. slice_index_or ys (at + i) d) items)
