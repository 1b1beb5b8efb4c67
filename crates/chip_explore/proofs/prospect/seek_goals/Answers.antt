use Rattle.std.proofs.Common.{◌≡◌, ◌≢◌, ◌==◌, List, [], length, true, ap, sym, ◌∙◌}
use Rattle.chip_explore.specs.declared.property.Property.{Property}
use Rattle.chip_explore.specs.declared.target.Target.{Target}
use Rattle.chip_explore.proofs.Lost.{lost_from}
use Rattle.chip_explore.proofs.prospect.seek_goals.Goals as goal

pub returns : goal.returns
returns g c = λ yes start keys fresh script there t after below.
    let law = c.alike_steps.ensures in
    let p = c.args.setting.now in
    let like = c.in_ok-searched.ensures in
    let q = c.in_ok-searched.searched.setting in
    let m = c.in_ok-searched.searched.search.members in
    let base = c.args.beginning.now.machine.now in
    let first = c.args.beginning.now.step in
    let sought = c.for_goals-sought.ensures in
    let rate : q.rate ≡ p.rate = like.same.rate ∙ sought.rate in
    let allowed : q.allowed ≡ p.allowed = like.same.allowed ∙ sought.allowed in
    let properties : q.target.properties.now ≡ p.goals.now = ap (λ (t : Target). t.properties.now) like.same.target ∙ sought.target in
    let some : q.target.properties.now ≢ [] = λ none. let empty : p.goals.now ≡ [] = sym properties ∙ none in let yes : c.is_empty.result ≡ true = c.is_empty.ensures ∙ ap (λ (goals : List Property). length goals == 0) empty in let no = c.if-is_empty.false in absurd (cc) in
    rw (← rate, ← properties) (lost_from law.alike law.draws q m base first like.searched (c.is_whole.ensures yes) c.requires.going
    (ap (λ (t : Target). t.address) like.same.target ∙ sought.address) some start keys fresh (rw allowed script) (rw rate there) t after below)
