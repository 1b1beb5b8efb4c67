use Rattle.std.proofs.Common.{◌≡◌, ◌∙◌, ◌<◌, ℕ, ap, sym, subst, arith, length}
use Rattle.chip_symbols.specs.Names.{Name}
use Rattle.chip_symbols.specs.Tables.{IsNumber, Tables, key_at}
use Rattle.chip_symbols.proofs.SymbolSteps.{found-kept}
use Rattle.chip_symbols.proofs.table.Table.number.Goals as goal
use Rattle.chip_symbols.proofs.table.Table.number.Goals.{in-Some, in-None+in_ok-index-in-None}

numbered : (t u : Tables) (number index at : ℕ) (name : Name) → t ≡ u → number ≡ index → index ≡ at → at < length u.keys → key_at u.keys at ≡ name → IsNumber t.keys (record { number = number }) name
numbered t u number index at name same is there h named =
    subst (λ (v : Tables). IsNumber v.keys (record { number = number }) name) (sym same) (record { within = omega (arith, is, there, h); named = ap (key_at u.keys) (is ∙ there) ∙ named })

pub returns-in-Ok-clause-id : goal.returns-in-Ok-clause-id
returns-in-Ok-clause-id c =
    elim c.match-get_index_of.branch [
      | in-Some w ↦ (
          let f = found-kept c.self.inside.keys.keys c.args.name.now w.in-Some.index (sym w.in-Some.ensures.index) in
          numbered c.match-get_index_of.self c.args.self.now c.in-Ok.number c.match-get_index_of.index w.in-Some.index c.args.name.now w.self-is c.in-Ok.ensures.1 w.index-is
          (subst (λ (t : Tables). w.in-Some.index < length t.keys) c.self.view_is f.0) (subst (λ (t : Tables). key_at t.keys w.in-Some.index ≡ c.args.name.now) c.self.view_is f.1))
      | in-None+in_ok-index-in-None w ↦
          numbered c.match-get_index_of.self w.add.new.self c.in-Ok.number c.match-get_index_of.index w.in_ok-index-in-None.index c.args.name.now w.self-is c.in-Ok.ensures.1 w.index-is
          w.in_ok-index-in-None.ensures.within w.in_ok-index-in-None.ensures.named
    ]
