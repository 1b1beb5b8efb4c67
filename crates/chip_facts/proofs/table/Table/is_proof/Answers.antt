use Rattle.std.proofs.Common.{◌≡◌, ◌<◌, ◌+◌, ◌*◌, ◌∙◌, length, get_or, ap, sym, subst, refl}
use Rattle.std.proofs.lemmas.Result.{IfOk-weaker}
use Rattle.chip_machine.specs.Start.{start_core, start_memory}
use Rattle.chip_facts.specs.Sets.{Holds}
use Rattle.chip_facts.proofs.Closed.{all_held, Starts}
use Rattle.chip_facts.proofs.table.Table.is_proof.Goals as goal

pub returns : goal.returns
returns c = IfOk-weaker c.is_closed.result _ _ (λ proof closed yes-it-is.
    let is : c.memory.result.now ≡ start_memory c.args.image.now = c.memory.ensures.value ∙ ap (λ m. m.memory) c.in-Ok.ensures.ok in
    let begins : Starts c.args.self.now c.args.image.now c.args.quirks = record {
      memory = λ at low. subst (λ m. Holds c.args.self.now.memory.items (256 * at + get_or m at 0)) is (c.if-not-has_memory.ensures.memory refl at low);
      flags = λ at high low. c.if-not-has_memory.ensures.flags refl at high low;
      row = λ tape. c.if-not-has_row.ensures refl (start_core tape c.args.quirks) (record { pc = refl; frames_are = refl; known = c.start.ensures (start_core tape c.args.quirks) refl refl refl refl });
      bytes = λ at. subst (λ m. get_or m at 0 < 256) is (c.if-not-has_memory.ensures.small at);
      size = ap length (sym is) ∙ c.memory.ensures.size;
    } in
    all_held c.args.self.now c.args.image.now c.args.quirks begins (closed yes-it-is)) c.is_closed.ensures
