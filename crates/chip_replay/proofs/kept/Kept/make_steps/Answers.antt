use Rattle.std.proofs.Common.{◌≡◌, ℕ, ◌+◌, ◌<◌, ◌++◌, List, take, length, slice_index, ap, sym, ◌∙◌, rules}
use Rattle.std.proofs.Math.Seq.{take-append_seam}
use Rattle.chip_machine.specs.Touched.{touched}
use Rattle.chip_machine.specs.Block.{first_noted}
use Rattle.chip_replay.specs.Limits.{memory_size}
use Rattle.chip_replay.specs.Keys.{held}
use Rattle.chip_replay.proofs.Blocks.{block_is, table_block}
use Rattle.chip_replay.proofs.ByStep.{knows_same}
use Rattle.chip_replay.proofs.kept.Kept.make_steps.Goals as goal

written : (n : ℕ) (xs rest : List ℕ) → n ≡ length xs → take n (xs ++ rest) ≡ xs
written n xs rest e = ap (λ m. take m (xs ++ rest)) e ∙ take-append_seam xs rest

pub returns-in-Some-clause-noted : goal.returns-in-Some-clause-noted
returns-in-Some-clause-noted g c = λ start reach was. c.idle_until.ensures.noted (search rules) c.args.rate start reach was

pub returns-clause-noted : goal.returns-clause-noted
returns-clause-noted g c = λ start reach was.
    let m = g.M.Traced in
    let now = c.args.self.now in
    let keys = held c.args.keys.now in
    let noted = λ (a : ℕ) (la : a < memory_size). c.steps.ensures.noted a la
    ∙ ap (λ xs. first_noted m.step_of c.args.rate keys c.args.at now.current (touched m.touches) a (slice_index xs a) c.args.count) c.deref_mut.ensures.value in
    record {
      current = c.steps.ensures.state ∙ block_is m.step_of (touched m.touches) c.args.rate keys start c.args.at now.current was.current c.args.count;
      table = rw (written now.first_touch.len c.steps.new.first_touch _ (sym c.deref_mut.ensures.len ∙ ap length c.deref_mut.ensures.value ∙ c.requires.table ∙ sym c.steps.ensures.size))
          (table_block m.step_of (touched m.touches) c.args.rate keys start c.args.at now.current was.current reach c.args.count now.first_touch.items c.steps.new.first_touch
          c.requires.in_range c.steps.ensures.size noted was.table);
    }

pub returns-clause-holding : goal.returns-clause-holding
returns-clause-holding g c =
    knows_same c.args.keys.now c.steps.new.keys.keys.now (c.args.at + c.args.count) c.steps.new.keys.holding c.steps.ensures.keys c.steps.ensures.ready
