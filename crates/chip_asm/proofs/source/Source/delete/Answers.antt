use Rattle.std.proofs.Common.{rules, arith}
use Rattle.chip_asm.proofs.source.Source.delete.Goals as goal

pub edit-requires : goal.edit-requires
edit-requires c = record {
  kept = c.self.invariant;
  within = search rules;
  few = omega (arith, c.self.invariant.few, c.self.inside.kept.lines.ok.0);
  are_read = tt;
  infos = tt;
}
