use Rattle.std.proofs.Common.{rules, refl, ◌∙◌, ap, sym, arith}
use Rattle.chip_lang.specs.Line.{reading_of}
use Rattle.chip_asm.proofs.KeptSteps.{has-room, kept-same}
use Rattle.chip_asm.proofs.source.Source.insert.Goals as goal

pub invariant_of-self : goal.invariant_of-self
invariant_of-self c = kept-same c.self.inside.kept _ c.self.invariant refl refl refl refl c.read_kept.ensures.keys c.read_kept.ensures.symbols

pub edit-requires : goal.edit-requires
edit-requires c = record {
  kept = kept-same c.self.inside.kept _ c.self.invariant refl refl refl refl c.read_kept.ensures.keys c.read_kept.ensures.symbols;
  within = search rules;
  few = omega (arith, has-room c.len.result c.args.number c.args.text.now (sym c.insert_refusal.ensures ∙ c.in_default.is), c.len.ensures);
  are_read = c.in_ok-added.ensures.reading ∙ ap reading_of (sym c.in_ok-added.ensures.text);
  infos = c.in_ok-added.ensures.info;
}
