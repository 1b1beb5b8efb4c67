use Rattle.std.proofs.Common.{rules, refl, ◌∙◌, ap, sym, arith}
use Rattle.chip_lang.specs.Line.{reading_of}
use Rattle.chip_asm.proofs.KeptSteps.{kept-same}
use Rattle.chip_asm.proofs.source.Source.replace.Goals as goal

pub invariant_of-self : goal.invariant_of-self
invariant_of-self c = kept-same c.self.inside.kept _ c.self.invariant refl refl refl refl c.read_kept.ensures.keys c.read_kept.ensures.symbols

pub edit-requires : goal.edit-requires
edit-requires c = record {
  kept = kept-same c.self.inside.kept _ c.self.invariant refl refl refl refl c.read_kept.ensures.keys c.read_kept.ensures.symbols;
  within = search rules;
  few = omega (arith, c.self.invariant.few, c.self.inside.kept.lines.ok.0);
  are_read = c.in_ok-added.ensures.reading ∙ ap reading_of (sym c.in_ok-added.ensures.text);
  infos = c.in_ok-added.ensures.info;
}
