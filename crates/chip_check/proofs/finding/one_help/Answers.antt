use Rattle.std.proofs.Common.{refl}
use Rattle.chip_check.specs.declared.hint.HintKind.TheVariants.{Help}
use Rattle.chip_check.proofs.finding.one_help.Goals as goal

pub returns : goal.returns
returns c = record {
  hint = record { kind = Help; sentence = c.in_ok-from_slice.field-0 };
  alone = rw (c.in_ok-push.ensures.items, c.new-hints.ensures.items) refl;
  kind = refl;
  says = c.in_ok-from_slice.ensures.items;
}
