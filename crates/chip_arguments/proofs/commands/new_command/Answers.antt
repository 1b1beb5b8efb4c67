use Rattle.std.proofs.Common.{◌∙◌, ap}
use Rattle.clap.specs.Simple.{app_of_fields}
use Rattle.chip_arguments.proofs.commands.new_command.Goals as goal

pub returns : goal.returns
returns c = record {
  shape = ap app_of_fields c.after_help.ensures ∙ ap app_of_fields c.about.ensures ∙ c.new.ensures.app;
  local = ap (λ (fields : _). fields.has_globals) c.after_help.ensures ∙ ap (λ (fields : _). fields.has_globals) c.about.ensures ∙ c.new.ensures.local;
}
