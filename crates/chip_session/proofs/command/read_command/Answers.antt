use Rattle.std.proofs.Common.{◌∙◌, sym, ap, subst}
use Rattle.chip_session.specs.CommandView.{Reads}
use Rattle.chip_session.specs.Commands.{worded, skip_spaces, is_space}
use Rattle.std.specs.List.{before_first}
use Rattle.chip_session.proofs.ScriptLemmas.{too_long, read_blank, read_named}
use Rattle.chip_session.proofs.command.read_command.Goals as goal

pub returns-then-line-gt-COMMAND_BYTES : goal.returns-then-line-gt-COMMAND_BYTES
returns-then-line-gt-COMMAND_BYTES c = too_long c.args.line.now c.if-line-gt-COMMAND_BYTES.true

pub returns-then-is_blank : goal.returns-then-is_blank
returns-then-is_blank c = read_blank c.args.line.now c.if-line-gt-COMMAND_BYTES.false (sym c.is_blank.ensures ∙ c.if-is_blank.true)

pub returns : goal.returns
returns c =
    let named = ap (λ word. worded word c.skip_spaces.result.now) c.split_word.ensures.word ∙ ap (worded (before_first is_space c.args.line.now)) (c.skip_spaces.ensures ∙ ap skip_spaces c.split_word.ensures.rest) in
    subst (Reads c.command_named.result) (named ∙ sym (read_named c.args.line.now c.if-line-gt-COMMAND_BYTES.false (sym c.is_blank.ensures ∙ c.if-is_blank.false))) c.command_named.ensures
