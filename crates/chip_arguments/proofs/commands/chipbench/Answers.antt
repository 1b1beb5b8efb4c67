use Rattle.std.proofs.Common.{[], ◌∷◌}
use Rattle.clap.specs.Words.{App}
use Rattle.chip_arguments.specs.CommandLine.{asm, check, chipbench, debug, dis, explain, explore, licences, list, picture, prove, run, syms, test, trace, with_commands, with_search, with_settings, with_steps}
use Rattle.chip_arguments.proofs.CommandLemmas.{made_if_ok}
use Rattle.chip_arguments.proofs.commands.chipbench.Goals as goal

pub returns : goal.returns
unfolding chipbench asm check debug dis explain explore licences list picture prove run syms test trace with_search with_settings with_steps
returns c =
    made_if_ok (λ (app : App). with_commands app (debug ∷ asm ∷ list ∷ syms ∷ dis ∷ run ∷ trace ∷ picture ∷ check ∷ test ∷ explore ∷ prove ∷ explain ∷ licences ∷ [])) _
    c.with_commands.result c.in_ok-program.ensures c.with_commands.ensures
