-- Runs in which a target is never met.
use Rattle.std.proofs.Common.{ℕ, zero, suc, Bool, List}
use Rattle.chip_explore.specs.Speeds.{run_ticking}
use Rattle.chip_facts.specs.Reached.{IsByteTape, IsReached}
use Rattle.chip_facts.specs.Reached.IsReached.{starts, steps}
use Rattle.chip_machine.specs.Start.{start_of}
use Rattle.chip_machine.specs.Step.{step_of}
use Rattle.chip_machine.specs.declared.quirks.Quirks.{Quirks}
use Rattle.chip_replay.specs.Run.{run}
use Rattle.chip_verdicts.specs.Verdict.{AvoidsAll, AvoidsAtAll}

module _ (image tape : List ℕ) (quirks : Quirks) (bytes : IsByteTape tape) (held : ℕ → ℕ) where
  run_reached : (rate t : ℕ) → IsReached image quirks (run step_of rate held (start_of image tape quirks) t)
  run_reached rate zero = starts tape bytes
  run_reached rate (suc t) = steps _ (run_reached rate t) (held t) _

  ticking_reached : (ticking : ℕ → Bool) (t : ℕ) → IsReached image quirks (run_ticking ticking held (start_of image tape quirks) t)
  ticking_reached ticking zero = starts tape bytes
  ticking_reached ticking (suc t) = steps _ (ticking_reached ticking t) (held t) (ticking t)

pub avoids_all : AvoidsAll
avoids_all image tape quirks target rate allowed n bytes never =
    λ held script t low. never _ (run_reached image tape quirks bytes held rate t)

pub avoids_at_all : AvoidsAtAll
avoids_at_all image tape quirks target allowed n bytes never =
    λ ticking held script t low. never _ (ticking_reached image tape quirks bytes held ticking t)
