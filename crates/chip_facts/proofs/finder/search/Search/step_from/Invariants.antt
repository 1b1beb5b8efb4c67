use Rattle.std.proofs.Common.{◌-◌}
use Rattle.chip_facts.proofs.finder.search.Search.step_from.Given as goal

abbrev pub decreases-loop-high : goal.decreases-loop-high
decreases-loop-high l = 256 - l.high

abbrev pub decreases-loop-low : goal.decreases-loop-low
decreases-loop-low l = 256 - l.low
