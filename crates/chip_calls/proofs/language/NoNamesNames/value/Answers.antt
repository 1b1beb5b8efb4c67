use Rattle.std.proofs.Common.{sym}
use Rattle.std.specs.FinMap.{get-empty}
use Rattle.std.specs.Ordering.{nat_cmp}
use Rattle.std.specs.Cmp.Lexicographic.{slice_cmp}
use Rattle.chip_calls.proofs.language.NoNamesNames.value.Goals as goal

pub returns : goal.returns
returns c = sym (get-empty (slice_cmp nat_cmp) c.args._name.now)
