use Rattle.std.proofs.Common.{refl}
use Rattle.chip_trace.proofs.TraceLemmas.{open_remains}
use Rattle.chip_trace.proofs.trace.Trace.new.Goals as goal

pub returns-clause-lines : goal.returns-clause-lines
returns-clause-lines c = λ state. open_remains state _ refl
