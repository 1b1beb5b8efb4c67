use Rattle.std.proofs.Common.{arith}
use Rattle.chip_explore.proofs.question.search_once.Goals as goal

pub returns : goal.returns
returns g c =
    let start = c.in_ok-searched.ensures.searched.begins in
    let told = c.explored_by-explored.ensures in
    record {
      says = rw start at told.says;
      few = omega (arith, c.in_ok-searched.ensures.few);
      any_speed = λ yes. rw start at (told.any_speed yes);
    }
