use Rattle.std.proofs.Common.{◌≡◌, ◌++◌, filter, length}
use Rattle.std.specs.Str.Lines.{lines}
use Rattle.chip_cases.specs.Matching.{is_some_line, lines_that_count, texts}
use Rattle.chip_cases.proofs.matching.lines_that_count.Given as goal

abbrev pub invariant-loop-place : goal.invariant-loop-place
invariant-loop-place l = texts l.counted.items ++ filter is_some_line (lines l.place.rest.now) ≡ lines_that_count l.fn.answer

abbrev pub decreases-loop-place : goal.decreases-loop-place
decreases-loop-place l = length l.place.rest.now
