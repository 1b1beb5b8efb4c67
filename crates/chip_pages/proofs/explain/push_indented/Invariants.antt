use Rattle.std.proofs.Common.{◌≡◌, ◌++◌, flat_map}
use Rattle.chip_pages.specs.Pages.{indented_line}
use Rattle.chip_pages.proofs.explain.push_indented.Given as goal

abbrev pub invariant-loop-line : goal.invariant-loop-line
invariant-loop-line l =
    l.text.items ≡ l.initial.text.items ++ flat_map (λ line. indented_line line.now) l.yielded
