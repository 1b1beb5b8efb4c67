use Rattle.std.proofs.Common.{◌≡◌, ◌++◌, take}
use Rattle.std.specs.List.{flat_map}
use Rattle.chip_pages.specs.Pages.{title_line}
use Rattle.chip_pages.proofs.explain.push_titles.Given as goal

abbrev pub invariant-loop-page : goal.invariant-loop-page
invariant-loop-page l = l.text.items ≡ l.initial.text.items ++ flat_map title_line (take l.page-index l.pages)
