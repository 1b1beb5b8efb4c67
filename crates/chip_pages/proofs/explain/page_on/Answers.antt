use Rattle.std.proofs.Common.{◌++◌}
use Rattle.std.proofs.lemmas.List.Folds.{find-append}
use Rattle.chip_pages.specs.Pages.{page_of}
use Rattle.chip_pages.proofs.PageLemmas.{all_codes, copied_or, or_assoc}
use Rattle.chip_pages.proofs.explain.page_on.Goals as goal

pub returns : goal.returns
unfolding page_of
returns c = record {
  pages = c.line_pages.result.now ++ (c.command_pages.result.now ++ (c.end_pages.result.now ++ c.word_pages.result.now));
  all = all_codes _ _ _ _ c.line_pages.ensures c.command_pages.ensures c.end_pages.ensures c.word_pages.ensures;
  found =
      rw (c.or-3.ensures, c.or-2.ensures, c.or.ensures)
      (simp (copied_or, or_assoc, find-append, c.page_among.ensures, c.page_among-2.ensures, c.page_among-3.ensures, c.page_among-4.ensures));
}
