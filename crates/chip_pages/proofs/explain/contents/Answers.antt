use Rattle.std.proofs.Common.{◌++◌, append_assoc}
use Rattle.std.proofs.lemmas.Grind.{flat_map-append}
use Rattle.chip_pages.specs.Pages.{contents_text}
use Rattle.chip_pages.proofs.PageLemmas.{all_codes}
use Rattle.chip_pages.proofs.explain.contents.Goals as goal

pub returns : goal.returns
unfolding contents_text
returns c = record {
  pages = c.line_pages.result.now ++ (c.command_pages.result.now ++ (c.end_pages.result.now ++ c.word_pages.result.now));
  all = all_codes _ _ _ _ c.line_pages.ensures c.command_pages.ensures c.end_pages.ensures c.word_pages.ensures;
  text_is =
      rw (c.in_ok-push_titles-4.ensures, c.in_ok-push_titles-3.ensures, c.in_ok-push_titles-2.ensures, c.in_ok-push_titles.ensures, c.new-text.ensures.items)
      (simp (append_assoc, flat_map-append));
}
