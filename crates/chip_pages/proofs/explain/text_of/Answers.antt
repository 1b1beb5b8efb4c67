use Rattle.std.proofs.Common.{append_assoc}
use Rattle.std.proofs.lemmas.List.{append-nil}
use Rattle.chip_pages.specs.Pages.{page_text}
use Rattle.chip_pages.proofs.explain.text_of.Goals as goal

pub returns : goal.returns
unfolding page_text
returns c =
    rw (c.in_ok-push_all-2.ensures, c.in_ok-push_example.ensures, c.in_ok-push_all.ensures, c.new-text.ensures.items, c.last_label.ensures) (simp (append_assoc, append-nil))
