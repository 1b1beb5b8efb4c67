use Rattle.std.proofs.Common.{append_assoc}
use Rattle.chip_pages.proofs.explain.push_example.Goals as goal

pub returns-in_ok-push_indented-in-Script-2 : goal.returns-in_ok-push_indented-in-Script-2
returns-in_ok-push_indented-in-Script-2 c =
    rw (c.in_ok-push_indented-in-Script-2.ensures, c.in_ok-push_indented-in-Script.ensures, c.in-Script.is) (simp append_assoc)

pub returns-in_ok-push_indented-in-Answer-3 : goal.returns-in_ok-push_indented-in-Answer-3
returns-in_ok-push_indented-in-Answer-3 c =
    rw (c.in_ok-push_indented-in-Answer-3.ensures, c.in_ok-push_indented-in-Answer-2.ensures, c.in_ok-push_indented-in-Answer.ensures, c.in-Answer.is) (simp append_assoc)
