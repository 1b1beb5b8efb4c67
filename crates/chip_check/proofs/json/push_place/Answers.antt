use Rattle.std.proofs.Common.{append_assoc}
use Rattle.std.proofs.lemmas.List.{append-nil}
use Rattle.chip_check.specs.inner.Printing.{object_start}
use Rattle.chip_check.proofs.json.push_place.Goals as goal

pub returns : goal.returns
unfolding object_start
returns c =
    rw (c.in_ok-push_all.ensures, c.deref.ensures.value, c.as_bytes.ensures.value, c.in_ok-place.ensures.ok)
    (simp (append_assoc, append-nil))
