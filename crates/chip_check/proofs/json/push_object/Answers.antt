use Rattle.std.proofs.Common.{append_assoc}
use Rattle.chip_check.specs.inner.Printing.{object_start}
use Rattle.chip_check.specs.Json.{object_with}
use Rattle.chip_check.proofs.json.push_object.Goals as goal

pub returns : goal.returns
unfolding object_with object_start
returns c =
    rw (
      c.in_ok-extend_from_slice-3.ensures.items,
      c.in_ok-push_quoted-2.ensures,
      c.in_ok-extend_from_slice-2.ensures.items,
      c.in_ok-push_hint_strings.ensures,
      c.deref-2.ensures.value,
      c.in_ok-extend_from_slice.ensures.items,
      c.in_ok-push_quoted.ensures,
      c.deref.ensures.value,
      c.in_ok-push_place.ensures,
    )
    (simp append_assoc)
