-- The types of the walks: the box of a session, the raw box, the owner and the allocator.
use mathlib.Core.List.{[]}
use mathlib.Core.Path.{◌≡◌, refl, sym, subst}
use lib.Dec.{T}
use mir.Syntax.{impl, tnil, dnil}
use Rattle.std.specs.Prelude.{Option, None, Some, is_some, true}
use denote.Signature.{Slot, plain}
use Rattle.std_alloc.proofs.BoxSteps.Form.{Bx}
use Rattle.std_heap.specs.contracts.Global as Heap
use Rattle.std_heap.specs.contracts.GlobalAllocator.TheImpl.{ghosts, dict}
use Rattle.std_heap.proofs.Global.TheLaws as heap_laws
use Rattle.chip_web.specs.contracts.opened.Opened as Opened
use Rattle.chip_web.proofs.opened.Opened.TheLaws as opened_laws
use Rattle.chip_web.specs.contracts.raw_box.RawBox as RawBox
use Rattle.chip_web.specs.contracts.owner.Owner as Owner

-- a box of a session on the heap
abbrev pub boxed : Bx
boxed = record {
  row = Opened.the_row;
  laws = opened_laws.the_row_laws;
  al = record { row = Heap.the_row; laws = heap_laws.the_row_laws; g = ghosts; d = dict; drops = impl [] tnil dnil };
}

abbrev pub raw_box : Slot 0
raw_box = plain (λ _. RawBox.the_row Opened.the_row Heap.the_row ghosts)

abbrev pub owner : Slot 0
owner = plain (λ _. Owner.the_row)

abbrev pub allocator : Slot 0
allocator = plain (λ _. Heap.the_row)

-- An option with a value is `Some` of that value.
pub there : {A : Type 0} (option : Option A) → is_some option ≡ true → (value : A) × (option ≡ Some value)
there None e = absurd (subst T (sym e) tt)
there (Some value) e = (value, refl)
