-- The things that an owner of a session owns (chosen by this project).
use base.Fml.{Fml, ftrue}
use base.Stored.{Coded}
use denote.RawPtr.{Ptr}
use Rattle.std.specs.Prelude.{None, Some}
use Rattle.std.specs.declared.option.Option.{Option}
use Rattle.std.specs.Coded.{coded_option}
use Rattle.std.specs.Box.Ownership.{box_owns}
use Rattle.std.specs.Global.{Global}
use Rattle.std_heap.specs.contracts.GlobalAllocator.TheImpl.{ghosts}
use Rattle.chip_web.specs.contracts.opened.Opened.{the_row}

-- An owner with a session owns what a box of the session owns, and an owner without a session owns nothing.
abbrev pub owns_session : Global → Ptr → Option the_row.Denot → Fml
owns_session allocator pointer session = elim session [
  | None ↦ ftrue
  | Some opened ↦ box_owns (ghosts.dealloc_token allocator) the_row pointer opened
]

-- how the logic stores an optional session
abbrev pub opened_code : Coded (Option the_row.Denot)
opened_code = coded_option the_row.coded
