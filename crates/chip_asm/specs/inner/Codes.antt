-- The code of a line, and the image (chosen by this project).
use Rattle.std.specs.Prelude.{◌≡◌, ℕ, ◌+◌, ◌-◌, ◌<◌, ◌≤◌, ◌&&◌, ◌++◌, Bool, List, [], drop, length, min, take, Option, None, Result, nat_le, nat_lt, if◌then◌else◌, slice_index}
use Rattle.chip_lang.specs.declared.fault.Fault.{Fault}
use Rattle.chip_lang.specs.declared.limits.TheConstants.{IMAGE_BYTES, IMAGE_START}
use Rattle.chip_lang.specs.Line.{Reading}
use Rattle.chip_asm.specs.declared.placement.Placement.{Placement}
use Rattle.chip_symbols.specs.declared.table.Table.{Table}
use Rattle.chip_asm.specs.Layout.{body_of}
use Rattle.chip_asm.specs.inner.KeptLine.{KeptLine}
use Rattle.chip_asm.specs.inner.Placements.{is_accepted}
use Rattle.chip_asm.specs.inner.Infos.{has_code}
use Rattle.chip_asm.specs.inner.Records.{reading_in}
use Rattle.chip_asm.specs.computed.Walk.{placed}
use Rattle.chip_asm.specs.Program.{byte_at, bytes_in_code, code_with, fault_in_code}

-- the code of a stored line under a table of names
abbrev pub code_kept : Table → KeptLine → Result (List ℕ) Fault
code_kept names kept = code_with names.symbols (reading_in kept)

-- the bytes of a stored line with a placement, the fault of its code, and whether it is encoded
abbrev pub kept_bytes : Table → KeptLine → Placement → List ℕ
kept_bytes names kept q = if is_accepted q.status then bytes_in_code (code_kept names kept) else []

abbrev pub kept_fault : Table → KeptLine → Placement → Option Fault
kept_fault names kept q = if is_accepted q.status then fault_in_code (code_kept names kept) else None

abbrev pub is_coded : KeptLine → Placement → Bool
is_coded kept q = is_accepted q.status && has_code (body_of (reading_in kept))

-- the byte at an index of the image
abbrev pub right_byte : List Reading → ℕ → ℕ
right_byte lines k = byte_at (placed lines) (IMAGE_START + k)

-- each byte of the image is the byte at its address, even if a line has a fault; past the stored
-- bytes there are zeros
pub record IsImageOf (image : List ℕ) (lines : List Reading) : Type 0 where
  pub imaged : (k : ℕ) → k < IMAGE_BYTES → slice_index image k ≡ right_byte lines k
  pub short : length image ≤ IMAGE_BYTES
  pub long : 0 < length lines → length image ≡ IMAGE_BYTES

-- true if the line covers the byte
abbrev pub covers_byte : Placement → ℕ → Bool
covers_byte q k = nat_le q.here (IMAGE_START + k) && nat_lt (IMAGE_START + k) (q.here + q.size)

-- the bytes of a line are written, and no other byte changes
abbrev pub IsWritten : Placement → (bytes old new : List ℕ) → Type 0
IsWritten q bytes old new =
    (k : ℕ)
    → slice_index new k
    ≡ (if covers_byte q k then slice_index bytes (IMAGE_START + k - q.here)
    else slice_index old k)

-- the bytes of a line, copied from its old place to its new place, up to the smaller of its two
-- sizes
abbrev pub copied_bytes : (was now : Placement) → (from : List ℕ) → List ℕ
copied_bytes was now from = take (min was.size now.size) (drop (was.here - IMAGE_START) from)

abbrev pub IsCopied : (was now : Placement) → (from old new : List ℕ) → Type 0
IsCopied was now from old new =
    new
    ≡ take (now.here - IMAGE_START) old
    ++ (copied_bytes was now from
    ++ drop (now.here - IMAGE_START + length (copied_bytes was now from)) old)
