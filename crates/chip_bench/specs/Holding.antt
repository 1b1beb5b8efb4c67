-- A writer that buffers bytes, up to the first failure of the inner writer (chosen by this project).
use Rattle.std.specs.Prelude.{ℕ, List, Option}
use Rattle.std.specs.Io.KnownBytes.{append_known}

-- The inner writer, the number of its failed calls, the bytes that were accepted but haven't
-- reached it, and the maximum number of held bytes.
pub record Holding (W : Type 0) : Type 0 where
  pub inner : W
  pub failures : ℕ
  pub held : List ℕ
  pub most : ℕ

-- the accepted bytes: those that reached the inner writer, followed by those that are still held
abbrev pub taken_bytes : {W : Type 0} → (contents : W → Option (List ℕ)) → Holding W → Option (List ℕ)
taken_bytes contents holding = append_known (contents holding.inner) holding.held
