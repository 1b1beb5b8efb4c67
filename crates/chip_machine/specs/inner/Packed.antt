-- Proofs, which a reader may skip: a set of forgotten parts and bytes as one number, and the fields
-- that the number consists of.
-- Source: chosen by this project.
use Rattle.std.proofs.Common.{◌≡◌, ℕ, ◌+◌, ◌*◌, ◌/◌, ◌%◌, ◌^◌, ◌<◌, ap, ◌∙◌}
use Rattle.std.proofs.lemmas.Nat.{div-mul-add, mod-mul-add}
use Rattle.chip_machine.specs.declared.forgotten.Forgotten.TheInside.{Inside}

abbrev pub packed : (parts window bytes : ℕ) → ℕ
packed parts window bytes = (bytes * 2 ^ 16 + window) * 2 ^ 32 + parts

module _ (p w b : ℕ) (low : p < 2 ^ 32) where
  pub parts_packed : packed p w b % 2 ^ 32 ≡ p
  parts_packed = mod-mul-add (b * 2 ^ 16 + w) (2 ^ 32) p low

  above_packed : packed p w b / 2 ^ 32 ≡ b * 2 ^ 16 + w
  above_packed = div-mul-add (b * 2 ^ 16 + w) (2 ^ 32) p low

  pub window_packed : w < 2 ^ 16 → packed p w b / 2 ^ 32 % 2 ^ 16 ≡ w
  window_packed small =
      ap (λ (n : ℕ). n % 2 ^ 16) above_packed ∙ mod-mul-add b (2 ^ 16) w small

  pub bytes_packed : w < 2 ^ 16 → packed p w b / 2 ^ 32 / 2 ^ 16 ≡ b
  bytes_packed small =
      ap (λ (n : ℕ). n / 2 ^ 16) above_packed ∙ div-mul-add b (2 ^ 16) w small

abbrev pub AreSmall : (parts window : ℕ) → Type 0
AreSmall parts window = (parts < 2 ^ 32) × (window < 2 ^ 16)

abbrev pub unpacked : ℕ → Inside
unpacked n =
    record { parts = n % 2 ^ 32; window = n / 2 ^ 32 % 2 ^ 16; bytes = n / 2 ^ 32 / 2 ^ 16 }

pub unpacked_packed : (a : Inside) → AreSmall a.parts a.window
    → unpacked (packed a.parts a.window a.bytes) ≡ a
unpacked_packed a small =
    ap (λ (p : ℕ). let i : Inside = record { parts = p; window = packed a.parts a.window a.bytes / 2 ^ 32 % 2 ^ 16; bytes = packed a.parts a.window a.bytes / 2 ^ 32 / 2 ^ 16 } in i)
    (parts_packed a.parts a.window a.bytes small.0)
    ∙ ap (λ (w : ℕ). let i : Inside = record { parts = a.parts; window = w; bytes = packed a.parts a.window a.bytes / 2 ^ 32 / 2 ^ 16 } in i)
    (window_packed a.parts a.window a.bytes small.0 small.1)
    ∙ ap (λ (b : ℕ). let i : Inside = record { parts = a.parts; window = a.window; bytes = b } in i)
    (bytes_packed a.parts a.window a.bytes small.0 small.1)
