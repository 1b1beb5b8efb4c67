use Rattle.std.proofs.Common.{◌≡◌, ℕ, List, length, map, refl, slice_index}
use Rattle.std.specs.List.{range_with_len}
use Rattle.std.proofs.lemmas.List.FromFn.{fill_by_all}
use Rattle.hex.specs.Hex.{encode_with}
use Rattle.chip_trace.proofs.line.write_fixed_fields.Goals as goal

-- the registers, one by one
sixteen : (registers : List ℕ) → length registers ≡ 16 → registers ≡ map (slice_index registers) (range_with_len 0 16)
sixteen registers size = fill_by_all (slice_index registers) registers 16 0 size (λ k lt. refl)

pub write_spaced_bytes-requires : goal.write_spaced_bytes-requires
unfolding encode_with
write_spaced_bytes-requires c =
    rw (c.registers.ensures.size, c.copy_from_slice-2.ensures.after, c.word_digits-2.ensures, c.copy_from_slice.ensures.after, c.word_digits.ensures, c.requires) refl

pub write_spaced_bytes-requires-2 : goal.write_spaced_bytes-requires-2
unfolding encode_with
write_spaced_bytes-requires-2 c =
    rw (
      c.copy_from_slice-3.ensures.after,
      c.word_digits-3.ensures,
      c.write_spaced_bytes.ensures,
      sixteen c.registers.result.now c.registers.ensures.size,
      c.copy_from_slice-2.ensures.after,
      c.word_digits-2.ensures,
      c.copy_from_slice.ensures.after,
      c.word_digits.ensures,
      c.requires,
    )
    refl

pub returns : goal.returns
unfolding encode_with
returns c =
    rw (
      c.write_spaced_bytes-2.ensures,
      c.sound.ensures,
      c.delay.ensures,
      c.copy_from_slice-3.ensures.after,
      c.word_digits-3.ensures,
      c.index.ensures,
      c.write_spaced_bytes.ensures,
      sixteen c.registers.result.now c.registers.ensures.size,
      c.registers.ensures.value,
      c.copy_from_slice-2.ensures.after,
      c.word_digits-2.ensures,
      c.word_of.ensures,
      c.copy_from_slice.ensures.after,
      c.word_digits.ensures,
      c.pc.ensures,
      c.requires,
    )
    refl
