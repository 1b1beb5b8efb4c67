-- The image in the memory at the start.
use Rattle.std.proofs.Common.{◌≡◌, ℕ, ◌+◌, ◌-◌, ◌≤◌, ◌++◌, List, length, take, drop, replicate, refl, sym, ap, ◌∙◌, arith, append_assoc, length-append}
use Rattle.std.proofs.lemmas.List.{length-take-le, drop-replicate, take_at, drop_at, drop-drop}
use Rattle.chip_lang.specs.declared.limits.TheConstants.{IMAGE_BYTES, IMAGE_START, MEMORY_BYTES}
use Rattle.chip_machine.specs.State.{overwrite}
use Rattle.chip_machine.specs.Digits.{small_shapes, big_shapes, bytes_of}
use Rattle.chip_machine.specs.Start.{with_digits_and_image, zeros}
use Rattle.chip_machine.specs.ImageLaw.{ImageAndZeros, SameBelowTheImage}
use Rattle.chip_machine.specs.inner.Overwritten.{length-overwrite}

-- the bytes before the written ones stay
pub take-overwrite : (m : List ℕ) (i : ℕ) (bytes : List ℕ) → i ≤ length m → take i (overwrite m i bytes) ≡ take i m
unfolding overwrite
take-overwrite m i bytes fits = rw append_assoc (take_at (take i m) (bytes ++ drop (i + length bytes) m) i (length-take-le i m fits))

-- starting at the address there are the written bytes, and then the old bytes
pub drop-overwrite : (m : List ℕ) (i : ℕ) (bytes : List ℕ) → i ≤ length m → drop i (overwrite m i bytes) ≡ bytes ++ drop (i + length bytes) m
unfolding overwrite
drop-overwrite m i bytes fits = rw append_assoc (drop_at (take i m) (bytes ++ drop (i + length bytes) m) i (length-take-le i m fits))

-- past the written bytes, the old bytes stay
pub drop-overwrite_past : (m : List ℕ) (i : ℕ) (bytes : List ℕ) (n : ℕ) → i ≤ length m → drop (i + length bytes + n) (overwrite m i bytes) ≡ drop (i + length bytes + n) m
unfolding overwrite
drop-overwrite_past m i bytes n fits =
    let front : length (take i m ++ bytes) ≡ i + length bytes = length-append (take i m) bytes ∙ ap (λ k. k + length bytes) (length-take-le i m fits) in
    sym (drop-drop n (i + length bytes) ((take i m ++ bytes) ++ drop (i + length bytes) m))
    ∙ ap (drop n) (drop_at (take i m ++ bytes) (drop (i + length bytes) m) (i + length bytes) front)
    ∙ drop-drop n (i + length bytes) m

-- the digits, followed by zeros
abbrev digits_memory : List ℕ
digits_memory = overwrite (overwrite zeros 0 (bytes_of small_shapes)) 80 (bytes_of big_shapes)

length-zeros : length zeros ≡ MEMORY_BYTES
unfolding zeros
length-zeros = refl

length-digits : length digits_memory ≡ MEMORY_BYTES
length-digits =
    length-overwrite (overwrite zeros 0 (bytes_of small_shapes)) 80 (bytes_of big_shapes) (omega (arith, length-zeros, length-overwrite zeros 0 (bytes_of small_shapes) (omega (arith, length-zeros))))
    ∙ length-overwrite zeros 0 (bytes_of small_shapes) (omega (arith, length-zeros)) ∙ length-zeros

regrouped : (n : ℕ) → 180 + n ≡ 80 + (100 + n)
regrouped n = omega arith

-- past the digits, all bytes are 0
zeros_past : (n : ℕ) → drop (180 + n) digits_memory ≡ replicate (MEMORY_BYTES - (180 + n)) 0
unfolding zeros
zeros_past n =
    drop-overwrite_past (overwrite zeros 0 (bytes_of small_shapes)) 80 (bytes_of big_shapes) n (omega (arith, length-zeros, length-overwrite zeros 0 (bytes_of small_shapes) (omega (arith, length-zeros))))
    ∙ ap (λ k. drop k (overwrite zeros 0 (bytes_of small_shapes))) (regrouped n)
    ∙ drop-overwrite_past zeros 0 (bytes_of small_shapes) (100 + n) (omega (arith, length-zeros))
    ∙ ap (λ k. drop k zeros) (sym (regrouped n))
    ∙ drop-replicate (180 + n) MEMORY_BYTES 0

pub same_below_the_image : SameBelowTheImage
unfolding with_digits_and_image
same_below_the_image old new =
    let room : IMAGE_START ≤ length digits_memory = omega (arith, length-digits) in
    take-overwrite digits_memory IMAGE_START old room ∙ sym (take-overwrite digits_memory IMAGE_START new room)

pub image_and_zeros : ImageAndZeros
unfolding with_digits_and_image
image_and_zeros image small =
    let room : IMAGE_START ≤ length digits_memory = omega (arith, length-digits) in
    let past : IMAGE_START + length image ≡ 180 + (IMAGE_START - 180 + length image) = omega arith in
    let left : MEMORY_BYTES - (180 + (IMAGE_START - 180 + length image)) ≡ IMAGE_BYTES - length image = omega arith in
    drop-overwrite digits_memory IMAGE_START image room
    ∙ ap (λ d. image ++ d) (ap (λ k. drop k digits_memory) past ∙ zeros_past (IMAGE_START - 180 + length image) ∙ ap (λ k. replicate k 0) left)
