-- Hexadecimal digits of a text.
use Rattle.std.proofs.Common.{◌≡◌, ℕ, zero, suc, ◌+◌, ◌-◌, ◌*◌, ◌/◌, ◌%◌, ◌<◌, ◌≤◌, inl, inr, List, [], ◌∷◌, ◌++◌, length, take, drop, slice_index, slice_set, refl, ap, sym, ◌∙◌, arith}
use Rattle.std.specs.List.{between}
use Rattle.std.proofs.lemmas.Bool.{cases_lt}
use Rattle.std.proofs.lemmas.List.{append_assoc, drop-drop, get_or-set_other, get_or-set_same, length-append, length-take-le, take_at}
use Rattle.hex.specs.Hex.{encode_with}

-- the digits of the first bytes, followed by the digits of the others
digits_split : (t xs : List ℕ) (n : ℕ) → encode_with t (take n xs) ++ encode_with t (drop n xs) ≡ encode_with t xs
unfolding encode_with
digits_split t xs zero = refl
digits_split t [] (suc n) = refl
digits_split t (x ∷ xs) (suc n) = ap (λ l. slice_index t (x / 16) ∷ slice_index t (x % 16) ∷ l) (digits_split t xs n)

-- the digits of a block follow the digits of the bytes before it
pub block_step : (t input output written back : List ℕ) (i e : ℕ) → i ≤ e → written ≡ encode_with t (between i e input) → length written ≡ 2 * (e - i) → 2 * i ≤ length output
    → take (2 * i) output ++ encode_with t (drop i input) ≡ encode_with t input
    → take (2 * e) (take (2 * i) output ++ (written ++ back)) ++ encode_with t (drop e input) ≡ encode_with t input
block_step t input output written back i e ordered w len fits inv =
    let ends : length (take (2 * i) output ++ written) ≡ 2 * e = omega (arith, ordered, len, length-append (take (2 * i) output) written, length-take-le (2 * i) output fits) in
    let front = ap (take (2 * e)) (sym (append_assoc (take (2 * i) output) written back)) ∙ take_at (take (2 * i) output ++ written) back (2 * e) ends in
    let on : i + (e - i) ≡ e = omega (arith, ordered) in
    let rest : drop e input ≡ drop (e - i) (drop i input) = ap (λ n. drop n input) (sym on) ∙ sym (drop-drop (e - i) i input) in
    rw (front, append_assoc, rest, w, digits_split t (drop i input) (e - i)) inv

-- one more item of a list is written
pub place_written : (f : ℕ → ℕ) (xs : List ℕ) (i x : ℕ) → i < length xs → x ≡ f i → ((k : ℕ) → k < i → slice_index xs k ≡ f k)
    → (k : ℕ) → k < i + 1 → slice_index (slice_set xs i x) k ≡ f k
place_written f xs i x fits e h k lt =
    elim (cases_lt k i) [
      | inl below ↦ get_or-set_other xs i k x 0 (λ e. absurd (omega (arith, below, e))) ∙ h k below
      | inr top ↦
          let here : k ≡ i = omega arith in
          rw here (get_or-set_same xs i x 0 fits ∙ e)
    ]
