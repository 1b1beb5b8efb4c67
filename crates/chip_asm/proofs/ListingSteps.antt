-- The listing, line by line.
use Rattle.std.proofs.Common.{◌≡◌, ℕ, suc, zero, ◌+◌, ◌-◌, ◌*◌, ◌/◌, ◌%◌, ◌<◌, ◌≤◌, List, [], ◌∷◌, ◌++◌, map, length, take, set, get_or, slice_get, replicate, append_assoc, length-append, refl, ap, sym, ◌∙◌, arith, add-one, Some, None}
use Rattle.std.specs.Fmt.{decimal}
use Rattle.std.specs.List.{flat_map, range_with_len}
use Rattle.std.proofs.lemmas.Fmt.{decimal_digit, decimal_step}
use Rattle.std.proofs.lemmas.List.{map-append, append-nil, set-append_right, take_more}
use Rattle.std.proofs.lemmas.Option.{get_or_from_slice_get, slice_get_within}
use Rattle.std.proofs.lemmas.Grind.{flat_map-append}
use Rattle.chip_lang.specs.Show.{two_hex_digits}
use Rattle.chip_asm.specs.Listing.{bytes_shown}
use Rattle.chip_asm.specs.LineViews.{LineFacts}
use Rattle.chip_asm.proofs.PlacesAgree.{past-end}

one-byte : (b : ℕ) → flat_map two_hex_digits (b ∷ []) ≡ two_hex_digits b
one-byte b = append-nil (two_hex_digits b)

-- one more byte
pub bytes-more : (n : ℕ) (bytes : List ℕ) → bytes_shown (n + 1) bytes ≡ bytes_shown n bytes ++ two_hex_digits (get_or bytes n 0)
bytes-more n bytes =
    ap (λ r. flat_map two_hex_digits (map (λ i. get_or bytes i 0) r)) (range-more n)
    ∙ ap (flat_map two_hex_digits) (map-append (λ i. get_or bytes i 0) (range_with_len 0 n) (n ∷ []))
    ∙ flat_map-append two_hex_digits (map (λ i. get_or bytes i 0) (range_with_len 0 n)) (get_or bytes n 0 ∷ [])
    ∙ ap (λ l. bytes_shown n bytes ++ l) (one-byte (get_or bytes n 0))
  where
    from : (a n : ℕ) → range_with_len a (suc n) ≡ range_with_len a n ++ (a + n) ∷ []
    from a zero = let e : a + 0 ≡ a = omega arith in rw e refl
    from a (suc n) =
        let e : a + 1 + n ≡ a + suc n = omega arith in
        ap (λ l. a ∷ l) (from (a + 1) n ∙ ap (λ k. range_with_len (a + 1) n ++ k ∷ []) e)

    range-more : (n : ℕ) → range_with_len 0 (n + 1) ≡ range_with_len 0 n ++ n ∷ []
    range-more n = let e : 0 + n ≡ n = omega arith in ap (range_with_len 0) (add-one n) ∙ from 0 n ∙ ap (λ k. range_with_len 0 n ++ k ∷ []) e

-- the digits of the bytes in the field

pub length-bytes : (n : ℕ) (bytes : List ℕ) → length (bytes_shown n bytes) ≡ 2 * n
length-bytes zero bytes = refl
length-bytes (suc n) bytes =
    omega (arith, length-bytes n bytes, ap length (ap (λ m. bytes_shown m bytes) (sym (add-one n)) ∙ bytes-more n bytes), length-append (bytes_shown n bytes) (two_hex_digits (get_or bytes n 0)))

pub pair-more : (n : ℕ) (bytes digits : List ℕ) (a b : ℕ) → n < 6 → digits ≡ bytes_shown n bytes ++ replicate (12 - 2 * n) 32 → a ∷ b ∷ [] ≡ two_hex_digits (get_or bytes n 0)
    → set (set digits (2 * n) a) (2 * n + 1) b ≡ bytes_shown (n + 1) bytes ++ replicate (12 - 2 * (n + 1)) 32
pair-more n bytes digits a b h is pair =
    let room : 12 - 2 * n ≡ suc (suc (12 - 2 * (n + 1))) = omega arith in
    let rest : List ℕ = replicate (12 - 2 * (n + 1)) 32 in
    let long : length (bytes_shown n bytes) ≡ 2 * n = length-bytes n bytes in
    let first : 2 * n - 2 * n ≡ 0 = omega arith in
    let second : 2 * n + 1 - 2 * n ≡ 1 = omega arith in
    ap (λ l. set (set l (2 * n) a) (2 * n + 1) b) (is ∙ ap (λ m. bytes_shown n bytes ++ replicate m 32) room)
    ∙ ap (λ l. set l (2 * n + 1) b)
    (set-append_right (bytes_shown n bytes) (32 ∷ 32 ∷ replicate (12 - 2 * (n + 1)) 32) (2 * n) (2 * n) a long (omega arith)
    ∙ ap (λ i. bytes_shown n bytes ++ set (32 ∷ 32 ∷ replicate (12 - 2 * (n + 1)) 32) i a) first)
    ∙ set-append_right (bytes_shown n bytes) (a ∷ 32 ∷ replicate (12 - 2 * (n + 1)) 32) (2 * n) (2 * n + 1) b long (omega arith)
    ∙ ap (λ i. bytes_shown n bytes ++ set (a ∷ 32 ∷ replicate (12 - 2 * (n + 1)) 32) i b) second
    ∙ sym (append_assoc (bytes_shown n bytes) (a ∷ b ∷ []) (replicate (12 - 2 * (n + 1)) 32))
    ∙ ap (λ l. (bytes_shown n bytes ++ l) ++ replicate (12 - 2 * (n + 1)) 32) pair
    ∙ ap (λ l. l ++ replicate (12 - 2 * (n + 1)) 32) (sym (bytes-more n bytes))

-- numbers of up to four digits

pub one-digit : (n : ℕ) → n / 10 ≡ 0 → decimal n ≡ (48 + n % 10) ∷ []
one-digit n h = let same : n ≡ n % 10 = omega arith in decimal_digit n (omega arith) ∙ ap (λ m. (48 + m) ∷ []) same

pub two-digits : (n : ℕ) → 1 ≤ n / 10 → n / 10 < 10 → decimal n ≡ (48 + n / 10) ∷ (48 + n % 10) ∷ []
two-digits n h k = decimal_step n (omega arith) (omega arith) ∙ ap (λ l. l ++ (48 + n % 10) ∷ []) (decimal_digit (n / 10) k)

pub three-digits : (n : ℕ) → 1 ≤ n / 10 / 10 → n / 10 / 10 < 10 → decimal n ≡ (48 + n / 10 / 10) ∷ (48 + n / 10 % 10) ∷ (48 + n % 10) ∷ []
three-digits n h k = decimal_step n (omega arith) (omega arith) ∙ ap (λ l. l ++ (48 + n % 10) ∷ []) (two-digits (n / 10) h k)

pub four-digits : (n : ℕ) → 1 ≤ n / 10 / 10 / 10 → n / 10 / 10 / 10 < 10 → decimal n ≡ (48 + n / 10 / 10 / 10) ∷ (48 + n / 10 / 10 % 10) ∷ (48 + n / 10 % 10) ∷ (48 + n % 10) ∷ []
four-digits n h k = decimal_step n (omega arith) (omega arith) ∙ ap (λ l. l ++ (48 + n % 10) ∷ []) (three-digits (n / 10) h k)

-- the rows of one more line
pub rows-more : (row : LineFacts → List ℕ) (lines : List LineFacts) (i : ℕ) (f : LineFacts) → slice_get lines i ≡ Some f → flat_map row (take (i + 1) lines) ≡ flat_map row (take i lines) ++ row f
rows-more row lines i f e =
    ap (flat_map row) (take_more lines i f (slice_get_within lines i f e))
    ∙ flat_map-append row (take i lines) (get_or lines i f ∷ [])
    ∙ ap (λ l. flat_map row (take i lines) ++ l) (append-nil (row (get_or lines i f)) ∙ ap row (get_or_from_slice_get lines i f f e))

pub past-rows : (lines : List LineFacts) (i : ℕ) → slice_get lines i ≡ None → length lines ≤ i
past-rows lines i e = past-end lines i e
