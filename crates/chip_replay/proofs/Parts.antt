-- Mapping a list part by part.
use Rattle.std.proofs.Common.{◌≡◌, ◌+◌, ◌-◌, ◌≤◌, ◌++◌, ◌∙◌, ℕ, List, length, take, drop, map, sym, ap, arith}
use Rattle.std.proofs.lemmas.List.{length-map, length-take-le, take-append-drop, take-take, take_at, drop_at, drop-drop, drop-take, map-append, append_assoc, append-nil, take_all, drop_all}

module _ {X : Type 0} (f : X → X) where
  -- the first k elements are mapped, and then n more elements
  pub map_part_more : (xs ys part : List X) (k n : ℕ) → k + n ≤ length xs → ys ≡ map f (take k xs) ++ drop k xs → part ≡ map f (take n (drop k ys))
      → take k ys ++ (part ++ drop n (drop k ys)) ≡ map f (take (k + n) xs) ++ drop (k + n) xs
  map_part_more xs ys part k n fits h is =
      let front = map f (take k xs) in
      let long : length front ≡ k = length-map (take k xs) f ∙ length-take-le k xs (omega (arith, fits)) in
      let taken : take k ys ≡ front = ap (take k) h ∙ take_at front (drop k xs) k long in
      let rest : drop k ys ≡ drop k xs = ap (drop k) h ∙ drop_at front (drop k xs) k long in
      let mapped : part ≡ map f (take n (drop k xs)) = is ∙ ap (λ l. map f (take n l)) rest in
      let whole : take (k + n) xs ≡ take k xs ++ take n (drop k xs) = sym (take-append-drop k (take (k + n) xs)) ∙ ap (λ l. l ++ drop k (take (k + n) xs)) (take-take k (k + n) xs (omega arith)) ∙ ap (λ l. take k xs ++ l) (drop-take k n xs) in
      let both : map f (take (k + n) xs) ≡ front ++ map f (take n (drop k xs)) = ap (map f) whole ∙ map-append f (take k xs) (take n (drop k xs)) in
      rw (taken, rest, mapped, drop-drop n k xs, both) (sym (append_assoc front (map f (take n (drop k xs))) (drop (k + n) xs)))

  -- the first k elements are mapped, and then all others
  pub map_part_last : (xs ys part : List X) (k : ℕ) → k ≤ length xs → length ys ≡ length xs → ys ≡ map f (take k xs) ++ drop k xs → part ≡ map f (take (length ys - k) (drop k ys))
      → take k ys ++ (part ++ drop (length ys - k) (drop k ys)) ≡ map f xs
  map_part_last xs ys part k low size h is =
      let n = length ys - k in
      let all : k + n ≡ length xs = omega (arith, low, size) in
      map_part_more xs ys part k n (omega (arith, all)) h is
      ∙ ap (λ (m : ℕ). map f (take m xs) ++ drop m xs) all
      ∙ ap (λ l. map f l ++ drop (length xs) xs) (take_all (length xs) xs (omega arith))
      ∙ ap (λ l. map f xs ++ l) (drop_all (length xs) xs (omega arith))
      ∙ append-nil (map f xs)
