use Rattle.std.proofs.Common.{◌≡◌, ◌∙◌, ℕ, ◌+◌, ◌<◌, ◌≤◌, List, [], ◌∷◌, ◌++◌, ap, append_assoc, arith, drop, get_or, length, set, sym, take, refl}
use Rattle.std.proofs.lemmas.List.{drop-set, drop-set-lt, get_or-drop, get_or-take, length-drop, length-set, length-take-le, take-append-drop, take-set, take_more_set}
use Rattle.chip_asm.proofs.codes.copy_two.Goals as goal

two : (xs part : List ℕ) (at x y : ℕ) → length part ≡ 2 → x ≡ get_or part 0 0 → y ≡ get_or part 1 0 → at + length part ≤ length xs
    → set (set xs at x) (at + 1) y ≡ take at xs ++ (part ++ drop (at + length part) xs)
two xs (a ∷ b ∷ []) at x y e first second h =
    let behind : at + 1 + 1 ≡ at + 2 = omega arith in
    sym (take-append-drop (at + 1) (set (set xs at x) (at + 1) y))
    ∙ ap (λ l. l ++ drop (at + 1) (set (set xs at x) (at + 1) y)) (take-set (set xs at x) (at + 1) y ∙ take_more_set xs at x (omega arith))
    ∙ ap (λ l. (take at xs ++ x ∷ []) ++ l) (drop-set (set xs at x) (at + 1) y (omega (arith, length-set xs at x)) ∙ ap (λ l. y ∷ l) (drop-set-lt (at + 1 + 1) xs at x (omega arith) ∙ ap (λ n. drop n xs) behind))
    ∙ append_assoc (take at xs) (x ∷ []) (y ∷ drop (at + 2) xs)
    ∙ ap (λ u. take at xs ++ (u ∷ y ∷ drop (at + 2) xs)) first ∙ ap (λ u. take at xs ++ (a ∷ u ∷ drop (at + 2) xs)) second
two xs [] at x y e first second h = absurd (omega arith)
two xs (a ∷ []) at x y e first second h = absurd (omega arith)
two xs (a ∷ b ∷ c ∷ part) at x y e first second h = absurd (omega arith)

pub returns : goal.returns
returns c =
    let from = c.args.from.now in
    let at = c.args.at in
    let to = c.args.to in
    let part : List ℕ = take 2 (drop at from) in
    let long : length part ≡ 2 = length-take-le 2 (drop at from) (omega (arith, length-drop at from, c.requires.at)) in
    let item : (n i : ℕ) → n < 2 → at + n ≡ i → get_or from i 0 ≡ get_or part n 0
    = λ n i h is. sym (get_or-take 2 (drop at from) n 0 h ∙ get_or-drop at from n 0 ∙ ap (λ i. get_or from i 0) is) in
    two c.args.image.now part to (get_or from at 0) (get_or from (at + 1) 0) long (item 0 at (omega arith) (omega arith)) (item 1 (at + 1) (omega arith) refl) (omega (arith, long, c.requires.to))
    ∙ ap (λ n. take to c.args.image.now ++ (part ++ drop (to + n) c.args.image.now)) long
