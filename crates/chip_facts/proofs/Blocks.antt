-- Sequences of sets. The set at an index consists of four words, starting at four times the index.
use Rattle.std.proofs.Common.{◌≡◌, ◌≢◌, ℕ, ◌+◌, ◌*◌, ◌/◌, ◌%◌, ◌<◌, ◌==◌, List, length, length-set, get_or, set, sym, ap, ◌∙◌, inl, inr, arith, get_or-set_same, get_or-set_other}
use Rattle.std.specs.Int.{bit_at}
use Rattle.std.proofs.lemmas.Bool.{cases_eq, cases_lt}
use Rattle.chip_facts.specs.Sets.{has}

-- stores four words as the set at an index
abbrev pub put_block : List ℕ → ℕ → List ℕ → List ℕ
put_block words x values =
    set (set (set (set words (4 * x) (get_or values 0 0)) (4 * x + 1) (get_or values 1 0)) (4 * x + 2) (get_or values 2 0)) (4 * x + 3) (get_or values 3 0)

module _ (words : List ℕ) (x v0 v1 v2 v3 : ℕ) (room : 4 * x + 3 < length words) where
  abbrev one : List ℕ
  one = set words (4 * x) v0

  abbrev two : List ℕ
  two = set one (4 * x + 1) v1

  abbrev three : List ℕ
  three = set two (4 * x + 2) v2

  long_one : length one ≡ length words
  long_one = length-set words (4 * x) v0

  long_two : length two ≡ length words
  long_two = length-set one (4 * x + 1) v1 ∙ long_one

  long_three : length three ≡ length words
  long_three = length-set two (4 * x + 2) v2 ∙ long_two

  abbrev all : List ℕ
  all = set three (4 * x + 3) v3

  at_three : get_or all (4 * x + 3) 0 ≡ v3
  at_three = get_or-set_same three (4 * x + 3) v3 0 (omega (arith, long_three))

  at_two : get_or all (4 * x + 2) 0 ≡ v2
  at_two = get_or-set_other three (4 * x + 3) (4 * x + 2) v3 0 (omega arith) ∙ get_or-set_same two (4 * x + 2) v2 0 (omega (arith, long_two))

  at_one : get_or all (4 * x + 1) 0 ≡ v1
  at_one = get_or-set_other three (4 * x + 3) (4 * x + 1) v3 0 (omega arith) ∙ get_or-set_other two (4 * x + 2) (4 * x + 1) v2 0 (omega arith)
      ∙ get_or-set_same one (4 * x + 1) v1 0 (omega (arith, long_one))

  at_zero : get_or all (4 * x) 0 ≡ v0
  at_zero = get_or-set_other three (4 * x + 3) (4 * x) v3 0 (omega arith) ∙ get_or-set_other two (4 * x + 2) (4 * x) v2 0 (omega arith)
      ∙ get_or-set_other one (4 * x + 1) (4 * x) v1 0 (omega arith) ∙ get_or-set_same words (4 * x) v0 0 (omega arith)

  elsewhere : (k : ℕ) → k ≢ 4 * x → k ≢ 4 * x + 1 → k ≢ 4 * x + 2 → k ≢ 4 * x + 3 → get_or all k 0 ≡ get_or words k 0
  elsewhere k a b d e =
      get_or-set_other three (4 * x + 3) k v3 0 e ∙ get_or-set_other two (4 * x + 2) k v2 0 d ∙ get_or-set_other one (4 * x + 1) k v1 0 b ∙ get_or-set_other words (4 * x) k v0 0 a

word_there : (words : List ℕ) (x : ℕ) (values : List ℕ) (j : ℕ) → j < 4 → 4 * x + 3 < length words → get_or (put_block words x values) (4 * x + j) 0 ≡ get_or values j 0
word_there words x values j small room =
    let at : (m k v : ℕ) → m ≡ k → get_or (put_block words x values) k 0 ≡ v → get_or (put_block words x values) m 0 ≡ v =
    λ m k v is h. ap (λ n. get_or (put_block words x values) n 0) is ∙ h in
    elim (cases_eq j 0) [
      | inl is ↦ at _ (4 * x) _ (omega arith) (at_zero words x _ _ _ _ room) ∙ ap (λ n. get_or values n 0) (sym is)
      | inr a ↦ elim (cases_eq j 1) [
        | inl is ↦ at _ (4 * x + 1) _ (omega arith) (at_one words x _ _ _ _ room) ∙ ap (λ n. get_or values n 0) (sym is)
        | inr b ↦ elim (cases_eq j 2) [
          | inl is ↦ at _ (4 * x + 2) _ (omega arith) (at_two words x _ _ _ _ room) ∙ ap (λ n. get_or values n 0) (sym is)
          | inr d ↦
              let is : j ≡ 3 = omega arith in
              at _ (4 * x + 3) _ (omega arith) (at_three words x _ _ _ _ room) ∙ ap (λ n. get_or values n 0) (sym is)
        ]
      ]
    ]

-- the set at that index is the one that was stored there
pub block_there : (words : List ℕ) (x : ℕ) (values : List ℕ) (b : ℕ) → 4 * x + 3 < length words → b < 256 → has (put_block words x values) (256 * x + b) ≡ has values b
block_there words x values b room small =
    let at : (256 * x + b) / 64 ≡ 4 * x + b / 64 = omega arith in
    let bit : (256 * x + b) % 64 ≡ b % 64 = omega arith in
    let word : get_or (put_block words x values) ((256 * x + b) / 64) 0 ≡ get_or values (b / 64) 0 =
    ap (λ k. get_or (put_block words x values) k 0) at ∙ word_there words x values (b / 64) (omega arith) room in
    λ i. (bit_at (word i) (bit i)) == 1

pub block_elsewhere : (words : List ℕ) (x : ℕ) (values : List ℕ) (y b : ℕ) → 4 * x + 3 < length words → y ≢ x → b < 256 → has (put_block words x values) (256 * y + b) ≡ has words (256 * y + b)
block_elsewhere words x values y b room other small =
    let at : (256 * y + b) / 64 ≡ 4 * y + b / 64 = omega arith in
    let low : b / 64 < 4 = omega arith in
    ap (λ w. bit_at w ((256 * y + b) % 64) == 1)
    (elim (cases_lt y x) [
      | inl under ↦ elsewhere words x _ _ _ _ room ((256 * y + b) / 64) (omega (arith, at, low)) (omega (arith, at, low)) (omega (arith, at, low)) (omega (arith, at, low))
      | inr over ↦
          let above : x < y = omega arith in
          elsewhere words x _ _ _ _ room ((256 * y + b) / 64) (omega (arith, at, low)) (omega (arith, at, low)) (omega (arith, at, low)) (omega (arith, at, low))
    ])
