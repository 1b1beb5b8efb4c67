-- Proofs, which a reader may skip: memory after bytes are exchanged, address by address.
-- Source: chosen by this project.
use Rattle.std.proofs.Common.{◌≡◌, ◌≢◌, ℕ, ◌+◌, ◌-◌, ◌<◌, ◌≤◌, true, false, List, length, take, get_or, set, slice_index, refl, sym, ap, ◌∙◌, subst, arith, inl, inr, get_or-take, get_or-set_same, get_or-set_other, length-set, length-take}
use Rattle.std.specs.Prelude.{◌==◌, ◌&&◌, not, nat_le, if◌then◌else◌}
use Rattle.std.proofs.lemmas.List.{ext_get_or, get_or_past, take_all}
use Rattle.std.proofs.lemmas.List.FromFn.{get_or-map-range_with_len, length-map-range_with_len}
use Rattle.std.proofs.lemmas.Bool.{cases_lt, cases_eq}
use Rattle.std.proofs.lemmas.Bool.Decides.{nat_tests}
use Rattle.chip_machine.specs.State.{differ_at, exchanged}

-- the new byte if it differs from the old byte, otherwise the byte of the memory
abbrev pub chosen : ℕ → ℕ → ℕ → ℕ
chosen there old new = if not (old == new) then new else there

pub chosen-new : (there old new : ℕ) → old ≢ new → chosen there old new ≡ new
chosen-new there old new apart =
    let differ : not (old == new) ≡ true = grind (arith, nat_tests) in
    ap (λ b. if b then new else there) differ

pub chosen-same : (there old new : ℕ) → old ≡ new → chosen there old new ≡ there
chosen-same there old new same =
    let alike : not (old == new) ≡ false = grind (arith, nat_tests) in
    ap (λ b. if b then new else there) alike

-- the byte at an address after the exchange
abbrev pub byte_after : List ℕ → ℕ → List ℕ → List ℕ → ℕ → ℕ
byte_after memory from old new at =
    if differ_at from old new at then slice_index new (at - from) else slice_index memory at

pub byte_after-before : (m : List ℕ) (from : ℕ) (old new : List ℕ) (at : ℕ) → at < from
    → byte_after m from old new at ≡ get_or m at 0
byte_after-before m from old new at l =
    let before : nat_le from at ≡ false = grind (arith, nat_tests) in
    ap (λ b. if b && not (slice_index old (at - from) == slice_index new (at - from))
    then slice_index new (at - from)
    else slice_index m at) before

pub byte_after-at : (m : List ℕ) (from : ℕ) (old new : List ℕ) (at i : ℕ) → at ≡ from + i
    → byte_after m from old new at ≡ chosen (get_or m at 0) (get_or old i 0) (get_or new i 0)
byte_after-at m from old new at i e =
    let low : nat_le from at ≡ true = grind (arith, nat_tests) in
    let place : at - from ≡ i = omega arith in
    ap (λ b. if b && not (slice_index old (at - from) == slice_index new (at - from))
    then slice_index new (at - from)
    else slice_index m at) low
    ∙ ap (λ k. chosen (get_or m at 0) (get_or old k 0) (get_or new k 0)) place

pub length-exchanged : (m : List ℕ) (from : ℕ) (old new : List ℕ)
    → length (exchanged m from old new) ≡ length m
unfolding exchanged
length-exchanged m from old new = length-map-range_with_len (byte_after m from old new) 0 (length m)

pub get_or-exchanged : (m : List ℕ) (from : ℕ) (old new : List ℕ) (at : ℕ) → at < length m
    → get_or (exchanged m from old new) at 0 ≡ byte_after m from old new at
unfolding exchanged
get_or-exchanged m from old new at l =
    get_or-map-range_with_len (byte_after m from old new) 0 (length m) at at 0 l (omega arith)

-- the byte at an address before the exchanged bytes, and the byte at an index among them
pub get_or-exchanged_before : (m : List ℕ) (from : ℕ) (old new : List ℕ) (at : ℕ) → at < length m
    → at < from → get_or (exchanged m from old new) at 0 ≡ get_or m at 0
get_or-exchanged_before m from old new at l low =
    get_or-exchanged m from old new at l ∙ byte_after-before m from old new at low

pub get_or-exchanged_at : (m : List ℕ) (from : ℕ) (old new : List ℕ) (at i : ℕ) → at < length m
    → at ≡ from + i → get_or (exchanged m from old new) at 0
    ≡ chosen (get_or m at 0) (get_or old i 0) (get_or new i 0)
get_or-exchanged_at m from old new at i l e =
    get_or-exchanged m from old new at l ∙ byte_after-at m from old new at i e

-- a memory with these bytes equals the exchanged memory
pub is_exchanged : (m n : List ℕ) (from : ℕ) (old new : List ℕ) → length n ≡ length m
    → ((at : ℕ) → at < length m → at < from → get_or n at 0 ≡ get_or m at 0)
    → ((at i : ℕ) → at < length m → at ≡ from + i
    → get_or n at 0 ≡ chosen (get_or m at 0) (get_or old i 0) (get_or new i 0))
    → n ≡ exchanged m from old new
is_exchanged m n from old new size before bytes =
    ext_get_or 0 n (exchanged m from old new) (size ∙ sym (length-exchanged m from old new))
    (λ at l.
    let within : at < length m = omega (arith, size) in
    elim (cases_lt at from) [
      | inl low ↦ before at within low ∙ sym (get_or-exchanged_before m from old new at within low)
      | inr high ↦ bytes at (at - from) within (omega arith)
          ∙ sym (get_or-exchanged_at m from old new at (at - from) within (omega arith))
    ])

-- if the same bytes are chosen, the exchanged memories are the same
pub exchanged_alike : (m : List ℕ) (from : ℕ) (old new old' new' : List ℕ)
    → ((i x : ℕ) → chosen x (get_or old i 0) (get_or new i 0)
    ≡ chosen x (get_or old' i 0) (get_or new' i 0))
    → exchanged m from old new ≡ exchanged m from old' new'
exchanged_alike m from old new old' new' same =
    is_exchanged m (exchanged m from old new) from old' new' (length-exchanged m from old new)
    (λ at l low. get_or-exchanged_before m from old new at l low)
    (λ at i l e. get_or-exchanged_at m from old new at i l e ∙ same i (get_or m at 0))

pub get_or-take_past : (n : ℕ) (xs : List ℕ) (i : ℕ) → n ≤ i → get_or (take n xs) i 0 ≡ 0
get_or-take_past n xs i l = get_or_past (take n xs) i 0 (omega (arith, length-take n xs))

take_other : (n : ℕ) (xs : List ℕ) (i : ℕ) → i ≢ n
    → get_or (take n xs) i 0 ≡ get_or (take (n + 1) xs) i 0
take_other n xs i off =
    elim (cases_lt i n) [
      | inl a ↦ get_or-take n xs i 0 a ∙ sym (get_or-take (n + 1) xs i 0 (omega arith))
      | inr a ↦ get_or-take_past n xs i a ∙ sym (get_or-take_past (n + 1) xs i (omega arith))
    ]

-- the next byte, before it is exchanged
pub exchanged-next : (m : List ℕ) (from : ℕ) (old new : List ℕ) (at i : ℕ) → at < length m
    → at ≡ from + i → get_or (exchanged m from (take i old) (take i new)) at 0 ≡ get_or m at 0
exchanged-next m from old new at i l e =
    get_or-exchanged_at m from (take i old) (take i new) at i l e
    ∙ chosen-same (get_or m at 0) (get_or (take i old) i 0) (get_or (take i new) i 0)
    (get_or-take_past i old i (omega arith) ∙ sym (get_or-take_past i new i (omega arith)))

-- the memory before any byte is exchanged
pub exchanged_none : (m : List ℕ) (from : ℕ) (old new : List ℕ)
    → m ≡ exchanged m from (take 0 old) (take 0 new)
exchanged_none m from old new =
    is_exchanged m m from (take 0 old) (take 0 new) refl (λ at l low. refl)
    (λ at i l e. sym (chosen-same (get_or m at 0) 0 0 refl))

-- the memory after one more index
pub exchanged_more : (m : List ℕ) (from : ℕ) (old new : List ℕ) (at i v : ℕ) → at ≡ from + i
    → v ≡ chosen (get_or m at 0) (get_or old i 0) (get_or new i 0)
    → set (exchanged m from (take i old) (take i new)) at v
    ≡ exchanged m from (take (i + 1) old) (take (i + 1) new)
exchanged_more m from old new at i v e is =
    let before = exchanged m from (take i old) (take i new) in
    is_exchanged m (set before at v) from (take (i + 1) old) (take (i + 1) new)
    (length-set before at v ∙ length-exchanged m from (take i old) (take i new))
    (λ k l low. get_or-set_other before at k v 0 (λ h. omega (arith, h))
    ∙ get_or-exchanged_before m from (take i old) (take i new) k l low)
    (λ k j l place. elim (cases_eq k at) [
      | inl here ↦ (
          let same : j ≡ i = omega arith in
          subst (λ k. get_or (set before at v) k 0
          ≡ chosen (get_or m k 0) (get_or (take (i + 1) old) j 0) (get_or (take (i + 1) new) j 0))
          (sym here)
          (get_or-set_same before at v 0
          (omega (arith, here, length-exchanged m from (take i old) (take i new)))
          ∙ is
          ∙ subst (λ j. chosen (get_or m at 0) (get_or old i 0) (get_or new i 0)
          ≡ chosen (get_or m at 0) (get_or (take (i + 1) old) j 0) (get_or (take (i + 1) new) j 0))
          (sym same)
          (ap (λ x. chosen (get_or m at 0) x (get_or new i 0))
          (sym (get_or-take (i + 1) old i 0 (omega arith)))
          ∙ ap (λ y. chosen (get_or m at 0) (get_or (take (i + 1) old) i 0) y)
          (sym (get_or-take (i + 1) new i 0 (omega arith))))))
      | inr off ↦ (
          let other : j ≢ i = λ h. off (omega arith) in
          get_or-set_other before at k v 0 off
          ∙ get_or-exchanged_at m from (take i old) (take i new) k j l place
          ∙ ap (λ x. chosen (get_or m k 0) x (get_or (take i new) j 0)) (take_other i old j other)
          ∙ ap (λ y. chosen (get_or m k 0) (get_or (take (i + 1) old) j 0) y)
          (take_other i new j other))
    ])

-- an index at which the two lists don't differ
pub exchanged_skip : (m : List ℕ) (from : ℕ) (old new : List ℕ) (i : ℕ)
    → get_or old i 0 ≡ get_or new i 0
    → exchanged m from (take i old) (take i new)
    ≡ exchanged m from (take (i + 1) old) (take (i + 1) new)
exchanged_skip m from old new i same =
    exchanged_alike m from (take i old) (take i new) (take (i + 1) old) (take (i + 1) new)
    (λ j x. elim (cases_eq j i) [
      | inl here ↦
          subst (λ k. chosen x (get_or (take i old) k 0) (get_or (take i new) k 0)
          ≡ chosen x (get_or (take (i + 1) old) k 0) (get_or (take (i + 1) new) k 0)) (sym here)
          (chosen-same x (get_or (take i old) i 0) (get_or (take i new) i 0)
          (get_or-take_past i old i (omega arith) ∙ sym (get_or-take_past i new i (omega arith)))
          ∙ sym (chosen-same x (get_or (take (i + 1) old) i 0) (get_or (take (i + 1) new) i 0)
          (get_or-take (i + 1) old i 0 (omega arith) ∙ same
          ∙ sym (get_or-take (i + 1) new i 0 (omega arith)))))
      | inr off ↦
          ap (λ y. chosen x y (get_or (take i new) j 0)) (take_other i old j off)
          ∙ ap (λ y. chosen x (get_or (take (i + 1) old) j 0) y) (take_other i new j off)
    ])

-- the two lists differ at no later index
pub exchanged_rest : (m : List ℕ) (from : ℕ) (old new : List ℕ) (n : ℕ)
    → ((i : ℕ) → n ≤ i → get_or old i 0 ≡ get_or new i 0)
    → exchanged m from (take n old) (take n new) ≡ exchanged m from old new
exchanged_rest m from old new n same =
    exchanged_alike m from (take n old) (take n new) old new
    (λ i x. elim (cases_lt i n) [
      | inl a ↦
          ap (λ y. chosen x y (get_or (take n new) i 0)) (get_or-take n old i 0 a)
          ∙ ap (λ y. chosen x (get_or old i 0) y) (get_or-take n new i 0 a)
      | inr a ↦
          chosen-same x (get_or (take n old) i 0) (get_or (take n new) i 0)
          (get_or-take_past n old i a ∙ sym (get_or-take_past n new i a))
          ∙ sym (chosen-same x (get_or old i 0) (get_or new i 0) (same i a))
    ])

-- the memory after all indexes
pub exchanged_all : (m : List ℕ) (from : ℕ) (old new : List ℕ) (n : ℕ) → length old ≤ n
    → length new ≤ n → exchanged m from (take n old) (take n new) ≡ exchanged m from old new
exchanged_all m from old new n lo ln =
    ap (λ xs. exchanged m from xs (take n new)) (take_all n old lo)
    ∙ ap (exchanged m from old) (take_all n new ln)
