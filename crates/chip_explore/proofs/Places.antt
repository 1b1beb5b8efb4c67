-- The items of a list by their places.
use Rattle.std.proofs.Common.{◌≡◌, ℕ, zero, suc, ◌<◌, List, [], ◌∷◌, ◌++◌, length, slice_get, Some, refl, ap, arith}
use Rattle.chip_explore.specs.declared.kept.Base.{Base}
use Rattle.chip_explore.specs.declared.kept.Kept.{Kept}
use Rattle.chip_explore.specs.inner.Kept.{state_at, state_by, state_of}

got_before : (xs ys : List Kept) (j : ℕ) → j < length xs → slice_get (xs ++ ys) j ≡ slice_get xs j
got_before [] ys j l = absurd (omega arith)
got_before (x ∷ xs) ys zero l = refl
got_before (x ∷ xs) ys (suc j) l = got_before xs ys j (omega arith)

got_last : (xs : List Kept) (x : Kept) → slice_get (xs ++ x ∷ []) (length xs) ≡ Some x
got_last [] x = refl
got_last (y ∷ xs) x = got_last xs x

pub state_before : (base : Base) (xs ys : List Kept) (j : ℕ) → j < length xs → state_at base (xs ++ ys) j ≡ state_at base xs j
state_before base xs ys j l = ap (state_by base) (got_before xs ys j l)

pub state_last : (base : Base) (xs : List Kept) (x : Kept) → state_at base (xs ++ x ∷ []) (length xs) ≡ state_of base x
state_last base xs x = ap (state_by base) (got_last xs x)
