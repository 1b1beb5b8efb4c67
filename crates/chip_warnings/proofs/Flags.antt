-- The flags and numbers of addresses that instructions name.
use Rattle.std.proofs.Common.{zero, suc, drop, ◌++◌, replicate, ◌≡◌, ◌∙◌, ◌<◌, ◌+◌, ℕ, take, Bool, false, ◌||◌, List, length, get_or, refl, ap, sym}
use Rattle.std.specs.List.{list_any}
use Rattle.std.proofs.Math.Seq.{take-append_seam}
use Rattle.std.proofs.lemmas.List.Folds.{list_any_more}
use Rattle.chip_warnings.specs.declared.seen.Seen.{Seen}
use Rattle.chip_warnings.specs.Marked.{Marked}

-- marks with equal parts are equal
pub same-marked : (these those : Marked) → ((a : ℕ) → these.jumped a ≡ those.jumped a) → ((a : ℕ) → these.data_at a ≡ those.data_at a) → these.writes_code ≡ those.writes_code → these ≡ those
same-marked these those jumped data_at code =
    λ i. record { jumped = λ a. jumped a i; data_at = λ a. data_at a i; writes_code = code i }

-- if a test holds for one of the lines so far or for the next line, it holds for one of the lines up to the next line
pub any-next : (test : Seen → Bool) (lines : List Seen) (i : ℕ) (d : Seen) → i < length lines → (list_any test (take i lines) || test (get_or lines i d)) ≡ list_any test (take (i + 1) lines)
any-next test lines i d low = sym (list_any_more test lines i d low)

-- no new flag is set
pub none-set : (n a : ℕ) → get_or (replicate n false) a false ≡ false
none-set zero a = refl
none-set (suc n) zero = refl
none-set (suc n) (suc a) = none-set n a

-- every new number is 0
pub none-there : (n a : ℕ) → get_or (replicate n zero) a zero ≡ zero
none-there zero a = refl
none-there (suc n) zero = refl
none-there (suc n) (suc a) = none-there n a

-- the elements that were written to a slice of the whole list are the list's elements
pub written-back : {X : Type 0} (len : ℕ) (new old : List X) → len ≡ length new → take len (new ++ drop (length new) old) ≡ new
written-back len new old all =
    ap (λ n. take n (new ++ drop (length new) old)) all ∙ take-append_seam new (drop (length new) old)

-- a table that is correct for the lines so far stays correct if the next line is noted
pub noted-next : {X : Type 0} (told : List X → ℕ → Bool) (test : ℕ → Seen → Bool) (lines : List Seen) (i : ℕ) (d : Seen) (old new table : List X) → i < length lines
    → ((a : ℕ) → told old a ≡ list_any (test a) (take i lines)) → ((a : ℕ) → told new a ≡ (told old a || test a (get_or lines i d))) → table ≡ new
    → (a : ℕ) → told table a ≡ list_any (test a) (take (i + 1) lines)
noted-next told test lines i d old new table low before set are a =
    ap (λ l. told l a) are ∙ set a ∙ ap (λ b. b || test a (get_or lines i d)) (before a) ∙ any-next (test a) lines i d low
