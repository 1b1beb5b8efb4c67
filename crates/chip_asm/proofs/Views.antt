-- The facts about the texts that the stored parts determine.
use Rattle.std.proofs.Common.{◌≡◌, ℕ, List, map, ap, ◌∙◌, Option, subst, ◌≤◌, Bool, true, false, cond, count_by, refl, arith, ◌+◌, take, slice_get, Some, None}
use Rattle.chip_lang.specs.Line.{Reading, reading_of}
use Rattle.chip_asm.specs.declared.kept.Kept.{Kept}
use Rattle.chip_asm.specs.inner.Kept.{IsKept}
use Rattle.chip_asm.specs.inner.KeptLine.{KeptLine}
use Rattle.chip_asm.specs.inner.Placements.{IsLayoutOf}
use Rattle.chip_asm.specs.Program.{names_of_lines, symbols_of}
use Rattle.chip_asm.specs.inner.Records.{readings_in, texts_in}
use Rattle.chip_asm.specs.Work.{needs_count, lines_to_encode, accepted_lines, needs, is_accepted_at}
use Rattle.std.specs.List.{enumerate_from}
use Rattle.std.proofs.lemmas.Bool.{and_parts}
use Rattle.std.proofs.lemmas.List.Sums.{sum_by-le-sum_by}
use Rattle.chip_asm.specs.Layout.{body_of}
use Rattle.chip_asm.specs.inner.Passes.{count_again, is_encoded_again}
use Rattle.chip_asm.specs.inner.Infos.{has_code}
use Rattle.chip_asm.proofs.LinesByPlace.{count-numbered, count_by-take}

pub layout-view : (kept : Kept) (texts : List (List ℕ)) → IsKept kept → texts_in kept.lines.items ≡ texts → IsLayoutOf kept.layout (map reading_of texts)
layout-view kept texts k t = subst (IsLayoutOf kept.layout) (k.are_read ∙ ap (map reading_of) t) k.laid_out

pub symbols-view : (lines : List KeptLine) (texts : List (List ℕ)) → readings_in lines ≡ map reading_of (texts_in lines) → texts_in lines ≡ texts → names_of_lines (readings_in lines) ≡ symbols_of texts
unfolding symbols_of
symbols-view lines texts e t = ap names_of_lines (e ∙ ap (map reading_of) t)

pub needs-view : (old new : List Reading) (before after : List (List ℕ)) (origin : ℕ → Option ℕ) → old ≡ map reading_of before → new ≡ map reading_of after → needs_count old new origin ≡ lines_to_encode before after origin
unfolding lines_to_encode
needs-view old new before after origin a b = ap (λ rs. needs_count rs new origin) a ∙ ap (λ rs. needs_count (map reading_of before) rs origin) b

-- Each line that is encoded again has to be encoded.

pub count-step : (a b : Bool) → (a ≡ true → b ≡ true) → cond a 1 0 ≤ cond b 1 0
count-step false b e = omega arith
count-step true b e = rw (e refl) (omega arith)

count-le : {X : Type 0} (p q : X → Bool) → ((x : X) → p x ≡ true → q x ≡ true) → (xs : List X) → count_by p xs ≤ count_by q xs
count-le p q h xs = sum_by-le-sum_by (λ x. cond (p x) 1 0) (λ x. cond (q x) 1 0) xs (λ x. count-step (p x) (q x) (h x))

again-needed : (old new : List Reading) (origin : ℕ → Option ℕ) (at : ℕ × Reading) → is_encoded_again old new origin at ≡ true → needs old new origin at ≡ true
unfolding is_encoded_again
again-needed old new origin at h = (and_parts (has_code (body_of at.1)) (needs old new origin at) h).1

-- no more lines are encoded again than have to be encoded
pub count-needed : (old new : List Reading) (origin : ℕ → Option ℕ) → count_again old new origin ≤ needs_count old new origin
count-needed old new origin = count-le (is_encoded_again old new origin) (needs old new origin) (again-needed old new origin) (enumerate_from 0 new)

needs-accepted : (old new : List Reading) (origin : ℕ → Option ℕ) (at : ℕ × Reading) → needs old new origin at ≡ true → is_accepted_at new at.0 ≡ true
unfolding needs
needs-accepted old new origin at h = (and_parts _ _ h).0

-- no more lines have to be encoded than are accepted
pub count-accepted : (old new : List Reading) (origin : ℕ → Option ℕ) → needs_count old new origin ≤ accepted_lines new
count-accepted old new origin = count-le (needs old new origin) (λ (at : ℕ × Reading). is_accepted_at new at.0) (needs-accepted old new origin) (enumerate_from 0 new)

-- A new line that is accepted has to be encoded.

new-needed : (old new : List Reading) (origin : ℕ → Option ℕ) (at : ℕ) (r : Reading) → origin at ≡ None → is_accepted_at new at ≡ true → needs old new origin (at, r) ≡ true
unfolding needs
new-needed old new origin at r none taken = rw (taken, none) refl

pub one-needed : (old new : List Reading) (origin : ℕ → Option ℕ) (at : ℕ) (r : Reading) → slice_get new at ≡ Some r → origin at ≡ None → is_accepted_at new at ≡ true → 1 ≤ needs_count old new origin
one-needed old new origin at r is none taken =
    let one : count_by (needs old new origin) (take (at + 1) (enumerate_from 0 new)) ≡ count_by (needs old new origin) (take at (enumerate_from 0 new)) + 1
    = count-numbered (needs old new origin) new at r is ∙ (rw (new-needed old new origin at r none taken) refl) in
    omega (arith, one, count_by-take (needs old new origin) (enumerate_from 0 new) (at + 1))
