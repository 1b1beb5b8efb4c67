-- The blocks of the pass, listed with the last one last, agree with the open blocks, listed with
-- the last one first.
use Rattle.std.proofs.Common.{◌≡◌, ℕ, ◌-◌, ◌<◌, Bool, true, false, not, ◌&&◌, ◌||◌, List, [], ◌∷◌, ◌++◌, map, reverse, length, get_or, set, refl, ap, sym, ◌∙◌, arith, length-append}
use Rattle.std.specs.List.{list_all, list_any}
use Rattle.std.proofs.Math.Seq.{get_or-append_seam, set-append_seam}
use Rattle.std.proofs.lemmas.List.{reverse-append}
use Rattle.std.proofs.lemmas.List.Sorted.{IsPermutation-reverse, list_any-IsPermutation}
use Rattle.std.proofs.lemmas.List.Folds.{list_all-map}
use Rattle.chip_lang.specs.Line.{Body}
use Rattle.chip_lang.specs.declared.line.Body.{Body as Line_body}
use Rattle.chip_lang.specs.declared.line.Body.TheVariants.{Else, Endif}
use Rattle.chip_lang.specs.SeenLine.{seen_body}
use Rattle.chip_asm.specs.declared.block.Block.{Block}
use Rattle.chip_asm.specs.Layout.{Placed, has_ended, is_side_or_end}
use Rattle.chip_asm.specs.computed.Walk.{is_active, enclosing}
use Rattle.chip_asm.specs.declared.pass.Pass.{Pass}
use Rattle.chip_asm.specs.inner.Placements.{Follows, block_of}
use Rattle.chip_asm.specs.inner.Blocks.{turned, turn_first}

pub reverse-cons : {X : Type 0} (x : X) (xs : List X) → reverse (x ∷ xs) ≡ reverse xs ++ x ∷ []
reverse-cons x xs = reverse-append (x ∷ []) xs

pub all-not : {X : Type 0} (t : X → Bool) (xs : List X) → list_all t xs ≡ not (list_any (λ x. not (t x)) xs)
all-not t [] = refl
all-not t (x ∷ xs) = elim (t x) as (λ b. (b && list_all t xs) ≡ not (not b || list_any (λ y. not (t y)) xs)) [ true ↦ all-not t xs | false ↦ refl ]

pub list_all-reverse : {X : Type 0} (t : X → Bool) (xs : List X) → list_all t (reverse xs) ≡ list_all t xs
list_all-reverse t xs =
    all-not t (reverse xs) ∙ ap not (sym (list_any-IsPermutation (λ x. not (t x)) xs (reverse xs) (IsPermutation-reverse xs))) ∙ sym (all-not t xs)

pub not_side : (b : Line_body) → (b ≡ Else → ⊥) → (b ≡ Endif → ⊥) → is_side_or_end (seen_body b) ≡ false
not_side Else h k = absurd (h refl)
not_side Endif h k = absurd (k refl)
not_side _ h k = refl

-- the pass knows whether a line other than ELSE and ENDIF is active
pub active_here : (pass : Pass) (before : List Placed) (body : Body) → is_side_or_end body ≡ false → Follows pass before → pass.active ≡ is_active before body
unfolding is_active
active_here pass before body s f =
    let bs : List Block = map (block_of before) (enclosing before) in
    f.active ∙ (rw (s, f.ended, f.open_blocks) (ap (λ b. not (has_ended before) && b) (list_all-reverse (λ (b : Block). b.holds) bs ∙ list_all-map (λ (b : Block). b.holds) (block_of before) (enclosing before))))

-- the effect of an ELSE on the last block
pub turned_last : (items nearest : List Block) (n : ℕ) (old new : Block) → items ≡ reverse nearest → n ≡ length items - 1 → 0 < length items
    → old ≡ get_or items n old → new ≡ turned old → set items n new ≡ reverse (turn_first nearest)
turned_last items [] n old new e at some is_old is_new = absurd (let k : length items ≡ 0 = ap length e in omega arith)
turned_last items (b ∷ bs) n old new e at some is_old is_new =
    let split : items ≡ reverse bs ++ b ∷ [] = e ∙ reverse-cons b bs in
    let place_of : n ≡ length (reverse bs) = omega (arith, ap length split, length-append (reverse bs) (b ∷ [])) in
    let was : old ≡ b = is_old ∙ (rw (split, place_of) (get_or-append_seam (reverse bs) b [] old)) in
    rw (split, place_of, is_new, was) (set-append_seam (reverse bs) b [] (turned b) ∙ sym (reverse-cons (turned b) bs))
