-- A list before and after an edit, place by place: the items that were there before, and the first
-- part, which stays the same.
use Rattle.std.proofs.Common.{◌≡◌, insert, remove, set, ℕ, ◌-◌, ◌+◌, ◌<◌, ◌≤◌, List, ◌++◌, length, map, take, get_or, slice_get, refl, ap, sym, subst, ◌∙◌, arith, None, Some, option_map, length-set}
use Rattle.std.proofs.lemmas.Bool.Decides.{nat_tests}
use Rattle.std.proofs.lemmas.Grind.{get_or-set_at}
use Rattle.std.proofs.lemmas.List.{get_or-replicate, get_or-set_other, get_or-take, length-map, length-replicate, length-take, length-take-le, take_at, take-map, take-set, take-take}
use Rattle.std.proofs.lemmas.List.Edits.{get_or-insert_at, get_or-insert_below, get_or-insert_above, get_or-remove_below, get_or-remove_above, length-insert, length-remove}
use Rattle.std.proofs.lemmas.Option.{gets, slice_get-map, slice_get_cases}
use Rattle.chip_lang.specs.Line.{Reading}
use Rattle.chip_asm.specs.inner.KeptLine.{KeptLine}
use Rattle.chip_asm.specs.declared.edit.LineEdit.{LineEdit}
use Rattle.chip_asm.specs.declared.edit.LineEdit.TheVariants.{Insert, Replace, Delete, Open}
use Rattle.chip_asm.specs.inner.Records.{reading_in, readings_in, IsPlaceWithin, items_after, lines_after, count_after, place_before, first_changed}

-- two lists that agree up to a place also agree up to each earlier place
pub shorter : {X : Type 0} (n m : ℕ) (xs ys : List X) → n ≤ m → take m xs ≡ take m ys → take n xs ≡ take n ys
shorter n m xs ys h e = sym (take-take n m xs h) ∙ ap (take n) e ∙ take-take n m ys h

pub same-front : {X : Type 0} (xs ys : List X) (n j : ℕ) → take n xs ≡ take n ys → j < n → slice_get xs j ≡ slice_get ys j
same-front xs ys n j e h = grind (arith, gets, slice_get_cases, get_or-take, length-take)

-- a line among the stored ones
pub line-at : (xs : List KeptLine) (n : ℕ) (kept : KeptLine) → slice_get xs n ≡ Some kept → slice_get (readings_in xs) n ≡ Some (reading_in kept)
line-at xs n kept e = slice_get-map reading_in xs n ∙ ap (option_map reading_in) e

pub read-at : (xs : List KeptLine) (n : ℕ) (kept : KeptLine) (line : Reading) → slice_get xs n ≡ Some kept → slice_get (readings_in xs) n ≡ Some line → reading_in kept ≡ line
read-at xs n kept line e at = let both : Some (reading_in kept) ≡ Some line = sym (line-at xs n kept e) ∙ at in cc

-- a list before and after an edit, with a property of each new item
pub record Edited {X : Type 0} (xs ys : List X) (edit : LineEdit) (IsNew : X → Type 0) : Type 0 where
  pub many : length ys ≡ count_after (length xs) edit
  pub front : take (first_changed edit) xs ≡ take (first_changed edit) ys
  pub stood : (n b : ℕ) → place_before edit n ≡ Some b → slice_get xs b ≡ slice_get ys n
  pub fresh : (n : ℕ) (y : X) → place_before edit n ≡ None → slice_get ys n ≡ Some y → IsNew y

front : {X : Type 0} (xs rest : List X) (n : ℕ) → n ≤ length xs → take n xs ≡ take n (take n xs ++ rest)
front xs rest n h = sym (take_at (take n xs) rest n (length-take-le n xs h))

above : {X : Type 0} (xs : List X) (i n : ℕ) (y d : X) → i < n → i ≤ length xs → get_or (insert xs i y) n d ≡ get_or xs (n - 1) d
above xs i n y d h w =
    let next : n ≡ n - 1 + 1 = omega arith in
    ap (λ k. get_or (insert xs i y) k d) next ∙ get_or-insert_above xs i y d (n - 1) (omega arith) w

inserted : {X : Type 0} (xs : List X) (at : ℕ) (new : X) (line : KeptLine) (IsNew : X → Type 0) → IsNew new → at ≤ length xs → Edited xs (insert xs at new) (Insert at line) IsNew
inserted xs at new line IsNew is h = record {
  many = length-insert xs at new h;
  front = front xs _ at h;
  stood = λ n b o. grind (arith, nat_tests, gets, slice_get_cases, length-insert, get_or-insert_below, above);
  fresh = λ n y o e. (let same : y ≡ new = grind (arith, nat_tests, gets, get_or-insert_at) in subst IsNew (sym same) is);
}

replaced : {X : Type 0} (xs : List X) (at : ℕ) (new : X) (line : KeptLine) (IsNew : X → Type 0) → IsNew new → at < length xs → Edited xs (set xs at new) (Replace at line) IsNew
replaced xs at new line IsNew is h = record {
  many = length-set xs at new;
  front = sym (take-set xs at new);
  stood = λ n b o. grind (arith, nat_tests, gets, slice_get_cases, length-set, get_or-set_other);
  fresh = λ n y o e. (let same : y ≡ new = grind (arith, nat_tests, gets, get_or-set_at) in subst IsNew (sym same) is);
}

removed : {X : Type 0} (xs : List X) (at : ℕ) (IsNew : X → Type 0) → at < length xs → Edited xs (remove xs at) (Delete at) IsNew
removed xs at IsNew h = record {
  many = omega (arith, length-remove xs at h);
  front = front xs _ at (omega arith);
  stood = λ n b o. grind (arith, nat_tests, gets, slice_get_cases, length-remove, get_or-remove_below, get_or-remove_above);
  fresh = λ n y o e. absurd (grind (arith, nat_tests));
}

-- the placements of the lines
pub edited-items : {X : Type 0} (xs ys : List X) (edit : LineEdit) (new : X) (count : ℕ) → length xs ≡ count → IsPlaceWithin count edit → ys ≡ items_after xs edit new → Edited xs ys edit (λ y. y ≡ new)
edited-items {X} xs ys edit new count many within is =
    subst (λ zs. Edited xs zs edit (λ y. y ≡ new)) (sym is) (by edit (subst (λ n. IsPlaceWithin n edit) (sym many) within))
  where
    by : (edit : LineEdit) → IsPlaceWithin (length xs) edit → Edited xs (items_after xs edit new) edit (λ (y : X). y ≡ new)
    by (Insert at line) h = inserted xs at new line (λ (y : X). y ≡ new) refl h
    by (Replace at line) h = replaced xs at new line (λ (y : X). y ≡ new) refl h
    by (Delete at) h = removed xs at (λ (y : X). y ≡ new) h
    by (Open all) h = record { many = length-replicate (length all.items) new; front = refl; stood = λ n b o. cc; fresh = λ n y o e. grind (arith, gets, get_or-replicate, length-replicate) }

-- the lines themselves, before and after an edit
pub edited-lines : (lines : List KeptLine) (edit : LineEdit) → IsPlaceWithin (length lines) edit → Edited lines (lines_after lines edit) edit (λ y. Unit {0})
edited-lines lines (Insert at line) h = inserted lines at line line (λ y. Unit {0}) tt h
edited-lines lines (Replace at line) h = replaced lines at line line (λ y. Unit {0}) tt h
edited-lines lines (Delete at) h = removed lines at (λ y. Unit {0}) h
edited-lines lines (Open all) h = record { many = refl; front = refl; stood = λ n b o. cc; fresh = λ n y o e. tt }

-- the readings of the lines
pub edited-map : {X Y : Type 0} (f : X → Y) (xs ys : List X) (edit : LineEdit) (IsNew : X → Type 0) → Edited xs ys edit IsNew → Edited (map f xs) (map f ys) edit (λ y. Unit {0})
edited-map f xs ys edit IsNew e = record {
  many = length-map ys f ∙ e.many ∙ ap (λ n. count_after n edit) (sym (length-map xs f));
  front = take-map f (first_changed edit) xs ∙ ap (map f) e.front ∙ sym (take-map f (first_changed edit) ys);
  stood = λ n b o. slice_get-map f xs b ∙ ap (option_map f) (e.stood n b o) ∙ sym (slice_get-map f ys n);
  fresh = λ n y o e. tt;
}

-- the first part is within both lists
pub first-within : (count : ℕ) (edit : LineEdit) → IsPlaceWithin count edit → (first_changed edit ≤ count) × (first_changed edit ≤ count_after count edit)
first-within count (Insert at line) h = (h, omega arith)
first-within count (Replace at line) h = (omega arith, omega arith)
first-within count (Delete at) h = (omega arith, omega arith)
first-within count (Open all) h = (omega arith, omega arith)
