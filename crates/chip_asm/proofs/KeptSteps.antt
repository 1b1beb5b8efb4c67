-- Everything stored about a source, before and after an edit.
use Rattle.std.proofs.Common.{◌≡◌, ℕ, zero, suc, ◌+◌, ◌<◌, ◌≤◌, List, [], ◌∷◌, ◌++◌, reverse, length, take, drop, set, get_or, fold, refl, ap, sym, subst, ◌∙◌, arith, append_assoc, ◌-◌, Bool, true, false, cond, ◌&&◌, map, find, Option, Some, None, replicate, sum_by, length-append, vec_len, slice_get, inl, inr, vec_capacity, All, length-set, eq-eqb, insert, remove}
use Rattle.std.proofs.lemmas.List.{length-reverse, length-take, set-get_or, reverse-append, get_or_append_left, get_or-append_right, get_or_past, get_or-replicate, length-replicate, take_all, length-map, take-map, get_or-set_same, map-set, get_or_default, get_or-set_other, drop-map, map-append}
use Rattle.std.proofs.Math.Seq.{get_or-append_seam, map-set_same, set-append_seam}
use Rattle.chip_lang.specs.Line.{Reading, reading_of}
use Rattle.chip_asm.specs.inner.Infos.{AreAlike, AreInfos, IsInfo, AreSteady, is_steady, has_code}
use Rattle.chip_asm.specs.Layout.{Placed, body_of, is_if}
use Rattle.chip_asm.specs.computed.Walk.{place, placed, address, symbols}
use Rattle.chip_asm.proofs.BlockSteps.{reverse-cons}
use Rattle.chip_asm.proofs.Resumed.{passes, Begun, begun, begun-symbols, same-placed, steady-at, end-high, AllSteady, first-laid, length-laid}
use Rattle.chip_asm.proofs.Placing.{onto, fold-append, length-placed, parts}
use Rattle.chip_asm.proofs.QuietLines.{Same, with_line, place-swapped, place-same, same-cons, same-swapped, Quiet, quiet-old, quiet-new}
use Rattle.std.specs.Option.{option_map_or}
use Rattle.std.proofs.lemmas.Bool.Decides.{nat_tests}
use Rattle.chip_asm.specs.inner.Placements.{placements_of, final_placement, IsLayoutOf, IsCounted, first_placements, AreCodesNoted, count_of, found, Found, is_accepted, is_accepted_found, nothing, status_coded, placement_of}
use Rattle.chip_asm.specs.Program.{names_of_lines, code_under, bytes_in_code, covers, byte_at, code_with, fault_in_code}
use Rattle.std.proofs.lemmas.List.Elements.{All-nil, All-push, All-append, All-cons, All-drop, All-head, All-set, All-tail, All-take}
use Rattle.chip_asm.specs.declared.kept.Kept.{Kept}
use Rattle.chip_asm.specs.declared.limits.TheConstants.{MOST_LINES}
use Rattle.chip_asm.specs.inner.Codes.{IsImageOf, right_byte, IsWritten, code_kept, covers_byte, is_coded, kept_bytes}
use Rattle.chip_asm.specs.inner.Kept.{IsKept, lines_kept, IsAssembled, MayEdit, change_of, IsExchanged, lines_then, needed_by, texts_kept}
use Rattle.chip_asm.specs.inner.KeptLine.{KeptLine}
use Rattle.chip_asm.specs.inner.Records.{AllAdded, IsRead, reading_in, readings_in, texts_after, texts_in, IsPlaceWithin, lines_after, first_changed, count_after, place_before}
use Rattle.chip_symbols.specs.Tables.{Extends, AreOver, AreUpTo}
use Rattle.chip_asm.proofs.InfoSteps.{infos-extend}
use Rattle.std.specs.Global.{Vec}
use Rattle.std.proofs.lemmas.Bool.{cases_lt, false_from_ne_true, cases_eq}
use Rattle.chip_lang.specs.declared.limits.TheConstants.{IMAGE_BYTES, IMAGE_START}
use Rattle.chip_asm.specs.declared.edit.LineEdit.{LineEdit}
use Rattle.std.proofs.lemmas.Option.{same_Some, slice_get-get_or, slice_get_within, get_or_from_slice_get}
use Rattle.chip_asm.specs.declared.layout.Layout.{Layout}
use Rattle.chip_asm.specs.declared.placement.Placement.{Placement}
use Rattle.chip_asm.specs.declared.placement.Status.TheVariants.{Pending, Skipped}
use Rattle.chip_symbols.specs.declared.table.Symbol.{Symbol}
use Rattle.chip_symbols.specs.Names.{Name, values_of}
use Rattle.chip_asm.specs.Work.{is_accepted_at, is_accepted_in, needs_count}
use Rattle.chip_asm.specs.inner.Passes.{HasCode, IsHeld, IsSlot, is_byte_of, placed_at}
use Rattle.chip_asm.proofs.LinesApart.{covered-parts, outside}
use Rattle.chip_asm.proofs.LinesByPlace.{AtPlace, accepted-at, at-line, at-place, at-place-of, byte-line, byte-nowhere, ends-before, found-there, here-at, high, low, none-pending, covers-accepted, covered, set-here, set-other}
use Rattle.chip_asm.proofs.LinesAfter.{Edited, edited-lines, edited-map, same-front, shorter}
use Rattle.chip_asm.specs.Edits.{insert_refusal, before_replace}
use Rattle.chip_asm.specs.declared.edit.LineEdit.TheVariants.{Insert, Replace, Delete, Open}
use Rattle.chip_asm.proofs.Views.{needs-view, one-needed}
use Rattle.std.specs.Prelude.{min}

-- The lines of a source in which one line is replaced by one that is alike.

-- each of the lines has at least this address
abbrev pub AreAbove : ℕ → List Placed → Type 0
AreAbove low ps = All (λ p. low ≤ p.here) ps

-- lines that follow either of two lists, if the lists share the parts that the lines depend on
record Later (xs ys : List Placed) (lines : List Reading) (low : ℕ) : Type 0 where
  later : List Placed
  of_first : fold onto xs lines ≡ later ++ xs
  of_second : fold onto ys lines ≡ later ++ ys
  same : Same (later ++ xs) (later ++ ys)
  above : AreAbove low later

later : (xs ys : List Placed) (lines : List Reading) (low : ℕ) → Same xs ys → low ≤ address xs → Later xs ys lines low
later xs ys [] low s h = record { later = []; of_first = refl; of_second = refl; same = s; above = All-nil (λ (p : Placed). low ≤ p.here) }
later xs ys (line ∷ lines) low s h =
    let p : Placed = place xs line in
    let past = passes xs line in
    let here = (parts xs line).here in
    let r : Later (place xs line ∷ xs) (place xs line ∷ ys) lines low = later (place xs line ∷ xs) (place xs line ∷ ys) lines low (same-cons (place xs line) xs ys s) (omega arith) in
    record {
      later = r.later ++ place xs line ∷ [];
      of_first = r.of_first ∙ sym (append_assoc r.later (place xs line ∷ []) xs);
      of_second = ap (λ q. fold onto (q ∷ ys) lines) (sym (place-same xs ys line s)) ∙ r.of_second ∙ sym (append_assoc r.later (place xs line ∷ []) ys);
      same = rw (append_assoc r.later (place xs line ∷ []) xs, append_assoc r.later (place xs line ∷ []) ys) r.same;
      above = All-push (λ (p : Placed). low ≤ p.here) r.later (place xs line) r.above (omega arith);
    }

split-set : (lines : List Reading) (at : ℕ) (new : Reading) → at < length lines → set lines at new ≡ take at lines ++ new ∷ drop (suc at) lines
split-set [] at new h = absurd (omega arith)
split-set (l ∷ lines) zero new h = refl
split-set (l ∷ lines) (suc at) new h = ap (λ x. l ∷ x) (split-set lines at new (omega arith))

split-at : (lines : List Reading) (at : ℕ) (old : Reading) → at < length lines → get_or lines at old ≡ old → lines ≡ take at lines ++ old ∷ drop (suc at) lines
split-at lines at old h e = sym (set-get_or lines at old) ∙ ap (set lines at) e ∙ split-set lines at old h

placed-split : (front back : List Reading) (line : Reading) → placed (front ++ line ∷ back) ≡ fold onto (place (placed front) line ∷ placed front) back
unfolding placed
placed-split front back line = fold-append [] front (line ∷ back)

-- the lines before and after the swap
pub record Swapped (lines : List Reading) (at : ℕ) (new : Reading) : Type 0 where
  pub later : List Placed
  pub before : List Placed
  pub x : Placed
  pub count : length before ≡ at
  pub was : placed lines ≡ later ++ x ∷ before
  pub now : placed (set lines at new) ≡ later ++ with_line x new ∷ before
  pub same : Same (later ++ x ∷ before) (later ++ with_line x new ∷ before)
  pub above : AreAbove (x.here + x.size) later
  pub alike : AreAlike x.line new

pub reverse-middle : (later before : List Placed) (x : Placed) → reverse (later ++ x ∷ before) ≡ reverse before ++ x ∷ reverse later
reverse-middle later before x =
    reverse-append later (x ∷ before) ∙ ap (λ l. l ++ reverse later) (reverse-cons x before) ∙ append_assoc (reverse before) (x ∷ []) (reverse later)

pub at-middle : (later before : List Placed) (x d : Placed) (at : ℕ) → length before ≡ at → get_or (reverse (later ++ x ∷ before)) at d ≡ x
at-middle later before x d at e =
    let count : length (reverse before) ≡ at = length-reverse before ∙ e in
    ap (λ l. get_or l at d) (reverse-middle later before x) ∙ ap (λ n. get_or (reverse before ++ x ∷ reverse later) n d) (sym count) ∙ get_or-append_seam (reverse before) x (reverse later) d

pub swapped : (lines : List Reading) (at : ℕ) (old new : Reading) → at < length lines → get_or lines at old ≡ old → AreAlike old new → Swapped lines at new
swapped lines at old new inside is_old alike =
    let before : List Placed = placed (take at lines) in
    let x : Placed = place (placed (take at lines)) old in
    let back : List Reading = drop (suc at) lines in
    let was : placed lines ≡ fold onto (x ∷ before) back = ap placed (split-at lines at old inside is_old) ∙ placed-split (take at lines) back old in
    let now : placed (set lines at new) ≡ fold onto (place before new ∷ before) back = ap placed (split-set lines at new inside) ∙ placed-split (take at lines) back new in
    let count : length before ≡ at = omega (arith, length-placed (take at lines), length-take at lines) in
    let past : x.here + x.size ≤ address (x ∷ before) = passes before old in
    let e : AreAlike x.line new = subst (λ (l : Reading). AreAlike l new) (sym (parts before old).line_is) alike in
    let r : Later (x ∷ before) (with_line x new ∷ before) back (x.here + x.size) = later (x ∷ before) (with_line x new ∷ before) back (x.here + x.size) (same-swapped x new before e) past in
    record {
      later = r.later;
      before = before;
      x = x;
      count = count;
      was = was ∙ r.of_first;
      now = now ∙ ap (λ p. fold onto (p ∷ before) back) (place-swapped before old new alike) ∙ r.of_second;
      same = r.same;
      above = r.above;
      alike = e;
    }

-- Replacing a line by one that is alike changes only the line's bytes.

pub names-swapped : (lines : List Reading) (at : ℕ) (new : Reading) → Swapped lines at new → names_of_lines (set lines at new) ≡ names_of_lines lines
names-swapped lines at new s = ap symbols s.now ∙ sym s.same.names ∙ ap symbols (sym s.was)

pub end-swapped : (lines : List Reading) (at : ℕ) (new : Reading) → Swapped lines at new → address (placed (set lines at new)) ≡ address (placed lines)
end-swapped lines at new s = ap address s.now ∙ sym s.same.at ∙ ap address (sym s.was)

-- the first pass

pub final-same : (xs ys : List Placed) (p : Placed) → Same xs ys → final_placement xs p ≡ final_placement ys p
final-same xs ys p s = rw (s.ended, s.open_ifs) refl

final-swapped : (xs ys : List Placed) (x : Placed) (new : Reading) → Quiet x → Quiet (with_line x new) → final_placement xs x ≡ final_placement ys (with_line x new)
final-swapped xs ys x new a b = rw (a.no_if, b.no_if) refl

-- the line replaces the other one
pub line-swapped : (lines : List Reading) (at : ℕ) (new : Reading) (s : Swapped lines at new) → reverse (placed (set lines at new)) ≡ set (reverse (placed lines)) at (with_line s.x new)
line-swapped lines at new s =
    let count : length (reverse s.before) ≡ at = length-reverse s.before ∙ s.count in
    ap reverse s.now ∙ reverse-middle s.later s.before (with_line s.x new)
    ∙ sym (set-append_seam (reverse s.before) s.x (reverse s.later) (with_line s.x new))
    ∙ ap (λ n. set (reverse s.before ++ s.x ∷ reverse s.later) n (with_line s.x new)) count
    ∙ ap (λ l. set l at (with_line s.x new)) (sym (ap reverse s.was ∙ reverse-middle s.later s.before s.x))

pub line-was : (lines : List Reading) (at : ℕ) (new : Reading) (s : Swapped lines at new) (d : Placed) → get_or (reverse (placed lines)) at d ≡ s.x
line-was lines at new s d = ap (λ ps. get_or (reverse ps) at d) s.was ∙ at-middle s.later s.before s.x d at s.count

pub alike : (lines : List Reading) (at : ℕ) (new : Reading) (s : Swapped lines at new) → Same (placed lines) (placed (set lines at new))
alike lines at new s = rw (s.was, s.now) s.same

pub placements-swapped : (lines : List Reading) (at : ℕ) (new : Reading) → Swapped lines at new → placements_of (set lines at new) ≡ placements_of lines
unfolding placements_of
placements-swapped lines at new s =
    ap (map (final_placement (placed (set lines at new)))) (line-swapped lines at new s)
    ∙ (λ i. map (λ p. sym (final-same (placed lines) (placed (set lines at new)) p (alike lines at new s)) i) (set (reverse (placed lines)) at (with_line s.x new)))
    ∙ map-set_same (final_placement (placed lines)) (reverse (placed lines)) at (with_line s.x new) s.x
    (sym (final-swapped (placed lines) (placed lines) s.x new (quiet-old s.x new s.alike) (quiet-new s.x new s.alike)) ∙ ap (final_placement (placed lines)) (sym (line-was lines at new s s.x)))

-- bytes

find-past : (later before : List Placed) (y : Placed) (at low : ℕ) → AreAbove low later → at < low → covers at y ≡ true → find (covers at) (later ++ y ∷ before) ≡ Some y
find-past [] before y at low a h c = rw c refl
find-past (p ∷ later) before y at low a h c = rw (outside p.here p.size at (inl (omega (arith, h, All-head (λ (q : Placed). low ≤ q.here) p later a)))) (find-past later before y at low (All-tail (λ (q : Placed). low ≤ q.here) p later a) h c)

find-other : (f g : Placed → ℕ) → ((p : Placed) → f p ≡ g p) → (c : Placed → Bool) (later before : List Placed) (x y : Placed) → c x ≡ false → c y ≡ false
    → option_map_or g (find c (later ++ y ∷ before)) 0 ≡ option_map_or f (find c (later ++ x ∷ before)) 0
find-other f g same c [] before x y a b = rw (a, b) (by (find c before))
  where
    by : (o : Option Placed) → option_map_or g o 0 ≡ option_map_or f o 0
    by None = refl
    by (Some p) = sym (same p)
find-other f g same c (p ∷ later) before x y a b = by (c p) (find-other f g same c later before x y a b)
  where
    by : (t : Bool) → option_map_or g (find c (later ++ y ∷ before)) 0 ≡ option_map_or f (find c (later ++ x ∷ before)) 0
        → option_map_or g (cond t (Some p) (find c (later ++ y ∷ before))) 0 ≡ option_map_or f (cond t (Some p) (find c (later ++ x ∷ before))) 0
    by true rest = sym (same p)
    by false rest = rest

-- the byte of a placed line at an address
abbrev pub byte_in : List Placed → ℕ → Placed → ℕ
byte_in all at p = get_or (bytes_in_code (code_under all p)) (at - p.here) 0

byte-same : (xs ys : List Placed) (at : ℕ) (p : Placed) → Same xs ys → byte_in xs at p ≡ byte_in ys at p
byte-same xs ys at p s = rw s.names refl

-- the line's own bytes at its place, and the old bytes elsewhere
pub byte-swapped : (lines : List Reading) (at : ℕ) (new : Reading) (s : Swapped lines at new) (address : ℕ)
    → byte_at (placed (set lines at new)) address ≡ cond (covers address s.x) (byte_in (placed (set lines at new)) address (with_line s.x new)) (byte_at (placed lines) address)
unfolding byte_at
byte-swapped lines at new s address = by (covers address s.x) refl
  where
    old : List Placed
    old = s.later ++ s.x ∷ s.before

    now : List Placed
    now = s.later ++ with_line s.x new ∷ s.before

    by : (b : Bool) → covers address s.x ≡ b → byte_at (placed (set lines at new)) address ≡ cond b (byte_in (placed (set lines at new)) address (with_line s.x new)) (byte_at (placed lines) address)
    by true e =
        ap (λ o. option_map_or (byte_in (placed (set lines at new)) address) o 0)
        (ap (find (covers address)) s.now ∙ find-past s.later s.before (with_line s.x new) address (s.x.here + s.x.size) s.above (covered-parts s.x.here s.x.size address e).1 e)
    by false e =
        ap (λ ps. byte_at ps address) s.now
        ∙ find-other (byte_in (s.later ++ s.x ∷ s.before) address) (byte_in (s.later ++ with_line s.x new ∷ s.before) address)
        (λ p. byte-same (s.later ++ s.x ∷ s.before) (s.later ++ with_line s.x new ∷ s.before) address p s.same) (covers address) s.later s.before s.x (with_line s.x new) e e
        ∙ ap (λ ps. byte_at ps address) (sym s.was)

-- the result computed for these lines is right for them
pub kept-by : (kept : Kept) (lines : List KeptLine) → kept.lines.items ≡ lines → length lines ≤ MOST_LINES → readings_in lines ≡ map reading_of (texts_in lines) → AreInfos kept.names.keys lines
    → kept.names.symbols ≡ names_of_lines (readings_in lines) → IsLayoutOf kept.layout (readings_in lines) → IsImageOf kept.image.items (readings_in lines)
    → AreSteady lines kept.settled → IsKept kept
kept-by kept lines e few are_read infos symbols laid_out image settled = record {
  few = rw e few;
  are_read = rw e are_read;
  infos = rw e infos;
  symbols = rw e symbols;
  laid_out = rw e laid_out;
  image = rw e image;
  settled = rw e settled;
}

-- if there are no first lines, no line has to be steady
none-settled : (lines : List KeptLine) → AreSteady lines 0
none-settled lines = λ place other h. absurd (omega arith)

-- everything that is stored stays right if names are added
pub kept-same : (old new : Kept) → IsKept old → new.lines.items ≡ old.lines.items → new.layout ≡ old.layout → new.image ≡ old.image → new.settled ≡ old.settled
    → Extends old.names.keys new.names.keys → new.names.symbols ≡ old.names.symbols → IsKept new
kept-same old new k lines layout image settled keys symbols =
    kept-by new old.lines.items lines k.few k.are_read (infos-extend old.names.keys new.names.keys old.lines.items keys k.infos) (symbols ∙ k.symbols) (rw layout k.laid_out) (rw image k.image)
    (rw settled k.settled)

pub no-names : names_of_lines [] ≡ []
unfolding placed symbols
no-names = refl

no-image : IsImageOf [] []
unfolding placed byte_at
no-image = record { imaged = λ k h. refl; short = omega arith; long = λ h. absurd (omega arith) }

-- everything is right for a source without lines
pub kept-none : (kept : Kept) → kept.lines.items ≡ [] → kept.names.symbols ≡ [] → IsLayoutOf kept.layout [] → kept.image.items ≡ [] → kept.settled ≡ 0 → IsKept kept
kept-none kept none symbols laid_out image settled =
    kept-by kept [] none (omega arith) refl (All-nil (λ (k : KeptLine). IsInfo kept.names.keys k.info k.several (reading_in k))) (symbols ∙ sym no-names) laid_out (rw image no-image)
    (rw settled (none-settled []))

-- everything that is stored stays right under another numbering of the names
pub kept-renumbered : (old new : Kept) (lines : List KeptLine) → IsKept old → new.lines.items ≡ lines → texts_in lines ≡ texts_in old.lines.items → readings_in lines ≡ readings_in old.lines.items → length lines ≡ length old.lines.items
    → AreInfos new.names.keys lines → new.names.symbols ≡ old.names.symbols → new.layout ≡ old.layout → new.image ≡ old.image → new.settled ≡ 0 → IsKept new
kept-renumbered old new lines k e texts readings long infos symbols layout image settled =
    kept-by new lines e (omega (arith, k.few, long)) (readings ∙ k.are_read ∙ ap (map reading_of) (sym texts)) infos (symbols ∙ k.symbols ∙ ap names_of_lines (sym readings)) (rw (layout, readings) k.laid_out) (rw (image, readings) k.image)
    (rw settled (none-settled lines))

-- Everything that is stored stays right if room for an edit is reserved: the image gets its full length.

padded : (old new : List ℕ) (n k : ℕ) → new ≡ old ++ replicate n 0 → get_or new k 0 ≡ get_or old k 0
padded old new n k is = grind (arith, get_or_append_left, get_or-append_right, get_or_past, get_or-replicate, length-replicate, length-append, cases_lt k (length old), cases_lt k (length old + n))

-- zeros appended to the bytes change none of them
filled-byte : (old new : List ℕ) (k : ℕ) → length old ≤ IMAGE_BYTES → new ≡ take IMAGE_BYTES old ++ replicate (IMAGE_BYTES - length old) 0 → get_or new k 0 ≡ get_or old k 0
filled-byte old new k short is =
    let all : take IMAGE_BYTES old ≡ old = take_all IMAGE_BYTES old short in
    let split : new ≡ old ++ replicate (IMAGE_BYTES - length old) 0 = is ∙ ap (λ bytes. bytes ++ replicate (IMAGE_BYTES - length old) 0) all in
    padded old new (IMAGE_BYTES - length old) k split

pub filled : (old new : Vec ℕ) (lines : List Reading) → IsImageOf old.items lines → vec_len new ≡ IMAGE_BYTES → new.items ≡ take IMAGE_BYTES old.items ++ replicate (IMAGE_BYTES - vec_len old) 0 → IsImageOf new.items lines
filled old new lines i full is =
    let zeros : new.items ≡ take IMAGE_BYTES old.items ++ replicate (IMAGE_BYTES - length old.items) 0 = is ∙ ap (λ n. take IMAGE_BYTES old.items ++ replicate (IMAGE_BYTES - n) 0) old.ok.0 in
    record {
      imaged = λ k h. filled-byte old.items new.items k i.short zeros ∙ i.imaged k h;
      short = omega (arith, full, new.ok.0);
      long = λ some. sym new.ok.0 ∙ full;
    }

-- everything is right for a stored source with the same contents elsewhere in memory
pub kept-moved : (old new : Kept) → IsKept old → new.lines.items ≡ old.lines.items → new.layout.placements.items ≡ old.layout.placements.items → new.names ≡ old.names → new.layout.end ≡ old.layout.end
    → new.layout.faults ≡ old.layout.faults → new.settled ≡ old.settled → IsImageOf new.image.items (lines_kept old) → IsKept new
kept-moved old new k lines placements names end faults settled image =
    kept-by new old.lines.items lines k.few k.are_read (rw names k.infos) (rw names k.symbols)
    (record {
      placements = ap (map found) placements ∙ k.laid_out.placements;
      codes = rw placements k.laid_out.codes;
      end_address = end ∙ k.laid_out.end_address;
      counted = faults ∙ k.laid_out.counted ∙ ap (sum_by count_of) (sym placements);
    })
    image
    (rw settled k.settled)

-- After an edit, everything that is stored is right, and no more lines were encoded than the edit needs.

pub within-lines : (kept : Kept) (edit : LineEdit) → MayEdit kept edit → IsPlaceWithin (length kept.lines.items) edit
within-lines kept edit m = subst (λ n. IsPlaceWithin n edit) kept.lines.ok.0 m.within

-- A property of each stored line still holds after an edit if it holds for the added lines.

all-after : (P : KeptLine → Type 0) (lines : List KeptLine) (edit : LineEdit) → All P lines → AllAdded P edit → All P (lines_after lines edit)
all-after P lines (Insert at line) all one = All-append P (take at lines) (line ∷ drop at lines) (All-take P at lines all) (All-cons P line (drop at lines) one (All-drop P at lines all))
all-after P lines (Replace at line) all one = All-set P lines at line one all
all-after P lines (Delete at) all one = All-append P (take at lines) (drop (suc at) lines) (All-take P at lines all) (All-drop P (suc at) lines all)
all-after P lines (Open new) all one = one

pub all-read : (lines : List KeptLine) → readings_in lines ≡ map reading_of (texts_in lines) → All IsRead lines
all-read [] e = All-nil IsRead
all-read (x ∷ xs) e = All-cons IsRead x xs (cc) (all-read xs (cc))

read-all : (lines : List KeptLine) → All IsRead lines → readings_in lines ≡ map reading_of (texts_in lines)
read-all [] h = refl
read-all (x ∷ xs) h = λ j. All-head IsRead x xs h j ∷ read-all xs (All-tail IsRead x xs h) j

read-after : (lines : List KeptLine) (edit : LineEdit) → readings_in lines ≡ map reading_of (texts_in lines) → AllAdded IsRead edit → readings_in (lines_after lines edit) ≡ map reading_of (texts_in (lines_after lines edit))
read-after lines edit e one = read-all (lines_after lines edit) (all-after IsRead lines edit (all-read lines e) one)

pub texts-set : (lines : List KeptLine) (at : ℕ) (kept : KeptLine) → texts_in (set lines at kept) ≡ set (texts_in lines) at kept.text
texts-set lines at kept = map-set (λ (k : KeptLine). k.text) lines at kept

-- The lines after an edit.

-- the readings after a line is added or removed
map-insert : {X Y : Type 0} (f : X → Y) (xs : List X) (i : ℕ) (y : X) → map f (insert xs i y) ≡ insert (map f xs) i (f y)
map-insert f xs i y = map-append f (take i xs) (y ∷ drop i xs) ∙ (λ j. sym (take-map f i xs) j ++ f y ∷ sym (drop-map f i xs) j)

map-remove : {X Y : Type 0} (f : X → Y) (xs : List X) (i : ℕ) → map f (remove xs i) ≡ remove (map f xs) i
map-remove f xs i = map-append f (take i xs) (drop (suc i) xs) ∙ (λ j. sym (take-map f i xs) j ++ sym (drop-map f (suc i) xs) j)

pub texts-edited : (lines : List KeptLine) (edit : LineEdit) → texts_in (lines_after lines edit) ≡ texts_after (texts_in lines) edit
texts-edited lines (Insert at line) = map-insert (λ (k : KeptLine). k.text) lines at line
texts-edited lines (Replace at line) = texts-set lines at line
texts-edited lines (Delete at) = map-remove (λ (k : KeptLine). k.text) lines at
texts-edited lines (Open all) = refl

few-edited : (kept : Kept) (edit : LineEdit) → MayEdit kept edit → length (lines_after kept.lines.items edit) ≤ MOST_LINES
few-edited kept edit m = omega (arith, m.few, (edited-lines kept.lines.items edit (within-lines kept edit m)).many, ap (λ n. count_after n edit) kept.lines.ok.0)

all-are-read : (kept : Kept) (edit : LineEdit) → MayEdit kept edit → lines_then kept edit ≡ map reading_of (texts_in (lines_after kept.lines.items edit))
all-are-read kept edit m = read-after kept.lines.items edit m.kept.are_read m.are_read

infos-edited : (kept : Kept) (edit : LineEdit) → MayEdit kept edit → AreInfos kept.names.keys (lines_after kept.lines.items edit)
infos-edited kept edit m = all-after (λ (line : KeptLine). IsInfo kept.names.keys line.info line.several (reading_in line)) kept.lines.items edit m.kept.infos m.infos

-- the number of lines that are encoded because of an edit, computed from the texts
pub needs-edited : (kept : Kept) (edit : LineEdit) → MayEdit kept edit → needs_count (lines_kept kept) (lines_then kept edit) (place_before edit) ≡ needed_by kept edit
needs-edited kept edit m =
    needs-view (lines_kept kept) (lines_then kept edit) (texts_kept kept) (texts_after (texts_kept kept) edit) (place_before edit) m.kept.are_read
    (all-are-read kept edit m ∙ ap (map reading_of) (texts-edited kept.lines.items edit))

-- the first lines stay the same
pub begun-kept : (kept : Kept) (edit : LineEdit) (first : ℕ) → MayEdit kept edit → first ≤ first_changed edit → AreSteady kept.lines.items first → Begun kept.lines.items edit first
begun-kept kept edit first m stays steady = begun kept.names.keys kept.lines.items edit first (within-lines kept edit m) (infos-edited kept edit m) stays steady

-- after both passes, everything is right again
pub kept-edited : (old new : Kept) (edit : LineEdit) (first : ℕ) → MayEdit old edit → Begun old.lines.items edit first → new.lines.items ≡ lines_after old.lines.items edit
    → new.settled ≡ first → IsAssembled (change_of old edit) new → IsKept new
kept-edited old new edit first m b lines settled a =
    kept-by new (lines_after old.lines.items edit) lines (few-edited old edit m) (all-are-read old edit m) (subst (λ (ls : List KeptLine). AreInfos new.names.keys ls) lines a.infos) a.symbols a.laid_out a.image (rw settled b.stay)

-- An edit is made in the placements, and everything is ready for the two passes.

-- each byte is the byte that the lines determine
abbrev AreBytesOf : List ℕ → List Reading → Type 0
AreBytesOf image lines = (k : ℕ) → k < IMAGE_BYTES → get_or image k 0 ≡ right_byte lines k

-- an accepted line has its code
accepted-code : (layout : Layout) (image : List ℕ) (lines : List Reading) (n : ℕ) (q : Placement) (line : Reading) → IsLayoutOf layout lines → AreBytesOf image lines → (a : AtPlace lines n (found q))
    → is_accepted q.status ≡ true → slice_get layout.placements.items n ≡ Some q → slice_get lines n ≡ Some line → HasCode (code_with (names_of_lines lines) line) q.here q.size q.status image
accepted-code layout image lines n q line laid bytes a accepted there is = record {
  bytes = λ i byte.
      bytes i (omega (arith, low lines n (found q) a, high lines n (found q) a, (covered q.here q.size i true byte (low lines n (found q) a)).1)) ∙ byte-line lines n (found q) a (IMAGE_START + i) byte
      ∙ ap (λ r. get_or (bytes_in_code r) (IMAGE_START + i - q.here) 0) code;
  noted = laid.codes n a.x q a.at there (ap is_accepted_found (sym a.placement) ∙ accepted) ∙ ap (λ r. status_coded (fault_in_code r)) code;
}
  where
    code : code_under (placed lines) a.x ≡ code_with (names_of_lines lines) line
    code = ap (code_with (names_of_lines lines)) (same_Some a.x.line line (sym a.line ∙ is))

-- the edit is made, and the passes begin after these first lines
pub record IsMade (old new : Kept) (edit : LineEdit) (first here : ℕ) : Type 0 where
  pub may : MayEdit old edit
  pub begun : Begun old.lines.items edit first
  pub stays : first ≤ first_changed edit
  pub at_address : here ≡ address (placed (take first (lines_kept old)))
  pub lines : new.lines.items ≡ lines_after old.lines.items edit
  pub placements : Edited old.layout.placements.items new.layout.placements.items edit (λ q. q ≡ nothing)
  pub counted : IsCounted new.layout
  pub image : AreBytesOf new.image.items (lines_kept old)
  pub image_long : vec_len new.image ≡ IMAGE_BYTES
  pub spare_long : vec_len new.spare_image ≡ IMAGE_BYTES
  pub keys : new.names.keys ≡ old.names.keys
  pub before : new.names.before ≡ values_of old.names.symbols
  pub symbols : (early later : List (Name × Symbol)) → old.names.symbols ≡ early ++ later → AreUpTo first early → AreOver first later → new.names.symbols ≡ early
  pub names_room : length new.names.symbols + count_after (length old.lines.items) edit ≤ new.names.room
  pub blocks_room : count_after (length old.lines.items) edit ≤ vec_capacity new.blocks

-- the placements of the lines

pub placed-many : (kept : Kept) → IsKept kept → length kept.layout.placements.items ≡ length kept.lines.items
placed-many kept k = length-laid kept.layout (lines_kept kept) k.laid_out ∙ length-map kept.lines.items reading_in

read-edited : (old : Kept) (edit : LineEdit) → MayEdit old edit → Edited (lines_kept old) (lines_then old edit) edit (λ y. Unit {0})
read-edited old edit m = edited-map reading_in old.lines.items (lines_after old.lines.items edit) edit (λ y. Unit {0}) (edited-lines old.lines.items edit (within-lines old edit m))

-- the facts about a line after the first ones
slot : (old new : Kept) (edit : LineEdit) (first here : ℕ) → IsMade old new edit first here → (j : ℕ) (line : Reading) (q : Placement) → slice_get (lines_then old edit) j ≡ Some line
    → slice_get new.layout.placements.items j ≡ Some q → IsSlot (change_of old edit) new.image.items j line q
slot old new edit first here m j line q line_at q_at = by (place_before edit j) refl
  where
    by : (o : Option ℕ) → place_before edit j ≡ o → IsSlot (change_of old edit) new.image.items j line q
    by None origin =
        let refused : is_accepted q.status ≡ false = ap (λ (p : Placement). is_accepted p.status) (m.placements.fresh j q origin q_at) in
        record {
          accepted = refused ∙ sym (ap (λ o. option_map_or (is_accepted_at (lines_kept old)) o false) origin);
          was = λ accepted. absurd (cc);
          code = λ accepted. absurd (cc);
        }
    by (Some b) origin =
        let q_old : slice_get old.layout.placements.items b ≡ Some q = m.placements.stood j b origin ∙ q_at in
        let q_was : slice_get (placements_of (lines_kept old)) b ≡ Some (found q) = found-there (lines_kept old) old.layout m.may.kept.laid_out b q q_old in
        let a : AtPlace (lines_kept old) b (found q) = at-place-of (lines_kept old) b (found q) q_was in
        record {
          accepted = sym (ap (λ o. option_map_or (is_accepted_at (lines_kept old)) o false) origin ∙ accepted-at (lines_kept old) b (found q) a);
          was = λ accepted. (b, origin, q_was);
          code = λ accepted.
              accepted-code old.layout new.image.items (lines_kept old) b q line m.may.kept.laid_out m.image a accepted q_old
              ((read-edited old edit m.may).stood j b origin ∙ line_at);
        }

-- the facts about one of the first lines

-- the line is placed as before
placed-first : (old : Kept) (edit : LineEdit) (first n : ℕ) → Begun old.lines.items edit first → n < first → slice_get (reverse (placed (lines_kept old))) n ≡ slice_get (reverse (placed (lines_then old edit))) n
placed-first old edit first n b below = same-placed (lines_kept old) (lines_then old edit) first n b.same b.long (omega (arith, b.within, length-map (lines_after old.lines.items edit) reading_in)) below

first-held : (old new : Kept) (edit : LineEdit) (first here : ℕ) → IsMade old new edit first here → (j : ℕ) (x : Placed) (q : Placement) → j < first → placed_at (change_of old edit) j ≡ Some x
    → slice_get new.layout.placements.items j ≡ Some q → IsHeld (change_of old edit) j x q new.image.items
first-held old new edit first here m j x q below at q_at = λ effect.
    let was : List Reading = lines_kept old in
    let q_old : slice_get old.layout.placements.items j ≡ Some q
    = same-front old.layout.placements.items new.layout.placements.items first j (shorter first (first_changed edit) old.layout.placements.items new.layout.placements.items m.stays m.placements.front) below ∙ q_at in
    let a : AtPlace was j (found q) = at-place was old.layout m.may.kept.laid_out j q q_old in
    let is : a.x ≡ x = same_Some a.x x (sym a.at ∙ placed-first old edit first j m.begun below ∙ at) in
    let line : slice_get was j ≡ Some x.line = a.line ∙ ap (λ (p : Placed). Some p.line) is in
    let steady : is_steady (body_of x.line) ≡ true = steady-at was first j x.line (subst AllSteady (sym m.begun.same) m.begun.steady) below line in
    let not_if : is_if x ≡ false = grind arith in
    let same : found q ≡ placement_of x = a.placement ∙ ap (final_placement (placed was)) is ∙ (rw not_if refl) in
    inr (subst (λ (f : Found). HasCode (code_with (names_of_lines was) x.line) f.here f.size q.status new.image.items) same
    (accepted-code old.layout new.image.items was j q x.line m.may.kept.laid_out m.image a (ap is_accepted_found same ∙ effect) q_old line))

-- the bytes that no first line covers

first-below : (lines : List Reading) (first n : ℕ) (q : Found) → first ≤ n → AtPlace lines n q → address (placed (take first lines)) ≤ q.here
first-below lines first n q h a =
    elim (cases_lt first n) [
      | inl below ↦
          (let y : Placed = get_or (reverse (placed lines)) first a.x in
          let there : slice_get (reverse (placed lines)) first ≡ Some y = slice_get-get_or (reverse (placed lines)) first a.x (omega (arith, slice_get_within (reverse (placed lines)) n a.x a.at)) in
          omega (arith, here-at lines n q a, here-at lines first (final_placement (placed lines) y) (at-line lines first y there), ends-before lines n first y below there))
      | inr above ↦ (let same : n ≡ first = omega arith in omega (arith, here-at lines n q a, ap (λ k. address (placed (take k lines))) same))
    ]

first-gap : (old new : Kept) (edit : LineEdit) (first here : ℕ) → IsMade old new edit first here → (k : ℕ) → IMAGE_START + k < here
    → ((j : ℕ) (x : Placed) → j < first → placed_at (change_of old edit) j ≡ Some x → is_byte_of x.here x.size k ≡ false) → get_or new.image.items k 0 ≡ 0
first-gap old new edit first here m k before none =
    let was : List Reading = lines_kept old in
    m.image k (omega (arith, before, m.at_address, end-high (take first was)))
    ∙ byte-nowhere was (IMAGE_START + k) (λ n q there.
    let a : AtPlace was n q = at-place-of was n q there in
    elim (cases_lt n first) [
      | inl below ↦ ap (λ (f : Found). is_byte_of f.here f.size k) a.placement ∙ none n a.x below (sym (placed-first old edit first n m.begun below) ∙ a.at)
      | inr above ↦ false_from_ne_true (is_byte_of q.here q.size k) (λ byte.
          omega (arith, first-below was first n q above a, (covered q.here q.size k true byte (low was n q a)).0, m.at_address))
    ])

-- no line waits for its code
none-waits : (old new : Kept) (edit : LineEdit) (first here : ℕ) → IsMade old new edit first here → (j : ℕ) (q : Placement) → slice_get new.layout.placements.items j ≡ Some q → q.status ≡ Pending → ⊥
none-waits old new edit first here m j q at waits = by (place_before edit j) refl
  where
    by : (o : Option ℕ) → place_before edit j ≡ o → ⊥
    by None origin = (let skipped : q.status ≡ Skipped = ap (λ (p : Placement). p.status) (m.placements.fresh j q origin at) in cc)
    by (Some b) origin = none-pending (lines_kept old) old.layout m.may.kept.laid_out b q (m.placements.stood j b origin ∙ at) waits

-- everything is ready
pub exchanged : (old new : Kept) (edit : LineEdit) (first here : ℕ) → IsMade old new edit first here → IsExchanged (change_of old edit) new first here
exchanged old new edit first here m =
    let b : Begun old.lines.items edit first = m.begun in
    let long : length new.lines.items ≡ length (lines_after old.lines.items edit) = ap length m.lines in
    let count : length new.lines.items ≡ count_after (length old.lines.items) edit = long ∙ (edited-lines old.lines.items edit (within-lines old edit m.may)).many in
    record {
      now = ap readings_in (sym m.lines);
      change = λ j b origin inside. (read-edited old edit m.may).stood j b origin;
      few = omega (arith, few-edited old edit m.may, long);
      inside = omega (arith, b.within, long);
      placed_many = m.placements.many ∙ ap (λ n. count_after n edit) (placed-many old m.may.kept) ∙ sym count;
      image_long = m.image_long;
      spare_long = m.spare_long;
      infos = rw (m.keys, m.lines) (infos-edited old edit m.may);
      keys = m.keys;
      symbols = begun-symbols (lines_kept old) (lines_then old edit) first b.long b.same old.names.symbols new.names.symbols m.may.kept.symbols m.symbols;
      before = m.before ∙ ap values_of m.may.kept.symbols;
      names_room = omega (arith, m.names_room, count);
      blocks_room = omega (arith, m.blocks_room, count);
      steady = rw m.lines b.stay;
      front = take-map found first new.layout.placements.items
          ∙ ap (map found) (sym (shorter first (first_changed edit) old.layout.placements.items new.layout.placements.items m.stays m.placements.front))
          ∙ sym (take-map found first old.layout.placements.items)
          ∙ first-laid old.layout (lines_kept old) first m.may.kept.laid_out b.long (subst AllSteady (sym b.same) b.steady) ∙ ap first_placements b.same;
      at_address = m.at_address ∙ ap (λ ls. address (placed ls)) b.same;
      counted = m.counted;
      none_pending = none-waits old new edit first here m;
      slots = λ j line q behind. slot old new edit first here m j line q;
      held = first-held old new edit first here m;
      gaps = first-gap old new edit first here m;
    }

pub readings-set : (lines : List KeptLine) (at : ℕ) (added : KeptLine) → readings_in (set lines at added) ≡ set (readings_in lines) at (reading_in added)
readings-set lines at added = map-set reading_in lines at added

-- an insertion that isn't refused has room
pub has-room : (count number : ℕ) (text : List ℕ) → insert_refusal count number text ≡ None → count < MOST_LINES
has-room count number text h = grind (arith, nat_tests)

-- Everything that is stored stays right if a line is replaced by one that is alike.

-- the line at the place, before and after
pub record Exchange (lines : List Reading) (at : ℕ) (new : Reading) (q : Placement) : Type 0 where
  pub swap : Swapped lines at new
  pub was : AtPlace lines at (found q)
  pub now : AtPlace (set lines at new) at (found q)
  pub inside : at < length lines

pub exchange-kept : (kept : Kept) (at : ℕ) (added : KeptLine) (q : Placement) → IsKept kept → at < vec_len kept.lines → q ≡ get_or kept.layout.placements.items at q
    → AreAlike (get_or (readings_in kept.lines.items) at (reading_in added)) (reading_in added) → Exchange (readings_in kept.lines.items) at (reading_in added) q
exchange-kept kept at added q k within is alike =
    let lines : List Reading = readings_in kept.lines.items in
    let new : Reading = reading_in added in
    let inside : at < length lines = omega (arith, within, kept.lines.ok.0, length-map kept.lines.items reading_in) in
    let s : Swapped lines at new = swapped lines at (get_or lines at new) new inside (get_or_default lines at (get_or lines at new) new inside) alike in
    let there = found-there lines kept.layout k.laid_out at q (slice_get-get_or kept.layout.placements.items at q (omega (arith, inside, length-laid kept.layout lines k.laid_out)) ∙ ap Some (sym is)) in
    record {
      swap = s;
      was = at-place-of lines at (found q) there;
      now = at-place-of (set lines at new) at (found q) (ap (λ qs. slice_get qs at) (placements-swapped lines at new s) ∙ there);
      inside = inside;
    }

-- the line at the place is the new line
pub line-new : (lines : List Reading) (at : ℕ) (new : Reading) (q : Placement) (e : Exchange lines at new q) → e.now.x.line ≡ new
line-new lines at new q e = sym (get_or_from_slice_get (set lines at new) at e.now.x.line new e.now.line) ∙ get_or-set_same lines at new new e.inside

-- the code of the line is the code of the stored line
code-swapped : (kept : Kept) (at : ℕ) (added : KeptLine) (q : Placement) → IsKept kept → (e : Exchange (readings_in kept.lines.items) at (reading_in added) q)
    → code_kept kept.names added ≡ code_under (placed (set (readings_in kept.lines.items) at (reading_in added))) e.now.x
code-swapped kept at added q k e =
    let lines : List Reading = readings_in kept.lines.items in
    ap (code_with kept.names.symbols) (sym (line-new lines at (reading_in added) q e))
    ∙ ap (λ names. code_with names e.now.x.line) (k.symbols ∙ sym (names-swapped lines at (reading_in added) e.swap))

-- outside the line's place, the bytes stay the same
byte-apart : (lines : List Reading) (at : ℕ) (new : Reading) (q : Placement) (e : Exchange lines at new q) (k : ℕ) → covers_byte q k ≡ false → right_byte (set lines at new) k ≡ right_byte lines k
byte-apart lines at new q e k apart =
    let x : e.was.x ≡ e.swap.x = sym (get_or_from_slice_get _ at e.was.x e.was.x e.was.at) ∙ line-was lines at new e.swap e.was.x in
    let here : q.here ≡ e.swap.x.here = ap (λ p. p.here) e.was.placement ∙ ap (λ p. p.here) x in
    let size : q.size ≡ e.swap.x.size = ap (λ p. p.size) e.was.placement ∙ ap (λ p. p.size) x in
    byte-swapped lines at new e.swap (IMAGE_START + k)
    ∙ ap (λ b. cond b (byte_in (placed (set lines at new)) (IMAGE_START + k) (with_line e.swap.x new)) (right_byte lines k)) ((rw (← here, ← size) refl) ∙ apart)

-- the bytes of the line are written, the status of an accepted line contains the fault of its code,
-- and nothing else has changed
pub record IsNoted (old now : Kept) (at : ℕ) (added : KeptLine) (q made : Placement) : Type 0 where
  pub rest : record now { image = old.image; layout = record old.layout { end = now.layout.end } } ≡ old
  pub written : IsWritten q (kept_bytes old.names added q) old.image.items now.image.items
  pub long : length now.image.items ≡ length old.image.items
  pub items : now.layout.placements.items ≡ set old.layout.placements.items at made
  pub same : found made ≡ found q
  pub noted : is_accepted q.status ≡ true → made.status ≡ status_coded (fault_in_code (code_kept old.names added))
  pub counted : IsCounted now.layout

module _ (old now : Kept) (at : ℕ) (added : KeptLine) (q made : Placement) (k : IsKept old) (e : Exchange (readings_in old.lines.items) at (reading_in added) q) (n : IsNoted old now at added q made) where
  lines : List Reading
  lines = readings_in old.lines.items

  after : List Reading
  after = set (readings_in old.lines.items) at (reading_in added)

  image-swapped : IsImageOf now.image.items after
  unfolding lines after
  image-swapped =
      record {
        imaged = λ i h. byte i (covers_byte q i) refl (k.image.imaged i h);
        short = omega (arith, n.long, k.image.short);
        long = λ some. n.long ∙ k.image.long (omega (arith, e.inside));
      }
    where
      bytes : List ℕ
      bytes = kept_bytes old.names added q

      byte : (i : ℕ) (b : Bool) → covers_byte q i ≡ b → get_or old.image.items i 0 ≡ right_byte lines i → get_or now.image.items i 0 ≡ right_byte after i
      byte i true c was =
          n.written i ∙ ap (λ b. cond b (get_or bytes (IMAGE_START + i - q.here) 0) (get_or old.image.items i 0)) c
          ∙ ap (λ b. get_or (cond b (bytes_in_code (code_kept old.names added)) []) (IMAGE_START + i - q.here) 0) (covers-accepted after at (found q) e.now (IMAGE_START + i) c)
          ∙ ap (λ code. get_or (bytes_in_code code) (IMAGE_START + i - q.here) 0) (code-swapped old at added q k e)
          ∙ sym (byte-line after at (found q) e.now (IMAGE_START + i) c)
      byte i false c was =
          n.written i ∙ ap (λ b. cond b (get_or bytes (IMAGE_START + i - q.here) 0) (get_or old.image.items i 0)) c ∙ was ∙ sym (byte-apart lines at (reading_in added) q e i c)

  codes-swapped : AreCodesNoted (set old.layout.placements.items at made) after
  unfolding lines after
  codes-swapped j x p x_at p_at accepted = elim (cases_eq j at) [
    | inl here ↦
        (let is_x : x ≡ e.now.x = same_Some x e.now.x (sym x_at ∙ ap (slice_get (reverse (placed after))) here ∙ e.now.at) in
        let is_made : p ≡ made
        = same_Some p made (sym p_at ∙ ap (slice_get (set old.layout.placements.items at made)) here ∙ set-here old.layout.placements.items at made (omega (arith, e.inside, length-laid old.layout lines k.laid_out))) in
        ap (λ (r : Placement). r.status) is_made
        ∙ n.noted (ap is_accepted_found e.now.placement ∙ ap (is_accepted_in (placed after)) (sym is_x) ∙ accepted)
        ∙ ap (λ code. status_coded (fault_in_code code)) (code-swapped old at added q k e ∙ ap (code_under (placed after)) (sym is_x)))
    | inr other ↦
        (let s = alike lines at (reading_in added) e.swap in
        k.laid_out.codes j x p (sym (set-other (reverse (placed lines)) at j (with_line e.swap.x (reading_in added)) other) ∙ ap (λ ps. slice_get ps j) (sym (line-swapped lines at (reading_in added) e.swap)) ∙ x_at)
        (sym (set-other old.layout.placements.items at j made other) ∙ p_at) (ap is_accepted_found (final-same (placed lines) (placed after) x s) ∙ accepted)
        ∙ ap (λ names. status_coded (fault_in_code (code_with names x.line))) s.names)
  ]

  layout-swapped : q ≡ get_or old.layout.placements.items at q → IsLayoutOf now.layout after
  unfolding lines after
  layout-swapped is = record {
    placements = ap (map found) n.items ∙ map-set_same found old.layout.placements.items at made q (n.same ∙ ap found is) ∙ k.laid_out.placements ∙ sym (placements-swapped lines at (reading_in added) e.swap);
    codes = rw n.items codes-swapped;
    end_address = ap (λ (k : Kept). k.layout.end) n.rest ∙ k.laid_out.end_address ∙ sym (end-swapped lines at (reading_in added) e.swap);
    counted = n.counted;
  }

-- the lines before the new one stay the same
settled-swapped : (lines : List KeptLine) (old new at : ℕ) (added : KeptLine) → new ≡ min old at → AreSteady lines old → AreSteady (set lines at added) new
settled-swapped lines old new at added is s = λ place other h.
    ap (λ (k : KeptLine). k.info.is_steady) (get_or-set_other lines at place added other (λ e. omega arith)) ∙ s place other (omega arith)

-- everything is right again
pub kept-swapped : (old now new : Kept) (at : ℕ) (added : KeptLine) (q made : Placement) → IsKept old → IsNoted old now at added q made → new.lines.items ≡ set now.lines.items at added
    → new.settled ≡ min now.settled at → new.names ≡ now.names → new.layout ≡ now.layout → new.image ≡ now.image
    → reading_in added ≡ reading_of added.text → IsInfo old.names.keys added.info added.several (reading_in added) → Exchange (readings_in old.lines.items) at (reading_in added) q
    → q ≡ get_or old.layout.placements.items at q → IsKept new
unfolding after
kept-swapped old now new at added q made k n lines settled names layout image read info e is =
    let all : readings_in (set old.lines.items at added) ≡ set (readings_in old.lines.items) at (reading_in added) = readings-set old.lines.items at added in
    let same : new.names ≡ old.names = names ∙ ap (λ (k : Kept). k.names) n.rest in
    kept-by new (set old.lines.items at added) (lines ∙ ap (λ (k : Kept). set k.lines.items at added) n.rest) (omega (arith, k.few, length-set old.lines.items at added)) (read-after old.lines.items (Replace at added) k.are_read read)
    (rw same (all-after (λ (k : KeptLine). IsInfo old.names.keys k.info k.several (reading_in k)) old.lines.items (Replace at added) k.infos info))
    (ap (λ t. t.symbols) same ∙ k.symbols ∙ sym (names-swapped (readings_in old.lines.items) at (reading_in added) e.swap) ∙ ap names_of_lines (sym all))
    (rw (layout, all) (layout-swapped old now at added q made k e n is))
    (rw (image, all) (image-swapped old now at added q made k e n))
    (settled-swapped old.lines.items old.settled new.settled at added (settled ∙ ap (λ (k : Kept). min k.settled at) n.rest) k.settled)

-- a line that is encoded had to be encoded
pub encoded-kept : (kept : Kept) (at : ℕ) (added : KeptLine) (q : Placement) (old new : ℕ) → Exchange (readings_in kept.lines.items) at (reading_in added) q
    → new ≤ old + cond (is_coded added q) 1 0 → new ≤ old + needs_count (readings_in kept.lines.items) (set (readings_in kept.lines.items) at (reading_in added)) (before_replace at)
encoded-kept kept at added q old new e h = by (is_accepted q.status) (has_code (body_of (reading_in added))) refl h
  where
    lines : List Reading
    lines = readings_in kept.lines.items

    now : List Reading
    now = set lines at (reading_in added)

    needed : is_accepted q.status ≡ true → 1 ≤ needs_count lines now (before_replace at)
    needed accepted =
        let none : before_replace at at ≡ None = rw (eq-eqb at at refl) refl in
        one-needed lines now (before_replace at) at (reading_in added) (e.now.line ∙ ap Some (line-new lines at (reading_in added) q e)) none
        (accepted-at now at (found q) e.now ∙ accepted)

    by : (p b : Bool) → is_accepted q.status ≡ p → new ≤ old + cond (p && b) 1 0 → new ≤ old + needs_count lines now (before_replace at)
    by true true accepted h = omega (arith, needed accepted)
    by true false accepted h = omega arith
    by false b accepted h = omega arith
