-- The image and the faults of all lines.
use Rattle.std.proofs.Common.{◌≡◌, ℕ, zero, suc, ◌+◌, ◌-◌, ◌<◌, ◌≤◌, Bool, true, false, cond, List, [], ◌∷◌, ◌++◌, map, reverse, length, take, get_or, slice_get, filter_map, refl, ap, sym, ◌∙◌, arith, Option, Some, None, is_none, option_map, sum_by, vec_len, ℤ, nat_eq, ne_eqb, zip, ◌⊎◌, inl, inr}
use Rattle.std.specs.Prelude.{option_and_then, min}
use Rattle.std.specs.List.{range_with_len, cons_option}
use Rattle.std.proofs.lemmas.List.{get_or-map, get_or-take, length-map, length-take, nil_from_length, same_lists, take_all, take_more, ext_get_or, get_or_past}
use Rattle.std.proofs.lemmas.List.Elements.{filter_map-append}
use Rattle.std.proofs.lemmas.List.Sums.{sum_by-cons}
use Rattle.std.proofs.lemmas.List.FromFn.{get_or-map-range_with_len, length-range_with_len, length-map-range_with_len}
use Rattle.std.proofs.lemmas.Grind.{same_number_lists}
use Rattle.std.proofs.lemmas.Option.{same_Some, slice_get-get_or, slice_get-map, slice_get_within, slice_get_past, none-some}
use Rattle.chip_lang.specs.declared.fault.Fault.{Fault}
use Rattle.chip_lang.specs.declared.fault.Fault.TheVariants.{UnclosedIf}
use Rattle.chip_lang.specs.declared.limits.TheConstants.{IMAGE_BYTES, IMAGE_START}
use Rattle.chip_lang.specs.Line.{Reading, bad, reading_of}
use Rattle.chip_asm.specs.declared.kept.Kept.{Kept}
use Rattle.chip_asm.specs.declared.layout.Layout.{Layout}
use Rattle.chip_asm.specs.declared.placement.Placement.{Placement}
use Rattle.chip_asm.specs.declared.placement.Status.{Status}
use Rattle.chip_asm.specs.declared.placement.Status.TheVariants.{Done, Pending, Refused, Skipped, Uncoded}
use Rattle.chip_asm.specs.Layout.{Placed}
use Rattle.chip_asm.specs.Program.{byte_at, bytes_in_code, code_under, fault_in_code, fault_of, faults_of_lines, image_of_lines, numbered_fault, AgreesOutside, bytes_of_lines, image_of, unless_faulty}
use Rattle.chip_asm.specs.computed.Walk.{address, place, placed}
use Rattle.chip_asm.specs.inner.Codes.{IsImageOf, IsWritten, covers_byte}
use Rattle.chip_asm.specs.inner.Kept.{IsKept, lines_kept, texts_kept}
use Rattle.chip_asm.specs.inner.KeptLine.{KeptLine}
use Rattle.chip_asm.specs.inner.Placements.{IsLayoutOf, Found, count_of, fault_noted, found, is_accepted, is_accepted_found, nothing, refusal, status_coded}
use Rattle.chip_asm.specs.inner.Records.{reading_in, readings_in, texts_in}
use Rattle.chip_asm.proofs.Resumed.{end-high, length-laid}
use Rattle.chip_asm.proofs.LinesApart.{covering}
use Rattle.chip_asm.proofs.LinesByPlace.{AtPlace, accepted-fault, at-place, byte-line, high, low, refused-fault, covered}
use Rattle.chip_asm.proofs.Placing.{length-numbered}
use Rattle.chip_asm.proofs.PlacesAgree.{number-at}
use Rattle.std.proofs.lemmas.Slice.Zip.{length-zip}
use Rattle.std.proofs.Math.Nat.{min-eq_left}
use Rattle.chip_asm.specs.LineViews.{LineFacts, facts_of, facts_of_lines, line_at, line_facts, with_zeros}
use Rattle.chip_asm.specs.inner.Facts.{facts_in}
use Rattle.std.proofs.lemmas.Bool.{cases_lt, false_from_ne_true}

-- the whole image

pub image-made : (lines : List Reading) (image : List ℕ) (size : ℕ) → size ≤ length image → size ≡ address (placed lines) - IMAGE_START → 0 ≡ length (faults_of_lines lines)
    → ((k : ℕ) → k < IMAGE_BYTES → get_or image k 0 ≡ byte_at (placed lines) (IMAGE_START + k)) → Some (take size image) ≡ image_of_lines lines
image-made lines image size long is_size counted h =
    let bytes : List ℕ = map (byte_at (placed lines)) (range_with_len IMAGE_START size) in
    let made : length bytes ≡ size = length-map (range_with_len IMAGE_START size) (byte_at (placed lines)) ∙ length-range_with_len IMAGE_START size in
    let count : length (take size image) ≡ size = omega (arith, length-take size image) in
    rw (nil_from_length (faults_of_lines lines) (sym counted), ← is_size) (ap Some (same_number_lists (take size image) bytes (count ∙ sym made) (λ k inside.
    get_or-take size image k 0 (omega arith) ∙ h k (omega (arith, end-high lines)) ∙ sym (get_or-map-range_with_len (byte_at (placed lines)) IMAGE_START size k (IMAGE_START + k) 0 (omega arith) refl))))

no-lines : (lines : List KeptLine) → length lines ≡ 0 → address (placed (readings_in lines)) ≡ IMAGE_START
unfolding placed address
no-lines [] e = refl
no-lines (l ∷ lines) e = absurd (omega arith)

-- the stored image extends at least to the address after the last line
pub image-room : (kept : Kept) → IsKept kept → kept.layout.end ≤ vec_len kept.image + IMAGE_START
image-room kept k = by (length kept.lines.items) refl
  where
    by : (n : ℕ) → length kept.lines.items ≡ n → kept.layout.end ≤ vec_len kept.image + IMAGE_START
    by zero e = omega (arith, k.laid_out.end_address, no-lines kept.lines.items e)
    by (suc n) e = omega (arith, k.laid_out.end_address, end-high (readings_in kept.lines.items), k.image.long (omega (arith, e, length-map kept.lines.items reading_in)), kept.image.ok.0)

-- the faults

refused-noted : (s : Status) → is_accepted s ≡ false → fault_noted s ≡ refusal s
refused-noted Skipped h = refl
refused-noted (Refused f) h = refl
refused-noted Pending h = refl
refused-noted Done h = refl
refused-noted (Uncoded f) h = cc

coded-noted : (f : Option Fault) → fault_noted (status_coded f) ≡ f
coded-noted None = refl
coded-noted (Some f) = refl

-- the fault in the status of a line is the line's fault
pub fault-kept : (layout : Layout) (lines : List Reading) (i : ℕ) (x : Placed) (q : Placement) → IsLayoutOf layout lines → slice_get (reverse (placed lines)) i ≡ Some x → slice_get layout.placements.items i ≡ Some q
    → fault_noted q.status ≡ fault_of (placed lines) x
fault-kept layout lines i x q laid there noted = by (is_accepted q.status) refl
  where
    a : AtPlace lines i (found q)
    a = at-place lines layout laid i q noted

    is : a.x ≡ x
    is = same_Some a.x x (sym a.at ∙ there)

    by : (b : Bool) → is_accepted q.status ≡ b → fault_noted q.status ≡ fault_of (placed lines) x
    by true taken =
        ap fault_noted (laid.codes i a.x q a.at noted (ap is_accepted_found (sym a.placement) ∙ taken)) ∙ coded-noted (fault_in_code (code_under (placed lines) a.x))
        ∙ sym (accepted-fault lines i (found q) a taken) ∙ ap (fault_of (placed lines)) is
    by false refused = refused-noted q.status refused ∙ refused-fault lines i (found q) a refused ∙ ap (fault_of (placed lines)) is

-- the faults of all lines
faults-kept : (layout : Layout) (lines : List Reading) → IsLayoutOf layout lines → map (λ (q : Placement). fault_noted q.status) layout.placements.items ≡ map (fault_of (placed lines)) (reverse (placed lines))
faults-kept layout lines laid =
    same_lists _ _ (length-map qs noted ∙ length-laid layout lines laid ∙ sym (length-map all (fault_of (placed lines)) ∙ length-numbered lines)) (λ i other lt.
    (let inside : i < length qs = omega (arith, lt, length-map qs noted) in
    let within : i < length all = omega (arith, inside, length-laid layout lines laid, length-numbered lines) in
    let d : Placed = place [] (bad UnclosedIf) in
    get_or-map noted qs i nothing other inside
    ∙ fault-kept layout lines i (get_or all i d) (get_or qs i nothing) laid (slice_get-get_or all i d within) (slice_get-get_or qs i nothing inside)
    ∙ sym (get_or-map (fault_of (placed lines)) all i d other within)))
  where
    qs : List Placement
    qs = layout.placements.items

    all : List Placed
    all = reverse (placed lines)

    noted : Placement → Option Fault
    noted q = fault_noted q.status

pub fault-there : (layout : Layout) (lines : List Reading) (i : ℕ) (there : Option Placement) → IsLayoutOf layout lines → slice_get layout.placements.items i ≡ there
    → option_and_then (λ (q : Placement). fault_noted q.status) there ≡ option_and_then (fault_of (placed lines)) (slice_get (reverse (placed lines)) i)
fault-there layout lines i there laid is =
    let noted : Placement → Option Fault = λ (q : Placement). fault_noted q.status in
    ap (option_and_then noted) (sym is) ∙ joined noted (slice_get layout.placements.items i) ∙ ap (option_and_then (λ f. f)) (sym (slice_get-map noted layout.placements.items i) ∙ ap (λ fs. slice_get fs i) (faults-kept layout lines laid)
    ∙ slice_get-map (fault_of (placed lines)) (reverse (placed lines)) i) ∙ sym (joined (fault_of (placed lines)) (slice_get (reverse (placed lines)) i))
  where
    joined : {X : Type 0} (f : X → Option Fault) (o : Option X) → option_and_then f o ≡ option_and_then (λ g. g) (option_map f o)
    joined f None = refl
    joined f (Some x) = refl

-- the number of faults

count-numbered : (all xs : List Placed) (qs : List Placement) → map (λ (q : Placement). fault_noted q.status) qs ≡ map (fault_of all) xs → sum_by count_of qs ≡ length (filter_map (numbered_fault all) xs)
count-numbered all [] [] e = refl
count-numbered all [] (q ∷ qs) e = cc
count-numbered all (x ∷ xs) [] e = cc
count-numbered all (x ∷ xs) (q ∷ qs) e =
    let head : fault_noted q.status ≡ fault_of all x = cc in
    let tail : map (λ (q : Placement). fault_noted q.status) qs ≡ map (fault_of all) xs = cc in
    sum_by-cons count_of q qs ∙ ap (λ f. cond (is_none f) 0 1 + sum_by count_of qs) head ∙ ap (λ n. cond (is_none (fault_of all x)) 0 1 + n) (count-numbered all xs qs tail)
    ∙ step (fault_of all x) x.number (filter_map (numbered_fault all) xs)
  where
    step : (f : Option Fault) (n : ℕ) (l : List (ℕ × Fault)) → cond (is_none f) 0 1 + length l ≡ length (cons_option {X = ℕ × Fault} (option_map (λ g. (n, g)) f) l)
    step None n l = omega arith
    step (Some g) n l = omega arith

pub faults-counted : (layout : Layout) (lines : List Reading) → IsLayoutOf layout lines → layout.faults ≡ length (faults_of_lines lines)
faults-counted layout lines laid = laid.counted ∙ count-numbered (placed lines) (reverse (placed lines)) layout.placements.items (faults-kept layout lines laid)

-- the faults of the lines so far
abbrev pub faults_to : List Reading → ℕ → List (ℕ × Fault)
faults_to lines n = filter_map (numbered_fault (placed lines)) (take n (reverse (placed lines)))

-- one more line
pub next-fault : (layout : Layout) (lines : List Reading) (i : ℕ) (q : Placement) (f : Option Fault) → IsLayoutOf layout lines → slice_get layout.placements.items i ≡ Some q → fault_noted q.status ≡ f
    → faults_to lines (i + 1) ≡ faults_to lines i ++ cons_option (option_map {U = ℕ × Fault} (λ g. (i + 1, g)) f) []
next-fault layout lines i q f laid noted is =
    let all : List Placed = reverse (placed lines) in
    let d : Placed = place [] (bad UnclosedIf) in
    let inside : i < length all = omega (arith, slice_get_within layout.placements.items i q noted, length-laid layout lines laid, length-numbered lines) in
    let there : slice_get all i ≡ Some (get_or all i d) = slice_get-get_or all i d inside in
    ap (filter_map (numbered_fault (placed lines))) (take_more all i d inside) ∙ filter_map-append (numbered_fault (placed lines)) (take i all) (get_or all i d ∷ [])
    ∙ ap (λ (n : ℕ). faults_to lines i ++ cons_option (option_map {U = ℕ × Fault} (λ g. (n, g)) (fault_of (placed lines) (get_or all i d))) []) (number-at lines i (get_or all i d) there)
    ∙ ap (λ (o : Option Fault). faults_to lines i ++ cons_option (option_map {U = ℕ × Fault} (λ g. (i + 1, g)) o) []) (sym (fault-kept layout lines i (get_or all i d) q laid there noted) ∙ is)

pub faults-all : (lines : List Reading) (n : ℕ) → length lines ≤ n → faults_to lines n ≡ faults_of_lines lines
faults-all lines n h = ap (filter_map (numbered_fault (placed lines))) (take_all n (reverse (placed lines)) (omega (arith, length-numbered lines)))

-- the stored bytes of a line are its own
pub bytes-found : (image : List ℕ) (lines : List Reading) (i : ℕ) (q : Found) (a : AtPlace lines i q) → IsImageOf image lines → (k : ℕ) → k < q.size
    → get_or image (q.here - IMAGE_START + k) 0 ≡ get_or (bytes_in_code (code_under (placed lines) a.x)) k 0
bytes-found image lines i q a m k h =
    let at : IMAGE_START + (q.here - IMAGE_START + k) ≡ q.here + k = omega (arith, low lines i q a) in
    let own : q.here + k - q.here ≡ k = omega arith in
    m.imaged (q.here - IMAGE_START + k) (omega (arith, high lines i q a)) ∙ ap (byte_at (placed lines)) at ∙ byte-line lines i q a (q.here + k) (covering q.here q.size (q.here + k) (omega arith) (omega arith))
    ∙ ap (λ n. get_or (bytes_in_code (code_under (placed lines) a.x)) n 0) own

-- The facts reported about each line, given the stored parts.

zip-at : {X Y : Type 0} (xs : List X) (ys : List Y) (i : ℕ) (x : X) (y : Y) → slice_get xs i ≡ Some x → slice_get ys i ≡ Some y → slice_get (zip xs ys) i ≡ Some (x, y)
zip-at [] ys i x y a b = cc
zip-at (p ∷ xs) [] i x y a b = cc
zip-at (p ∷ xs) (t ∷ ys) zero x y a b = rw (same_Some p x a, same_Some t y b) refl
zip-at (p ∷ xs) (t ∷ ys) (suc i) x y a b = zip-at xs ys i x y a b

-- the bytes of a line in the image are its own, and zeros past them
bytes-of : (lines : List Reading) (i : ℕ) (q : Placement) (a : AtPlace lines i (found q)) (bytes : List ℕ) → length bytes ≡ q.size
    → ((k : ℕ) → k < q.size → get_or bytes k 0 ≡ get_or (bytes_in_code (code_under (placed lines) a.x)) k 0) → bytes ≡ with_zeros a.x.size (bytes_in_code (code_under (placed lines) a.x))
bytes-of lines i q a bytes long each =
    let own : List ℕ = bytes_in_code (code_under (placed lines) a.x) in
    let size : q.size ≡ a.x.size = ap (λ (p : Found). p.size) a.placement in
    let read : ℕ → ℕ = λ k. get_or own k 0 in
    ext_get_or 0 bytes (with_zeros a.x.size own) (long ∙ size ∙ sym (length-map-range_with_len read 0 a.x.size))
    (λ k h. each k (omega (arith, h, long)) ∙ sym (get_or-map-range_with_len read 0 a.x.size k k 0 (omega (arith, h, long, size)) (omega arith)))

abbrev told : ℕ → List ℕ → Bool → ℕ → ℤ → Option Fault → List ℕ → LineFacts
told number text active address value fault bytes = record { number = number; text = text; active = active; address = address; value = value; fault = fault; bytes = bytes }

pub facts-kept : (kept : Kept) (i : ℕ) (line : KeptLine) (q : Placement) (bytes : List ℕ) → IsKept kept → slice_get kept.lines.items i ≡ Some line → slice_get kept.layout.placements.items i ≡ Some q → length bytes ≡ q.size
    → ((k : ℕ) → k < q.size → get_or bytes k 0 ≡ get_or kept.image.items (q.here - IMAGE_START + k) 0)
    → slice_get (facts_of_lines (placed (readings_in kept.lines.items)) (texts_in kept.lines.items)) i ≡ Some (facts_in (i + 1) line.text q bytes)
facts-kept kept i line q bytes k there noted long each =
    slice_get-map (λ e. facts_of all e.0 e.1) (zip (reverse all) texts) i
    ∙ ap (option_map (λ e. facts_of all e.0 e.1)) (zip-at (reverse all) texts i a.x line.text a.at text_at)
    ∙ ap Some (sym same)
  where
    lines : List Reading
    lines = readings_in kept.lines.items

    texts : List (List ℕ)
    texts = texts_in kept.lines.items

    all : List Placed
    all = placed lines

    a : AtPlace lines i (found q)
    a = at-place lines kept.layout k.laid_out i q noted

    text_at : slice_get texts i ≡ Some line.text
    text_at = slice_get-map (λ (l : KeptLine). l.text) kept.lines.items i ∙ ap (option_map (λ (l : KeptLine). l.text)) there

    same : facts_in (i + 1) line.text q bytes ≡ facts_of all a.x line.text
    same =
        ap (λ (p : Found). told (i + 1) line.text p.active p.here p.value (fault_noted q.status) bytes) a.placement
        ∙ ap (λ n. told n line.text a.x.active a.x.here a.x.value (fault_noted q.status) bytes) (sym (number-at lines i a.x a.at))
        ∙ ap (λ f. told a.x.number line.text a.x.active a.x.here a.x.value f bytes) (fault-kept kept.layout lines i a.x q k.laid_out a.at noted)
        ∙ ap (told a.x.number line.text a.x.active a.x.here a.x.value (fault_of all a.x))
        (bytes-of lines i q a bytes long (λ n h. each n h ∙ bytes-found kept.image.items lines i (found q) a k.image n h))

-- the facts reported about the texts are the facts determined by the stored parts
pub facts-view : (kept : Kept) (texts : List (List ℕ)) → IsKept kept → texts_in kept.lines.items ≡ texts → line_facts texts ≡ facts_of_lines (placed (readings_in kept.lines.items)) (texts_in kept.lines.items)
unfolding line_facts
facts-view kept texts k t = sym (ap (λ rs. facts_of_lines (placed rs) (texts_in kept.lines.items)) k.are_read ∙ ap (λ ts. facts_of_lines (placed (map reading_of ts)) ts) t)

-- a source reports facts about each line
pub length-facts : (texts : List (List ℕ)) → length (line_facts texts) ≡ length texts
unfolding line_facts
length-facts texts =
    let lines : List Reading = map reading_of texts in
    length-map (zip (reverse (placed lines)) texts) (λ e. facts_of (placed lines) e.0 e.1)
    ∙ length-zip (reverse (placed lines)) texts
    ∙ ap (λ n. min n (length texts)) (length-numbered lines ∙ length-map texts reading_of)
    ∙ min-eq_left (omega arith)

-- the reading of a stored line is the reading of its text
pub read-kept : (kept : Kept) (i : ℕ) (line : KeptLine) → IsKept kept → slice_get kept.lines.items i ≡ Some line → reading_in line ≡ reading_of line.text
read-kept kept i line k there =
    same_Some (reading_in line) (reading_of line.text)
    (sym (slice_get-map reading_in kept.lines.items i ∙ ap (option_map reading_in) there)
    ∙ ap (λ rs. slice_get rs i) k.are_read
    ∙ slice_get-map reading_of (texts_in kept.lines.items) i
    ∙ ap (option_map reading_of) (slice_get-map (λ (l : KeptLine). l.text) kept.lines.items i ∙ ap (option_map (λ (l : KeptLine). l.text)) there))

pub facts-at : (kept : Kept) (texts : List (List ℕ)) (number : ℕ) (line : KeptLine) (q : Placement) (bytes : List ℕ) → IsKept kept → texts_in kept.lines.items ≡ texts → (number ≡ 0 → ⊥)
    → slice_get kept.lines.items (number - 1) ≡ Some line → slice_get kept.layout.placements.items (number - 1) ≡ Some q → length bytes ≡ q.size
    → ((k : ℕ) → k < q.size → get_or bytes k 0 ≡ get_or kept.image.items (q.here - IMAGE_START + k) 0) → line_at texts number ≡ Some (facts_in number line.text q bytes)
facts-at kept texts number line q bytes k t not_zero there noted long each =
    let other : nat_eq number 0 ≡ false = ne_eqb number 0 not_zero in
    let again : number - 1 + 1 ≡ number = omega (arith, not_zero) in
    rw other
    (ap (λ fs. slice_get fs (number - 1)) (facts-view kept texts k t) ∙ facts-kept kept (number - 1) line q bytes k there noted long each ∙ ap (λ n. Some (facts_in n line.text q bytes)) again)

-- a source reports no facts about a line with another number
pub none-at : (texts : List (List ℕ)) (number : ℕ) → (number ≡ 0 → ⊥) → length texts ≤ number - 1 → line_at texts number ≡ None
none-at texts number not_zero past =
    let other : nat_eq number 0 ≡ false = ne_eqb number 0 not_zero in
    rw other (slice_get_past (line_facts texts) (number - 1) (omega (arith, past, length-facts texts)))

pub text-kept : (kept : Kept) (texts : List (List ℕ)) (i : ℕ) (line : KeptLine) → texts_in kept.lines.items ≡ texts → slice_get kept.lines.items i ≡ Some line → slice_get texts i ≡ Some line.text
text-kept kept texts i line t there =
    ap (λ ts. slice_get ts i) (sym t) ∙ slice_get-map (λ (l : KeptLine). l.text) kept.lines.items i ∙ ap (option_map (λ (l : KeptLine). l.text)) there

pub line-at-place : (texts : List (List ℕ)) (i : ℕ) → line_at texts (i + 1) ≡ slice_get (line_facts texts) i
line-at-place texts i =
    let other : nat_eq (i + 1) 0 ≡ false = ne_eqb (i + 1) 0 (omega arith) in
    let same : i + 1 - 1 ≡ i = omega arith in
    rw (other, same) refl

-- The places at which the image stays the same when a line is replaced by one with the same effect.

-- the stored image
abbrev pub kept-image : Kept → List ℕ
kept-image kept = take (kept.layout.end - IMAGE_START) kept.image.items

-- the stored image is the image of the lines if no line has a fault
pub image-kept : (kept : Kept) → IsKept kept → kept.layout.faults ≡ 0 → image_of (texts_kept kept) ≡ Some (kept-image kept)
unfolding image_of
image-kept kept k none =
    sym (image-made (lines_kept kept) kept.image.items (kept.layout.end - IMAGE_START) (omega (arith, image-room kept k, kept.image.ok.0)) (ap (λ n. n - IMAGE_START) k.laid_out.end_address)
    (sym none ∙ faults-counted kept.layout (lines_kept kept) k.laid_out) k.image.imaged ∙ ap image_of_lines k.are_read)

-- if a line has a fault, there is no image
image-after : (kept : Kept) → IsKept kept → (image : List ℕ) → image_of (texts_kept kept) ≡ Some image → image ≡ kept-image kept
unfolding image_of
image-after kept k image there =
    same_Some image (kept-image kept) (sym there ∙ image-kept kept k (faults-counted kept.layout (lines_kept kept) k.laid_out ∙ none (faults_of_lines (lines_kept kept)) (ap image_of_lines k.are_read ∙ there)))
  where
    none : (faults : List (ℕ × Fault)) → unless_faulty faults (bytes_of_lines (placed (lines_kept kept))) ≡ Some image → length faults ≡ 0
    none [] e = refl
    none (f ∷ fs) e = absurd (none-some image e)

module _ (old new : Kept) (q : Placement) (bytes : List ℕ) (was : IsKept old) (now : IsKept new) (ends : new.layout.end ≡ old.layout.end) (low : IMAGE_START ≤ q.here)
    (written : IsWritten q bytes old.image.items new.image.items) where
  IsOutside : ℕ → Type 0
  IsOutside k = (k < q.here - IMAGE_START) ⊎ (q.here - IMAGE_START + q.size ≤ k)

  -- no other bytes are written
  same : (k : ℕ) → IsOutside k → get_or old.image.items k 0 ≡ get_or new.image.items k 0
  unfolding IsOutside
  same k outside =
      sym (written k ∙ ap (λ b. cond b (get_or bytes (IMAGE_START + k - q.here) 0) (get_or old.image.items k 0)) apart)
    where
      apart : covers_byte q k ≡ false
      apart = false_from_ne_true (covers_byte q k) (λ byte.
          let parts = covered q.here q.size k true byte low in
          elim outside [ inl front ↦ omega (arith, parts.0) | inr behind ↦ omega (arith, parts.1) ])

  same-image : (k : ℕ) → IsOutside k → get_or (kept-image old) k 0 ≡ get_or (kept-image new) k 0
  same-image k outside =
      by (cases_lt k size) ∙ ap (λ end. get_or (take (end - IMAGE_START) new.image.items) k 0) (sym ends)
    where
      size : ℕ
      size = old.layout.end - IMAGE_START

      by : (k < size) ⊎ (size ≤ k) → get_or (take size old.image.items) k 0 ≡ get_or (take size new.image.items) k 0
      by (inl inside) = get_or-take size old.image.items k 0 inside ∙ same k outside ∙ sym (get_or-take size new.image.items k 0 inside)
      by (inr past) =
          get_or_past (take size old.image.items) k 0 (omega (arith, length-take size old.image.items))
          ∙ sym (get_or_past (take size new.image.items) k 0 (omega (arith, length-take size new.image.items)))

  -- if there was an image, the new image agrees with it outside the places that were written
  pub agrees-outside : old.layout.faults ≡ 0 → AgreesOutside (q.here - IMAGE_START) (q.here - IMAGE_START + q.size) (image_of (texts_kept old)) (image_of (texts_kept new))
  unfolding IsOutside
  agrees-outside none = rw (image-kept old was none) (by (image_of (texts_kept new)) refl)
    where
      by : (after : Option (List ℕ)) → image_of (texts_kept new) ≡ after → AgreesOutside (q.here - IMAGE_START) (q.here - IMAGE_START + q.size) (Some (kept-image old)) after
      by None e = tt
      by (Some image) e = λ k outside. same-image k outside ∙ ap (λ l. get_or l k 0) (sym (image-after new now image e))
