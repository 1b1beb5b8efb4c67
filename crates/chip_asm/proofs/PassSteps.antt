-- Both passes over the lines after an edit, line by line.
use Rattle.std.proofs.Common.{◌≡◌, ℕ, ℤ, ◌+◌, ◌-◌, ◌<◌, ◌≤◌, ◌⊎◌, inl, inr, true, false, List, [], ◌∷◌, ◌++◌, length, take, drop, get_or, slice_get, set, refl, ap, sym, subst, ◌∙◌, arith, below_more, Some, Ok, Bool, ◌&&◌, reverse, is_none, Result, pos, length-append, Option, None, cond, not, ◌||◌, map, option_map, vec_capacity, sum_by}
use Rattle.std.specs.Prelude.{min}
use Rattle.std.proofs.lemmas.List.{get_or-drop, get_or-take, length-drop, length-map, length-set, length-take-le, get_or_past, take-take, take_all}
use Rattle.std.proofs.lemmas.Option.{same_Some, slice_get-get_or, get_or_from_slice_get, slice_get_within, slice_get-map}
use Rattle.chip_lang.specs.Line.{Body, Reading}
use Rattle.chip_lang.specs.Uses.{agree_on}
use Rattle.chip_lang.specs.declared.limits.TheConstants.{IMAGE_START, MEMORY_BYTES, IMAGE_BYTES}
use Rattle.chip_asm.specs.declared.layout.Tally.{Tally}
use Rattle.chip_asm.specs.declared.pass.Pass.{Pass}
use Rattle.chip_asm.specs.declared.placement.Placement.{Placement}
use Rattle.chip_asm.specs.Layout.{Placed, body_of, full_size, is_padded, own_size, value_at, value_or_zero, has_ended}
use Rattle.chip_symbols.specs.Names.{values_of, Name, is_redefinition}
use Rattle.chip_asm.specs.computed.Walk.{place, placed, symbols, address, enclosing, is_aligning}
use Rattle.chip_asm.specs.inner.Codes.{IsCopied, copied_bytes, IsImageOf, IsWritten, code_kept, is_coded, kept_bytes, kept_fault, right_byte}
use Rattle.chip_asm.specs.inner.Placements.{Follows, placement_of, HasPassed, AreCodesNoted, final_placement, placements_of, Found, found, is_accepted, bare_status, refusal, status_coded, is_accepted_found, nothing, is_pending, count_of}
use Rattle.chip_asm.specs.inner.Infos.{IsInfo, has_code, IsPlain, is_plain_line}
use Rattle.chip_asm.specs.inner.KeptLine.{KeptLine}
use Rattle.chip_asm.specs.inner.Passes.{Change, HasRoom, IsHeld, IsSlot, IsTally, IsUnderWay, is_byte_of, placed_at, AreGapsZero, HasCode, IsCarried, IsChange, code_before, AreCoded, AreSettled, IsDone, IsEncodedUnder, IsHalfDone, again_up_to, stood, is_encoded_again}
use Rattle.chip_asm.specs.inner.Records.{reading_in, readings_in}
use Rattle.chip_symbols.specs.Tables.{KeepsBefore, Tables, name_of, symbols_of}
use Rattle.chip_asm.proofs.QuietLines.{info-here, found-plain, passed-plain, plain-line}
use Rattle.chip_asm.proofs.Resumed.{IsWithinMemory, next-placed, end-high, Resumes, resumes, none_from, steady-readings}
use Rattle.chip_asm.proofs.LinesApart.{covered-parts, covering}
use Rattle.chip_asm.proofs.LinesByPlace.{around, covered, inserted, no-code, same-bytes, one-more, take-next, set-here, set-other, is-marked, marked-placements, AtPlace, apart, at-line, at-place-of, bytes-fit, high, low, accepted-at, accepted-effect, byte-line, byte-outside, covers-accepted, ends-before, count-numbered, count_by-take, size-there}
use Rattle.chip_asm.proofs.KeptValues.{KeepsValue, SameValue, value-kept}
use Rattle.chip_asm.proofs.LinesAfter.{line-at, read-at}
use Rattle.chip_asm.proofs.Placing.{line-at as placed-line, length-numbered, parts}
use Rattle.std.proofs.lemmas.Bool.{and_parts, cases_lt, false≢true, and_cases, and_left, and_right, cases_eq, false_from_ne_true, not-false, or_parts}
use Rattle.chip_lang.specs.declared.fault.Fault.{Fault}
use Rattle.chip_asm.specs.declared.placement.Status.{Status}
use Rattle.chip_asm.specs.Program.{bytes_in_code, fault_in_code, names_of_lines, code_under, code_with, is_unclosed}
use Rattle.chip_symbols.specs.declared.table.NameId.{NameId}
use Rattle.chip_symbols.specs.declared.table.Symbol.{Symbol}
use Rattle.std.specs.List.{enumerate_from}
use Rattle.std.specs.Option.{option_map_or}
use Rattle.chip_lang.specs.declared.fault.Fault.TheVariants.{UnclosedIf}
use Rattle.chip_lang.specs.Code.{code_of, own_bytes}
use Rattle.chip_lang.specs.Value.{Symbols}
use Rattle.chip_asm.specs.declared.placement.Status.TheVariants.{Done, Pending, Refused, Skipped, Uncoded}
use Rattle.chip_asm.specs.Work.{is_accepted_at, is_accepted_in, needs}
use Rattle.chip_asm.specs.inner.Blocks.{AreMarked, unclosed}
use Rattle.chip_asm.proofs.Views.{count-step}
use Rattle.chip_asm.specs.declared.kept.Kept.{Kept}
use Rattle.chip_asm.specs.inner.Kept.{IsExchanged}

-- One more line of the first pass: the facts about its code are shown, and the facts about other lines stay true.

-- the line at a place, with its facts
pub next-at : (lines : List Reading) (n : ℕ) (line : Reading) → slice_get lines n ≡ Some line → slice_get (reverse (placed lines)) n ≡ Some (place (placed (take n lines)) line)
next-at lines n line at =
    let inside : n < length lines = slice_get_within lines n line at in
    slice_get-get_or (reverse (placed lines)) n (place [] line) (omega (arith, length-numbered lines))
    ∙ ap Some (next-placed lines n line (place [] line) inside (get_or_from_slice_get lines n line line at))

pub within-at : (lines : List Reading) (n : ℕ) (x : Placed) → slice_get (reverse (placed lines)) n ≡ Some x → IsWithinMemory x
within-at lines n x at = (at-line lines n x at).within

-- bytes

-- the image has zeros where the next line has its bytes, because no earlier line has a byte there
pub zeros-next : (e : Change) (n : ℕ) (x : Placed) (image : List ℕ) → AreGapsZero e n image → placed_at e n ≡ Some x → (k : ℕ) → is_byte_of x.here x.size k ≡ true → get_or image k 0 ≡ 0
zeros-next e n x image gaps at k c =
    gaps k (omega (arith, (covered-parts x.here x.size (IMAGE_START + k) c).1, (within-at e.now n x at).1)) (λ j y h there. apart e.now n j x y (λ same. omega arith) at there (IMAGE_START + k) c)

-- the facts about a line stay true if its bytes stay

abbrev pub StaysOn : (here size : ℕ) (old new : List ℕ) → Type 0
StaysOn here size old new = (k : ℕ) → is_byte_of here size k ≡ true → get_or new k 0 ≡ get_or old k 0

pub code-stays : (made : Result (List ℕ) Fault) (here size : ℕ) (status : Status) (old new : List ℕ) → StaysOn here size old new → HasCode made here size status old → HasCode made here size status new
code-stays made here size status old new stays h = record { bytes = λ k b. stays k b ∙ h.bytes k b; noted = h.noted }

pub carried-stays : (e : Change) (j : ℕ) (x : Placed) (status : Status) (old new : List ℕ) → StaysOn x.here x.size old new → IsCarried e j x status old → IsCarried e j x status new
carried-stays e j x status old new stays (inl w) = inl (record { pending = w.pending; coded = w.coded; new = w.new; zeros = λ k b. stays k b ∙ w.zeros k b })
carried-stays e j x status old new stays (inr h) = inr (code-stays (code_before e x.line) x.here x.size status old new stays h)

pub held-stays : (e : Change) (j : ℕ) (x : Placed) (q : Placement) (old new : List ℕ) → IsHeld e j x q old → StaysOn x.here x.size old new → IsHeld e j x q new
held-stays e j x q old new h same = λ taken. carried-stays e j x q.status old new same (h taken)

-- the line at a place

-- the line existed before the edit and was accepted then
pub record Stood (e : Change) (n : ℕ) (line : Reading) (q : Placement) : Type 0 where
  pub before : ℕ
  pub at : AtPlace e.was before (found q)
  pub line_is : at.x.line ≡ line

pub stood-there : (e : Change) (from : List ℕ) (n : ℕ) (line : Reading) (q : Placement) → IsChange e → slice_get e.now n ≡ Some line → IsSlot e from n line q → is_accepted q.status ≡ true → Stood e n line q
stood-there e from n line q same there slot taken =
    let was = slot.was taken in
    let a : AtPlace e.was was.0 (found q) = at-place-of e.was was.0 (found q) was.2 in
    record { before = was.0; at = a; line_is = same_Some a.x.line line (sym a.line ∙ same n was.0 was.1 (slice_get_within e.now n line there) ∙ there) }

-- the code of the line is copied, as far as there is room for it
pub carried-held : (e : Change) (from new : List ℕ) (n : ℕ) (x : Placed) (line : Reading) (q : Placement) → IsSlot e from n line q → is_accepted q.status ≡ true → Stood e n line q → x.line ≡ line → IsWithinMemory x
    → ((i : ℕ) → i < x.size → i < q.size → get_or new (x.here - IMAGE_START + i) 0 ≡ get_or from (q.here - IMAGE_START + i) 0)
    → ((i : ℕ) → i < x.size → q.size ≤ i → get_or new (x.here - IMAGE_START + i) 0 ≡ 0) → IsCarried e n x q.status new
carried-held e from new n x line q slot taken s same within copied rest = inr (rw same (record { bytes = λ k b. at-byte k (covered-parts x.here x.size (IMAGE_START + k) b); noted = code.noted }))
  where
    code : HasCode (code_before e line) q.here q.size q.status from
    code = slot.code taken

    bytes : List ℕ
    bytes = bytes_in_code (code_before e line)

    byte : (i : ℕ) → i < x.size → (i < q.size) ⊎ (q.size ≤ i) → get_or new (x.here - IMAGE_START + i) 0 ≡ get_or bytes i 0
    byte i inside (inl less) =
        let at : IMAGE_START + (q.here - IMAGE_START + i) ≡ q.here + i = omega (arith, low e.was s.before (found q) s.at) in
        let index : q.here + i - q.here ≡ i = omega arith in
        copied i inside less ∙ code.bytes (q.here - IMAGE_START + i) (rw at (covering q.here q.size (q.here + i) (omega arith) (omega arith))) ∙ ap (λ n. get_or bytes (n - q.here) 0) at ∙ ap (λ n. get_or bytes n 0) index
    byte i inside (inr past) =
        let fits : length bytes ≤ q.size = subst (λ (l : Reading). length (bytes_in_code (code_before e l)) ≤ q.size) s.line_is (bytes-fit e.was s.before (found q) s.at taken) in
        rest i inside past ∙ sym (get_or_past bytes i 0 (omega arith))

    at-byte : (k : ℕ) → (x.here ≤ IMAGE_START + k) × (IMAGE_START + k < x.here + x.size) → get_or new k 0 ≡ get_or bytes (IMAGE_START + k - x.here) 0
    at-byte k p =
        let there : k ≡ x.here - IMAGE_START + (IMAGE_START + k - x.here) = omega arith in
        ap (λ n. get_or new n 0) there ∙ byte (IMAGE_START + k - x.here) (omega arith) (cases_lt (IMAGE_START + k - x.here) q.size)

-- the line is accepted, and was not accepted before
pub fresh-held : (e : Change) (from new : List ℕ) (n : ℕ) (x : Placed) (line : Reading) (q : Placement) (coded : Bool) → IsSlot e from n line q → is_accepted q.status ≡ false
    → ((k : ℕ) → is_byte_of x.here x.size k ≡ true → get_or new k 0 ≡ 0) → coded ≡ has_code (body_of x.line) → IsCarried e n x (bare_status true coded) new
fresh-held e from new n x line q true slot refused zeros coded = inl (record { pending = refl; coded = sym coded; new = sym slot.accepted ∙ refused; zeros = zeros })
fresh-held e from new n x line q false slot refused zeros bare =
    let none : code_before e x.line ≡ Ok [] = no-code (body_of x.line) (values_of (names_of_lines e.was)) (sym bare) in
    inr (record {
      bytes = λ k b. zeros k b ∙ ap (λ r. get_or (bytes_in_code r) (IMAGE_START + k - x.here) 0) (sym none);
      noted = ap (λ r. status_coded (fault_in_code r)) (sym none);
    })

pub bare-accepted : (coded : Bool) → is_accepted (bare_status true coded) ≡ true
bare-accepted true = refl
bare-accepted false = refl

-- The facts about the line that the first pass has reached, and the facts after the pass has passed it.

-- the facts about the line
pub record Facing (e : Change) (pass : Pass) (was : List Placement) (from : List ℕ) (place : ℕ) (kept : KeptLine) (x : Placed) : Type 0 where
  pub line : slice_get e.now place ≡ Some (reading_in kept)
  pub info : IsInfo pass.names.keys kept.info kept.several (reading_in kept)
  pub at : placed_at e place ≡ Some x
  pub line_is : x.line ≡ reading_in kept
  pub within : IsWithinMemory x
  pub inside : place < length e.now
  pub inside_was : place < length was
  pub slot : (d : Placement) → IsSlot e from place (reading_in kept) (get_or was place d)

pub facing : (e : Change) (lines : List KeptLine) (pass : Pass) (was : List Placement) (w : Tally) (from image : List ℕ) (n : ℕ) (kept : KeptLine) → IsUnderWay e lines pass was w from image n → n < length lines
    → kept ≡ get_or lines n kept → Facing e pass was from n kept (place (placed (take n e.now)) (reading_in kept))
facing e lines pass was w from image n kept u inside is = record {
  line = line;
  info = info-here pass.names.keys lines n kept u.infos inside is;
  at = at;
  line_is = placed-line (placed (take n e.now)) (reading_in kept);
  within = within-at e.now n (place (placed (take n e.now)) (reading_in kept)) at;
  inside = omega (arith, inside, ap length u.now, length-map lines reading_in);
  inside_was = omega (arith, inside, u.placed_many);
  slot = λ d. u.slots n (reading_in kept) (get_or was n d) (omega arith) line (slice_get-get_or was n d (omega (arith, inside, u.placed_many)));
}
  where
    line : slice_get e.now n ≡ Some (reading_in kept)
    line = ap (λ ls. slice_get ls n) u.now ∙ line-at lines n kept (slice_get-get_or lines n kept inside ∙ ap Some (sym is))

    at : placed_at e n ≡ Some (place (placed (take n e.now)) (reading_in kept))
    at = next-at e.now n (reading_in kept) line

-- the value that the line had, if its names keep their values
pub value-faced : KeepsValue → SameValue → (e : Change) (lines : List KeptLine) (pass : Pass) (was : List Placement) (w : Tally) (from image : List ℕ) (n : ℕ) (kept : KeptLine) (x : Placed) (d : Placement)
    → IsUnderWay e lines pass was w from image n → Facing e pass was from n kept x → is_accepted (get_or was n d).status ≡ true
    → agree_on pass.names.before (values_of pass.names.symbols) (reading_in kept) ≡ true → value_at pass.names.symbols (body_of (reading_in kept)) ≡ Ok (get_or was n d).value
value-faced keeps same e lines pass was w from image n kept x d u f taken agree =
    let stood = (f.slot d).was taken in
    value-kept keeps same e.was stood.0 (reading_in kept) (found (get_or was n d)) pass.names.symbols (u.change n stood.0 stood.1 f.inside ∙ f.line) stood.2 taken
    (ap (λ s. agree_on s (values_of pass.names.symbols) (reading_in kept)) (sym u.before) ∙ agree)

-- there is room for the line's old code, both at its old place and at its new place
pub record HasCopyRoom (was now : Placement) (from old : List ℕ) : Type 0 where
  pub was_low : IMAGE_START ≤ was.here
  pub was_high : was.here + was.size ≤ length from + IMAGE_START
  pub low : IMAGE_START ≤ now.here
  pub high : now.here + now.size ≤ length old + IMAGE_START

pub copy-room : (e : Change) (lines : List KeptLine) (pass : Pass) (was : List Placement) (w : Tally) (from old : List ℕ) (n : ℕ) (kept : KeptLine) (x : Placed) (now d : Placement) → IsUnderWay e lines pass was w from old n → Facing e pass was from n kept x
    → is_accepted (get_or was n d).status ≡ true → found now ≡ placement_of x → HasCopyRoom (get_or was n d) now from old
copy-room e lines pass was w from old n kept x now d u f taken is =
    let s = stood-there e from n (reading_in kept) (get_or was n d) u.change f.line (f.slot d) taken in
    record {
      was_low = low e.was s.before _ s.at;
      was_high = omega (arith, high e.was s.before _ s.at, u.from_long);
      low = omega (arith, f.within.0, ap (λ (r : Found). r.here) is);
      high = omega (arith, f.within.1, u.image_long, ap (λ (r : Found). r.here + r.size) is);
    }

-- an image into which a code is copied
pub record Copied (was : Placement) (now : Found) (from old new : List ℕ) : Type 0 where
  pub off : (k : ℕ) → is_byte_of now.here now.size k ≡ false → get_or new k 0 ≡ get_or old k 0
  pub in_both : (i : ℕ) → i < now.size → i < was.size → get_or new (now.here - IMAGE_START + i) 0 ≡ get_or from (was.here - IMAGE_START + i) 0
  pub beyond : (i : ℕ) → i < now.size → was.size ≤ i → get_or new (now.here - IMAGE_START + i) 0 ≡ get_or old (now.here - IMAGE_START + i) 0

pub copied : (was now : Placement) (from old new : List ℕ) → IsCopied was now from old new → HasCopyRoom was now from old → Copied was (found now) from old new
copied was now from old new is r = record {
  off = λ k out. ap (λ l. get_or l k 0) is ∙ around old part 0 at k room (apart_from k (covered now.here now.size k false out r.low));
  in_both = λ i less both.
      (let index : at + i - at ≡ i = omega arith in
      ap (λ l. get_or l (at + i) 0) is ∙ inserted old part 0 at (at + i) room (omega arith) (omega (arith, part_long, less, both))
      ∙ ap (λ n. get_or part n 0) index ∙ get_or-take count (drop (was.here - IMAGE_START) from) i 0 (omega (arith, less, both)) ∙ get_or-drop (was.here - IMAGE_START) from i 0);
  beyond = λ i less past. ap (λ l. get_or l (at + i) 0) is ∙ around old part 0 at (at + i) room (inr (omega (arith, part_long, past)));
}
  where
    at : ℕ
    at = now.here - IMAGE_START

    count : ℕ
    count = min was.size now.size

    part : List ℕ
    part = copied_bytes was now from

    part_long : length part ≡ count
    part_long = length-take-le count (drop (was.here - IMAGE_START) from) (omega (arith, length-drop (was.here - IMAGE_START) from, r.was_low, r.was_high))

    room : at + length part ≤ length old
    room = omega (arith, part_long, r.low, r.high)

    apart_from : (k : ℕ) → (k < now.here - IMAGE_START) ⊎ (now.here - IMAGE_START + now.size ≤ k) → (k < at) ⊎ (at + length part ≤ k)
    apart_from k (inl before) = inl before
    apart_from k (inr behind) = inr (omega (arith, part_long, behind))

-- one more line

-- the pass advances by a line
pub record StepsOn (pass next : Pass) (n : ℕ) (line : Reading) : Type 0 where
  pub keeps : KeepsBefore pass.names next.names
  pub passed : (before : List Reading) → Follows pass (placed before) → n ≡ length before → Follows next (placed (before ++ line ∷ []))
  pub room : (left : ℕ) → HasRoom pass (left + 1) → HasRoom next left

-- the placement of this line is recorded, and no other placement changes
pub record Noted (old new : List Placement) (n : ℕ) (q : Placement) : Type 0 where
  pub long : length new ≡ length old
  pub others : (j : ℕ) → (j ≡ n → ⊥) → slice_get new j ≡ slice_get old j
  pub here : slice_get new n ≡ Some q

pub noted-set : (old new : List Placement) (n : ℕ) (q : Placement) → new ≡ set old n q → n < length old → Noted old new n q
noted-set old new n q is inside = record {
  long = ap length is ∙ length-set old n q;
  others = λ j other. ap (λ l. slice_get l j) is ∙ set-other old n j q other;
  here = ap (λ l. slice_get l n) is ∙ set-here old n q inside;
}

pub noted-same : (placements : List Placement) (n : ℕ) (q : Placement) → slice_get placements n ≡ Some q → Noted placements placements n q
noted-same placements n q there = record { long = refl; others = λ j other. refl; here = there }

pub passed-on : (e : Change) (lines : List KeptLine) (pass next : Pass) (was now : List Placement) (w tally : Tally) (from old new : List ℕ) (n : ℕ) (kept : KeptLine) (q : Placement)
    → IsUnderWay e lines pass was w from old n → n < length lines → Facing e pass was from n kept (place (placed (take n e.now)) (reading_in kept)) → StepsOn pass next n (reading_in kept)
    → now ≡ set was n q → found q ≡ placement_of (place (placed (take n e.now)) (reading_in kept)) → IsTally now tally → length new ≡ length old
    → ((k : ℕ) → is_byte_of (place (placed (take n e.now)) (reading_in kept)).here (place (placed (take n e.now)) (reading_in kept)).size k ≡ false → get_or new k 0 ≡ get_or old k 0)
    → IsHeld e n (place (placed (take n e.now)) (reading_in kept)) q new → IsUnderWay e lines next now tally from new (n + 1)
passed-on e lines pass next was now w tally from old new n kept q u inside f s is found_now tallied long bytes held_now = record {
  now = u.now;
  change = u.change;
  few = u.few;
  inside = omega (arith, inside);
  placed_many = noted.long ∙ u.placed_many;
  from_long = u.from_long;
  image_long = long ∙ u.image_long;
  infos = rw s.keeps.keys u.infos;
  keys = s.keeps.keys ∙ u.keys;
  before = s.keeps.before ∙ u.before;
  walked = subst (HasPassed now next) (sym (take-next e.now n (reading_in kept) f.inside f.line)) (record {
    placements = rw is (one-more was (take n e.now) (reading_in kept) n q u.walked.placements here f.inside_was found_now);
    follows = s.passed (take n e.now) u.walked.follows here;
  });
  room = s.room (length lines - (n + 1)) (subst (HasRoom pass) (let more : length lines - n ≡ length lines - (n + 1) + 1 = omega (arith, inside) in more) u.room);
  tallied = tallied;
  slots = λ j line r h there placement. u.slots j line r (omega (arith, h)) there (sym (noted.others j (λ same. omega (arith, h, same))) ∙ placement);
  held = λ j y r below there placement. below_more (λ j. (y : Placed) (r : Placement) → placed_at e j ≡ Some y → slice_get now j ≡ Some r → IsHeld e j y r new) n
      (λ j less y r there placement. held-stays e j y r old new (u.held j y r less there (sym (noted.others j (λ same. omega arith)) ∙ placement))
      (λ k b. bytes k (apart e.now j n y x (λ same. omega arith) there f.at (IMAGE_START + k) b)))
      (λ y r there placement. rw (same_Some y x (sym there ∙ f.at), same_Some r q (sym placement ∙ noted.here)) held_now) j below y r there placement;
  gaps = λ k h none. bytes k (none n x (omega arith) f.at) ∙ u.gaps k h (λ j y less there. none j y (omega arith) there);
}
  where
    x : Placed
    x = place (placed (take n e.now)) (reading_in kept)

    noted : Noted was now n q
    noted = noted-set was now n q is f.inside_was

    here : n ≡ length (take n e.now)
    here = sym (length-take-le n e.now (omega (arith, f.inside)))

-- Lines that the first pass handles one after another, because it needs only their sizes and names.

record-of : (q : Found) → q.value ≡ pos 0 → q.fault ≡ None → q.active ≡ true → q ≡ found-plain q.here q.size true
record-of q v f l = rw (← v, ← f, ← l) refl

-- a plain line that was accepted
pub plain-stood : (e : Change) (pass : Pass) (was : List Placement) (from : List ℕ) (n : ℕ) (kept : KeptLine) (x : Placed) → IsChange e → Facing e pass was from n kept x → is_accepted (get_or was n nothing).status ≡ true
    → is_plain_line (reading_in kept) ≡ true → found (get_or was n nothing) ≡ found-plain (get_or was n nothing).here (get_or was n nothing).size true
plain-stood e pass was from n kept now change f taken is_plain =
    let q : Placement = get_or was n nothing in
    let s = stood-there e from n (reading_in kept) q change f.line (f.slot nothing) taken in
    let before = placed (take s.before e.was) in
    let x : Placed = s.at.x in
    let both = and_parts _ _ taken in
    let value : x.value ≡ pos 0 = ap (λ (y : Placed). y.value) s.at.follows ∙ (parts before x.line).value ∙ ap value_or_zero ((plain-line x.line (ap is_plain_line s.line_is ∙ is_plain)).value (symbols before)) in
    record-of (found q) (ap (λ (r : Found). r.value) s.at.placement ∙ value) (none_from (refusal q.status) both.1) both.0

full-unpadded : (aligning : Bool) (here : ℕ) (body : Body) (value : ℤ) → is_padded body ≡ false → full_size aligning here body value ≡ own_size body value
full-unpadded true here body value h = rw h (omega arith)
full-unpadded false here body value h = omega arith

-- the line had the same size, if nothing pads it
pub unpadded-stood : (e : Change) (pass : Pass) (was : List Placement) (from : List ℕ) (n size : ℕ) (kept : KeptLine) (x : Placed) (defines : Option NameId) (aligning : Bool) (here : ℕ) → IsChange e → Facing e pass was from n kept x
    → is_accepted (get_or was n nothing).status ≡ true → is_padded (body_of (reading_in kept)) ≡ false → IsPlain pass.names.keys true aligning here (reading_in kept) size defines → (get_or was n nothing).size ≡ size
unpadded-stood e pass was from n size kept now defines aligning here change f taken unpadded is =
    let q : Placement = get_or was n nothing in
    let s = stood-there e from n (reading_in kept) q change f.line (f.slot nothing) taken in
    let before = placed (take s.before e.was) in
    let x : Reading = s.at.x.line in
    let value : (place before x).value ≡ pos 0 = (parts before x).value ∙ ap value_or_zero ((plain-line x (ap is_plain_line s.line_is ∙ is.plain)).value (symbols before)) in
    size-there e.was s.before (found q) s.at taken ∙ full-unpadded (is_aligning before) (place before x).here (body_of x) (place before x).value (ap (λ l. is_padded (body_of l)) s.line_is ∙ unpadded)
    ∙ ap (own_size (body_of x)) value ∙ ap (λ l. own_size (body_of l) (pos 0)) s.line_is ∙ sym (is.sized ∙ full-unpadded aligning here (body_of (reading_in kept)) (pos 0) unpadded)

-- the pass advances by a plain line

one-at-most : (keys : List Name) (defines : Option NameId) (symbol : Symbol) → length (symbols_of keys defines symbol) ≤ 1
one-at-most keys None symbol = omega arith
one-at-most keys (Some id) symbol = omega arith

pub steps-plain : (pass : Pass) (names : Tables) (n size : ℕ) (line : Reading) (defines : Option NameId) (active : Bool) → pass.active ≡ active
    → IsPlain pass.names.keys active pass.aligning pass.here line size defines → (fits : pass.here + size ≤ MEMORY_BYTES) → is_redefinition pass.names.symbols (name_of pass.names.keys defines) ≡ false
    → names.symbols ≡ pass.names.symbols ++ symbols_of pass.names.keys defines (record { value = pos pass.here; line = n + 1 }) → KeepsBefore pass.names names
    → StepsOn pass (record pass { here = pass.here + size; within = fits; names = names }) n line
steps-plain pass names n size line defines active same bare fits new given keeps = record {
  keeps = keeps;
  passed = λ before f is. (passed-plain pass names before line n size defines active same f is bare fits new given).1;
  room = λ left room. record {
    blocks = (let b = room.blocks in omega arith);
    names = omega (arith, room.names, keeps.room, ap length given, length-append pass.names.symbols (symbols_of pass.names.keys defines (record { value = pos pass.here; line = n + 1 })), one-at-most pass.names.keys defines (record { value = pos pass.here; line = n + 1 }));
  };
}

-- the placement of a plain line that is not active, or was not accepted
pub noted-plain : (here size : ℕ) (active coded : Bool) → found (record { value = pos 0; here = here; size = size; status = bare_status active coded }) ≡ found-plain here size active
noted-plain here size true true = refl
noted-plain here size true false = refl
noted-plain here size false coded = refl

pub plain-held : (e : Change) (pass : Pass) (was : List Placement) (from image : List ℕ) (n size : ℕ) (kept : KeptLine) (x : Placed) (active : Bool) (here : ℕ) → Facing e pass was from n kept x → found-plain here size active ≡ placement_of x
    → (active ≡ true → is_accepted (get_or was n nothing).status ≡ false) → ((k : ℕ) → is_byte_of x.here x.size k ≡ true → get_or image k 0 ≡ 0)
    → IsHeld e n x (record { value = pos 0; here = here; size = size; status = bare_status active kept.info.is_coded }) image
plain-held e pass was from image n size kept x true here f is refused zeros = λ effect.
    fresh-held e from image n x (reading_in kept) (get_or was n nothing) kept.info.is_coded (f.slot nothing) (refused refl) zeros (f.info.coded ∙ ap (λ l. has_code (body_of l)) (sym f.line_is))
plain-held e pass was from image n size kept x false here f is refused zeros = λ effect. absurd (false≢true (ap is_accepted_found is ∙ effect))

-- a line that was accepted and still is keeps its code
pub copied-held : (e : Change) (pass : Pass) (was : List Placement) (from old new : List ℕ) (n : ℕ) (kept : KeptLine) (x : Placed) → Facing e pass was from n kept x → IsChange e
    → is_accepted (get_or was n nothing).status ≡ true → Copied (get_or was n nothing) (placement_of x) from old new → ((k : ℕ) → is_byte_of x.here x.size k ≡ true → get_or old k 0 ≡ 0)
    → IsCarried e n x (get_or was n nothing).status new
copied-held e pass was from old new n kept x f change taken image zeros =
    let q : Placement = get_or was n nothing in
    carried-held e from new n x (reading_in kept) q (f.slot nothing) taken (stood-there e from n (reading_in kept) q change f.line (f.slot nothing) taken) f.line_is f.within image.in_both
    (λ i less past. image.beyond i less past ∙ zeros (x.here - IMAGE_START + i) (covering x.here x.size (IMAGE_START + (x.here - IMAGE_START + i)) (omega (arith, f.within.0)) (omega (arith, f.within.0, less))))

-- The second pass: the line at each place already has its code under the names after the edit, or
-- gets that code, and the bytes of the other lines stay the same. The facts before this pass, about
-- lines that don't wait, and after the pass.

abbrev SameCode : Type 0
SameCode = (line : Reading) (S T : Symbols) → agree_on S T line ≡ true → code_of line S ≡ code_of line T

-- the line at a place, among the stored ones

pub record Stands (now : List Reading) (place : ℕ) (kept : KeptLine) (q : Placement) : Type 0 where
  pub at : AtPlace now place (found q)
  pub line : reading_in kept ≡ at.x.line

pub record Reached (lines : List KeptLine) (placements : List Placement) (place : ℕ) (kept : KeptLine) : Type 0 where
  pub many : place < length placements
  pub there : slice_get placements place ≡ Some (get_or placements place nothing)
  pub stands : (now : List Reading) → now ≡ readings_in lines → Stands now place kept (get_or placements place nothing)

pub placed-many : (lines : List KeptLine) (placements : List Placement) → map found placements ≡ placements_of (readings_in lines) → length placements ≡ length lines
unfolding placements_of
placed-many lines placements laid =
    omega (arith, length-map placements found, ap length laid, length-map (reverse (placed (readings_in lines))) (final_placement (placed (readings_in lines))), length-numbered (readings_in lines), length-map lines reading_in)

pub reached : (lines : List KeptLine) (placements : List Placement) (place : ℕ) (kept : KeptLine) → map found placements ≡ placements_of (readings_in lines) → place < length lines → kept ≡ get_or lines place kept
    → Reached lines placements place kept
reached lines placements place kept laid inside is = record { many = many; there = there; stands = λ now now_is. subst (λ ls. Stands ls place kept (get_or placements place nothing)) (sym now_is) (record { at = at; line = line }) }
  where
    many : place < length placements
    many = omega (arith, inside, placed-many lines placements laid)

    there : slice_get placements place ≡ Some (get_or placements place nothing)
    there = slice_get-get_or placements place nothing many

    at : AtPlace (readings_in lines) place (found (get_or placements place nothing))
    at = at-place-of (readings_in lines) place _ (ap (λ fs. slice_get fs place) (sym laid) ∙ slice_get-map found placements place ∙ ap (option_map found) there)

    line : reading_in kept ≡ at.x.line
    line = read-at lines place kept at.x.line (slice_get-get_or lines place kept inside ∙ ap Some (sym is)) at.line

-- one more line has its code
next-coded : (e : Change) (placements new : List Placement) (image to : List ℕ) (place : ℕ) (x : Placed) (q : Placement) → placed_at e place ≡ Some x → AreCoded e placements image place → Noted placements new place q
    → length to ≡ length image → ((k : ℕ) → is_byte_of x.here x.size k ≡ false → get_or to k 0 ≡ get_or image k 0) → IsDone e x q to → AreCoded e new to (place + 1)
next-coded e placements new image to place x q at a noted long outside is = record {
  placed_many = noted.long ∙ a.placed_many;
  image_long = long ∙ a.image_long;
  done = λ j z f below. below_more (λ j. (y : Placed) (d : Placement) → placed_at e j ≡ Some y → slice_get new j ≡ Some d → IsDone e y d to) place
      (λ j less y d there is_there taken.
      code-stays (code_under (placed e.now) y) y.here y.size d.status image to (stays j y (λ same. omega arith) there) (a.done j y d less there (sym (noted.others j (λ same. omega arith)) ∙ is_there) taken))
      (λ y d there is_there. rw (same_Some y x (sym there ∙ at), same_Some d q (sym is_there ∙ noted.here)) is) j below z f;
  half = λ j y d above there is_there taken.
      carried-stays e j y d.status image to (stays j y (λ same. omega arith) there) (a.half j y d (omega arith) there (sym (noted.others j (λ same. omega arith)) ∙ is_there) taken);
  gaps = λ k inside none. outside k (none place x (omega (arith, slice_get_within (reverse (placed e.now)) place x at, length-numbered e.now)) at) ∙ a.gaps k inside none;
}
  where
    stays : (j : ℕ) (y : Placed) → (j ≡ place → ⊥) → placed_at e j ≡ Some y → StaysOn y.here y.size image to
    stays j y other there k covered = outside k (apart e.now j place y x other there at (IMAGE_START + k) covered)

-- the line at a place is encoded again
pub written-anew : (e : Change) (names : Tables) (lines : List KeptLine) (place : ℕ) (kept : KeptLine) (q : Placement) (placements new : List Placement) (image to : List ℕ) → IsEncodedUnder e names lines → Stands e.now place kept q
    → AreCoded e placements image place → Noted placements new place (record q { status = status_coded (kept_fault names kept q) }) → IsWritten q (kept_bytes names kept q) image to → length to ≡ length image → AreCoded e new to (place + 1)
written-anew e names lines place kept q placements new image to u s a noted written long =
    next-coded e placements new image to place s.at.x (record q { status = status_coded (kept_fault names kept q) }) s.at.at a noted long
    (λ k out. written k ∙ ap (λ b. cond b (get_or (kept_bytes names kept q) (IMAGE_START + k - q.here) 0) (get_or image k 0)) (ap (λ (p : Found). is_byte_of p.here p.size k) s.at.placement ∙ out))
    (λ taken. record {
      bytes = λ k covered. written k ∙ bytes k (ap (λ (p : Found). is_byte_of p.here p.size k) s.at.placement ∙ covered) (ap is_accepted_found s.at.placement ∙ taken);
      noted = ap status_coded (ap (λ b. cond b (fault_in_code (code_kept names kept)) None) (ap is_accepted_found s.at.placement ∙ taken) ∙ ap fault_in_code code);
    })
  where
    code : code_kept names kept ≡ code_under (placed e.now) s.at.x
    code = ap (code_with names.symbols) s.line ∙ ap (λ ns. code_with ns s.at.x.line) u.symbols

    bytes : (k : ℕ) → is_byte_of q.here q.size k ≡ true → is_accepted q.status ≡ true → cond (is_byte_of q.here q.size k) (get_or (kept_bytes names kept q) (IMAGE_START + k - q.here) 0) (get_or image k 0)
        ≡ get_or (bytes_in_code (code_under (placed e.now) s.at.x)) (IMAGE_START + k - s.at.x.here) 0
    bytes k covered accepted = rw (covered, accepted, code) (ap (λ (p : Found). get_or (bytes_in_code (code_under (placed e.now) s.at.x)) (IMAGE_START + k - p.here) 0) s.at.placement)

-- a line that doesn't wait has its code, if it has the same code under the names after the edit

abbrev AlikeIn : Change → Reading → Type 0
AlikeIn e line = code_with (names_of_lines e.was) line ≡ code_with (names_of_lines e.now) line

done-now : (e : Change) (place : ℕ) (x : Placed) (q : Placement) (image : List ℕ) → (q.status ≡ Pending → ⊥) → (is_accepted_in (placed e.now) x ≡ true → AlikeIn e x.line) → IsHalfDone e place x q image → IsDone e x q image
done-now e place x q image settled same half taken = by (half taken)
  where
    by : IsCarried e place x q.status image → HasCode (code_under (placed e.now) x) x.here x.size q.status image
    by (inl w) = absurd (settled w.pending)
    by (inr h) = subst (λ code. HasCode code x.here x.size q.status image) (same taken) h

alike : SameCode → (e : Change) (names : Tables) (lines : List KeptLine) (line : Reading) → IsEncodedUnder e names lines → agree_on names.before (values_of names.symbols) line ≡ true → AlikeIn e line
alike law e names lines line u agree = rw (← u.before, ← u.symbols) (same-bytes line names.before (values_of names.symbols) (law line names.before (values_of names.symbols) agree))

-- a line that needn't be encoded has its code
pub coded-still : SameCode → (e : Change) (names : Tables) (lines : List KeptLine) (place : ℕ) (kept : KeptLine) (q : Placement) (placements : List Placement) (image : List ℕ) → IsEncodedUnder e names lines → Stands e.now place kept q
    → AreCoded e placements image place → slice_get placements place ≡ Some q
    → (is_pending q.status || (not (agree_on names.before (values_of names.symbols) (reading_in kept)) && is_coded kept q)) ≡ false → AreCoded e placements image (place + 1)
coded-still law e names lines place kept q placements image u s a there still =
    next-coded e placements placements image image place s.at.x q s.at.at a (noted-same placements place q there) refl (λ k out. refl)
    (done-now e place s.at.x q image (λ waits. false≢true (sym (or_parts _ _ still).0 ∙ ap is_pending waits))
    (λ taken. subst (AlikeIn e) s.line (by (ap is_accepted_found s.at.placement ∙ taken) (and_cases _ _ (or_parts _ _ still).1)))
    (a.half place s.at.x q (omega arith) s.at.at there))
  where
    by : is_accepted q.status ≡ true → (not (agree_on names.before (values_of names.symbols) (reading_in kept)) ≡ false) ⊎ (is_coded kept q ≡ false) → AlikeIn e (reading_in kept)
    by accepted (inl agree) =
        alike law e names lines (reading_in kept) u (not-false _ agree)
    by accepted (inr none) =
        let bare : has_code (body_of (reading_in kept)) ≡ false = rw accepted at none in
        no-code (body_of (reading_in kept)) (values_of (names_of_lines e.was)) bare ∙ sym (no-code (body_of (reading_in kept)) (values_of (names_of_lines e.now)) bare)

-- a line that has to be encoded is accepted
pub again-accepted : (q : Placement) (kept : KeptLine) (changed : Bool) → (is_pending q.status || (changed && is_coded kept q)) ≡ true → is_accepted q.status ≡ true
again-accepted q kept changed again = by q.status again
  where
    by : (s : Status) → (is_pending s || (changed && (is_accepted s && has_code (body_of (reading_in kept))))) ≡ true → is_accepted s ≡ true
    by Skipped h = (and_parts changed false h).1
    by (Refused f) h = (and_parts changed false h).1
    by Pending h = refl
    by Done h = refl
    by (Uncoded f) h = refl

-- no line from one place up to another waits, and if there is such a line, the names have kept their values
abbrev pub AreQuiet : Tables → List Placement → (start end : ℕ) → Type 0
AreQuiet names placements start end = (j : ℕ) (q : Placement) → start ≤ j → j < end → slice_get placements j ≡ Some q → (names.before ≡ values_of names.symbols) × (q.status ≡ Pending → ⊥)

-- if each line from one place up to another doesn't wait and has the same code, these lines have
-- their codes
kept-over : (e : Change) (placements : List Placement) (image : List ℕ) (start end : ℕ)
    → ((j : ℕ) (x : Placed) (q : Placement) → start ≤ j → j < end → placed_at e j ≡ Some x → slice_get placements j ≡ Some q → (q.status ≡ Pending → ⊥) × AlikeIn e x.line)
    → start ≤ end → AreCoded e placements image start → AreCoded e placements image end
kept-over e placements image start end still ordered a = record {
  placed_many = a.placed_many;
  image_long = a.image_long;
  done = λ j x q below there noted. done j x q below there noted (cases_lt j start);
  half = λ j x q above. a.half j x q (omega arith);
  gaps = a.gaps;
}
  where
    done : (j : ℕ) (x : Placed) (q : Placement) → j < end → placed_at e j ≡ Some x → slice_get placements j ≡ Some q → (j < start) ⊎ (start ≤ j) → IsDone e x q image
    done j x q below there noted (inl before) = a.done j x q before there noted
    done j x q below there noted (inr from) =
        let same = still j x q from below there noted in
        done-now e j x q image same.0 (λ taken. same.1) (a.half j x q from there noted)

pub names-kept : (e : Change) (names : Tables) (lines : List KeptLine) (placements : List Placement) (image : List ℕ) (start end : ℕ) → IsEncodedUnder e names lines
    → AreQuiet names placements start end → start ≤ end → AreCoded e placements image start → AreCoded e placements image end
names-kept e names lines placements image start end u quiet =
    kept-over e placements image start end (λ j x q from below there noted.
    (let still = quiet j q from below noted in (still.1, ap (own_bytes (body_of x.line)) (sym u.before ∙ still.0 ∙ ap values_of u.symbols))))

pub settled-coded : SameCode → (e : Change) (names : Tables) (lines : List KeptLine) (placements : List Placement) (image : List ℕ) (start end : ℕ) → IsEncodedUnder e names lines
    → AreSettled names lines placements start end → start ≤ end → AreCoded e placements image start → AreCoded e placements image end
settled-coded law e names lines placements image start end u settled =
    kept-over e placements image start end (λ j x q from below there noted.
    (let still = settled j below from x.line q (ap (λ ls. slice_get ls j) (sym u.now) ∙ (at-line e.now j x there).line) noted in
    ((λ waits. false≢true (sym still.0 ∙ ap is_pending waits)), alike law e names lines x.line u still.1)))

-- the number of lines that are encoded again

pub again-later : (e : Change) (place next : ℕ) → place ≤ next → again_up_to e place ≤ again_up_to e next
again-later e place next ordered =
    rw (← take-take place next (enumerate_from 0 e.now) ordered) (count_by-take (is_encoded_again e.was e.now e.origin) (take next (enumerate_from 0 e.now)) place)

settled-of : (o : Option Fault) → is_pending (status_coded o) ≡ false
settled-of None = refl
settled-of (Some f) = refl

waits-new : (e : Change) (place : ℕ) (x : Placed) (status : Status) (image : List ℕ) → is_pending status ≡ true → IsCarried e place x status image → stood e place ≡ false
waits-new e place x status image pending (inl w) = w.new
waits-new e place x status image pending (inr h) = absurd (false≢true (sym (settled-of _) ∙ ap is_pending (sym h.noted) ∙ pending))

keeps-is : (e : Change) (line : Reading) (o : Option ℕ) → option_map_or (λ b. is_accepted_at e.was b && agree_on (values_of (names_of_lines e.was)) (values_of (names_of_lines e.now)) line) o false
    ≡ (option_map_or (is_accepted_at e.was) o false && agree_on (values_of (names_of_lines e.was)) (values_of (names_of_lines e.now)) line)
keeps-is e line None = refl
keeps-is e line (Some b) = refl

-- a line that has to be encoded doesn't keep its code, so it is encoded again if it has code and is
-- accepted
pub again-more : (e : Change) (names : Tables) (lines : List KeptLine) (place : ℕ) (kept : KeptLine) (q : Placement) (placements : List Placement) (image : List ℕ) → IsEncodedUnder e names lines → Stands e.now place kept q
    → AreCoded e placements image place → slice_get placements place ≡ Some q
    → (is_pending q.status || (not (agree_on names.before (values_of names.symbols) (reading_in kept)) && is_coded kept q)) ≡ true
    → (before now : ℕ) → now ≤ before + cond (is_coded kept q) 1 0 → now + again_up_to e place ≤ before + again_up_to e (place + 1)
unfolding is_encoded_again needs
again-more e names lines place kept q placements image u s a there again before now few =
    let more = count-numbered (is_encoded_again e.was e.now e.origin) e.now place (reading_in kept) (s.at.line ∙ ap Some (sym s.line)) in
    let counted = count-step (is_coded kept q) (is_encoded_again e.was e.now e.origin (place, reading_in kept)) (λ coded. anew (and_parts _ _ coded)) in
    omega arith
  where
    by : is_accepted q.status ≡ true → (p b : Bool) → is_pending q.status ≡ p → (p || (not b && is_coded kept q)) ≡ true → (stood e place && b) ≡ false
    by accepted true b pending h = and_left _ b (waits-new e place s.at.x q.status image pending (a.half place s.at.x q (omega arith) s.at.at there (ap is_accepted_found (sym s.at.placement) ∙ accepted)))
    by accepted false true pending h = cc
    by accepted false false pending h = and_right (stood e place) false refl

    anew : (is_accepted q.status ≡ true) × (has_code (body_of (reading_in kept)) ≡ true) → is_encoded_again e.was e.now e.origin (place, reading_in kept) ≡ true
    anew h =
        let there : is_accepted_at e.now place ≡ true = accepted-at e.now place (found q) s.at ∙ h.0 in
        let lost : (stood e place && agree_on (values_of (names_of_lines e.was)) (values_of (names_of_lines e.now)) (reading_in kept)) ≡ false
        = rw (← u.before, ← u.symbols) (by h.0 (is_pending q.status) _ refl again) in
        rw (h.1, there, keeps-is e (reading_in kept) (e.origin place), lost) refl

-- the second pass is over

-- the code of each accepted line is recorded
pub codes-noted : (e : Change) (placements : List Placement) (image : List ℕ) → AreCoded e placements image (length e.now) → AreCodesNoted placements e.now
codes-noted e placements image a j x q there noted taken =
    (a.done j x q (omega (arith, slice_get_within (reverse (placed e.now)) j x there, length-numbered e.now)) there noted taken).noted

-- the image contains the bytes of the lines
pub image-coded : (e : Change) (placements : List Placement) (image : List ℕ) → AreCoded e placements image (length e.now) → IsImageOf image e.now
image-coded e placements image a = record {
  imaged = λ k inside. by k inside (cases_eq (get_or image k 0) (right_byte e.now k));
  short = omega (arith, a.image_long);
  long = λ some. a.image_long;
}
  where
    right : (k n : ℕ) (x : Placed) → placed_at e n ≡ Some x → is_byte_of x.here x.size k ≡ true → get_or image k 0 ≡ right_byte e.now k
    right k n x there covered =
        let l = at-line e.now n x there in
        let inside : n < length e.now = omega (arith, slice_get_within (reverse (placed e.now)) n x there, length-numbered e.now) in
        let noted = slice_get-get_or placements n nothing (omega (arith, inside, a.placed_many)) in
        (a.done n x _ inside there noted (covers-accepted e.now n _ l (IMAGE_START + k) covered)).bytes k covered ∙ sym (byte-line e.now n _ l (IMAGE_START + k) covered)

    by : (k : ℕ) → k < IMAGE_BYTES → (get_or image k 0 ≡ right_byte e.now k) ⊎ (get_or image k 0 ≡ right_byte e.now k → ⊥) → get_or image k 0 ≡ right_byte e.now k
    by k inside (inl same) = same
    by k inside (inr differ) =
        let none = λ (n : ℕ) (x : Placed) (there : placed_at e n ≡ Some x). false_from_ne_true (is_byte_of x.here x.size k) (λ covered. differ (right k n x there covered)) in
        a.gaps k inside (λ n x below there. none n x there) ∙ sym (byte-outside e.now (IMAGE_START + k) none)

-- the first pass is over, and each IF without ENDIF is marked

pub record IsHalfWay (e : Change) (lines : List KeptLine) (pass : Pass) (placements : List Placement) (image : List ℕ) : Type 0 where
  pub many : length e.now ≡ length lines
  pub follows : Follows pass (placed e.now)
  pub under : IsEncodedUnder e pass.names lines
  pub laid : map found placements ≡ placements_of e.now
  pub coded : AreCoded e placements image 0

-- a mark doesn't change the status of an accepted line
note-half : (e : Change) (j : ℕ) (x : Placed) (was q : Placement) (image : List ℕ) → q ≡ cond (is_unclosed (placed e.now) x) (unclosed was) was → IsHeld e j x was image → IsHalfDone e j x q image
note-half e j x was q image is held taken =
    subst (λ (p : Placement). IsCarried e j x p.status image) (sym (is ∙ by (is_unclosed (placed e.now) x) taken)) (held (accepted-effect (placed e.now) x taken))
  where
    by : (u : Bool) → (x.active && is_none (cond u (Some UnclosedIf) x.fault)) ≡ true → cond u (unclosed was) was ≡ was
    by true h = absurd (false≢true (and_parts x.active false h).1)
    by false h = refl

pub walked-all : (e : Change) (lines : List KeptLine) (pass : Pass) (placements : List Placement) (tally : Tally) (from image : List ℕ) → IsUnderWay e lines pass placements tally from image (length lines) → HasPassed placements pass e.now
walked-all e lines pass placements tally from image u =
    subst (HasPassed placements pass) (take_all (length lines) e.now (omega (arith, ap length u.now, length-map lines reading_in))) u.walked

pub half-done : (e : Change) (lines : List KeptLine) (pass : Pass) (placements now : List Placement) (tally : Tally) (from image : List ℕ)
    → IsUnderWay e lines pass placements tally from image (length lines) → length now ≡ length placements → AreMarked pass.ended pass.blocks.items placements now → IsHalfWay e lines pass now image
half-done e lines pass placements now tally from image u long marks = record {
  many = many;
  follows = walked.follows;
  under = record { now = u.now; change = u.change; symbols = walked.follows.names; before = u.before };
  laid = marked-placements e.now pass.ended pass.blocks.items placements now walked.follows.ended walked.follows.open_blocks long
      (sym (take_all (length e.now) (map found placements) (omega (arith, many, u.placed_many, length-map placements found))) ∙ walked.placements) marks;
  coded = record {
    placed_many = long ∙ u.placed_many ∙ sym many;
    image_long = u.image_long;
    done = λ j x q below. absurd (omega arith);
    half = λ j x q above there noted.
        (let below : j < length placements = omega (arith, slice_get_within now j q noted, long) in
        let is : q ≡ cond (is_unclosed (placed e.now) x) (unclosed (get_or placements j q)) (get_or placements j q)
        = sym (get_or_from_slice_get now j q q noted) ∙ marks j q below
        ∙ ap (λ b. cond b (unclosed (get_or placements j q)) (get_or placements j q)) (is-marked e.now j x pass.ended pass.blocks.items there walked.follows.ended walked.follows.open_blocks) in
        note-half e j x (get_or placements j q) q image is (u.held j x (get_or placements j q) (omega (arith, below, u.placed_many)) there (slice_get-get_or placements j q below)));
    gaps = subst (λ n. AreGapsZero e n image) (sym many) u.gaps;
  };
}
  where
    many : length e.now ≡ length lines
    many = ap length u.now ∙ length-map lines reading_in

    walked : HasPassed placements pass e.now
    walked = walked-all e lines pass placements tally from image u

-- Both passes over the lines after an edit: the place where the first pass begins, and the places
-- that the second pass handles.

-- the place where the first pass begins

pub begun-way : (e : Change) (kept : Kept) (first start : ℕ) (pass : Pass) (lines : List KeptLine) (placements : List Placement) (tally : Tally) (from image : List ℕ) → IsExchanged e kept first start
    → lines ≡ kept.lines.items → placements ≡ kept.layout.placements.items → from ≡ kept.image.items → tally.faults ≡ kept.layout.faults → tally.end ≡ 0
    → length image ≡ IMAGE_BYTES → ((k : ℕ) → k < start - IMAGE_START → get_or image k 0 ≡ get_or from k 0) → ((k : ℕ) → start - IMAGE_START ≤ k → get_or image k 0 ≡ 0)
    → pass.names ≡ kept.names
    → ((before : List Placed) → start ≡ address before → start ≤ MEMORY_BYTES → is_aligning before ≡ true → has_ended before ≡ false → enclosing before ≡ [] → kept.names.symbols ≡ symbols before → Follows pass before)
    → ((left : ℕ) → left ≤ vec_capacity kept.blocks → length kept.names.symbols + left ≤ kept.names.room → HasRoom pass left)
    → IsUnderWay e lines pass placements tally from image first
begun-way e kept first start pass lines placements tally from image x lines_is placements_is from_is faults ends long front zeros names follows room = record {
  now = x.now ∙ ap readings_in (sym lines_is);
  change = x.change;
  few = omega (arith, x.few, ap length lines_is);
  inside = omega (arith, x.inside, ap length lines_is);
  placed_many = ap length placements_is ∙ x.placed_many ∙ ap length (sym lines_is);
  from_long = omega (arith, ap length from_is, x.image_long, kept.image.ok.0);
  image_long = long;
  infos = rw (lines_is, names) x.infos;
  keys = ap (λ (t : Tables). t.keys) names ∙ x.keys;
  before = ap (λ (t : Tables). t.before) names ∙ x.before;
  walked = record {
    placements = ap (λ n. take n (map found placements)) many ∙ ap (λ qs. take first (map found qs)) placements_is ∙ x.front;
    follows = follows (placed (take first e.now)) x.at_address (omega (arith, x.at_address, end-high (take first e.now))) s.aligning s.ended s.open_blocks x.symbols;
  };
  room = room (length lines - first) (omega (arith, x.blocks_room, ap length lines_is)) (omega (arith, x.names_room, ap length lines_is));
  tallied = record {
    counted = faults ∙ x.counted ∙ ap (sum_by count_of) (sym placements_is);
    low = λ j q there pending. absurd (x.none_pending j q (was j there) pending);
    high = λ j q there pending. absurd (x.none_pending j q (was j there) pending);
    within = omega (arith, ends);
  };
  slots = λ j line q h at there. subst (λ f. IsSlot e f j line q) (sym from_is) (x.slots j line q h at (was j there));
  held = λ j y q h at there.
      held-stays e j y q kept.image.items image (x.held j y q h at (was j there))
      (λ k b. front k (omega (arith, (covered-parts y.here y.size (IMAGE_START + k) b).1, ends-before e.now first j y h at, x.at_address)) ∙ ap (λ f. get_or f k 0) from_is);
  gaps = λ k h none. gap k none (cases_lt k (start - IMAGE_START));
}
  where
    was : {q : Placement} (j : ℕ) → slice_get placements j ≡ Some q → slice_get kept.layout.placements.items j ≡ Some q
    was j there = ap (λ qs. slice_get qs j) (sym placements_is) ∙ there

    inside_now : first ≤ length e.now
    inside_now = omega (arith, x.inside, ap length x.now, length-map kept.lines.items reading_in)

    many : length (take first e.now) ≡ first
    many = length-take-le first e.now inside_now

    s : Resumes (placed (take first e.now))
    s = resumes (take first e.now) (rw x.now (steady-readings kept.names.keys kept.lines.items first x.infos x.inside x.steady))

    gap : (k : ℕ) → ((j : ℕ) (y : Placed) → j < first → placed_at e j ≡ Some y → is_byte_of y.here y.size k ≡ false) → (k < start - IMAGE_START) ⊎ (start - IMAGE_START ≤ k) → get_or image k 0 ≡ 0
    gap k none (inl less) = front k less ∙ ap (λ f. get_or f k 0) from_is ∙ x.gaps k (omega (arith, less)) none
    gap k none (inr past) = zeros k past

-- no line before or after these places waits, if the names have kept their values
pub record ArePlaces (names : Tables) (placements : List Placement) (count start end : ℕ) : Type 0 where
  pub ordered : start ≤ end
  pub within : end ≤ count
  pub before : AreQuiet names placements 0 start
  pub behind : AreQuiet names placements end count

-- all places
pub all-places : (names : Tables) (placements : List Placement) (count start end : ℕ) → start ≡ 0 → end ≡ count → ArePlaces names placements count start end
all-places names placements count start end low high = record {
  ordered = omega arith;
  within = omega arith;
  before = λ j q from to. absurd (omega arith);
  behind = λ j q from to. absurd (omega arith);
}

-- the places of a tally
pub tally-places : (names : Tables) (placements : List Placement) (tally : Tally) (count start end : ℕ) → IsTally placements tally → length placements ≡ count → names.before ≡ values_of names.symbols → start ≤ end → end ≤ tally.end
    → (tally.start < tally.end → start ≡ tally.start) → (tally.start < tally.end → end ≡ tally.end) → ArePlaces names placements count start end
tally-places names placements tally count start end t many same ordered within low high = record {
  ordered = ordered;
  within = omega (arith, t.within);
  before = λ j q from to there. (same, λ pending. outside j q there pending (inl to));
  behind = λ j q from to there. (same, λ pending. outside j q there pending (inr from));
}
  where
    outside : (j : ℕ) (q : Placement) → slice_get placements j ≡ Some q → q.status ≡ Pending → (j < start) ⊎ (end ≤ j) → ⊥
    outside j q there pending out =
        let from = t.low j q there pending in
        let to = t.high j q there pending in
        let some : tally.start < tally.end = omega (arith, from, to) in
        elim out [ inl less ↦ omega (arith, from, less, low some) | inr past ↦ omega (arith, to, past, high some) ]
