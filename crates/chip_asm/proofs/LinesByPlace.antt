-- Lines by their places: the address of each line, its status, and its bytes in the image.
use Rattle.std.proofs.Common.{◌≡◌, ℕ, ◌+◌, ◌-◌, ◌*◌, ◌<◌, ◌≤◌, ◌⊎◌, inl, inr, Bool, true, false, cond, ◌&&◌, ltb, leb, List, [], ◌∷◌, ◌++◌, length, take, drop, get_or, refl, replicate, ap, sym, ◌∙◌, arith, Result, Ok, Err, ℤ, length-append, zero, suc, reverse, slice_get, find, filter, subst, Option, Some, None, is_none, is_some, option_map, not, ◌||◌, map, le-leb, if◌then◌else◌, set, sum_by, count_by}
use Rattle.std.proofs.lemmas.Bool.{and_parts, cases_lt, cond_both, false_from_ne_true, false≢true, true_from_ne_false, lt-ltb, cases_eq}
use Rattle.std.proofs.lemmas.List.{drop-drop, get_or-append_right, get_or_append_left, get_or-drop, get_or-replicate, get_or-take, length-replicate, length-take-le, get_or-reverse, get_or_default, length-reverse, length-take, take-take, get_or-map, length-map, same_lists, map-append, take-map, take_more, take_more_set, get_or-set_other, get_or-set_same, length-set, take_all, take-append-le}
use borrow.Rule.Slice.PartMut.{put_mid}
use Rattle.chip_lang.specs.declared.limits.TheConstants.{IMAGE_START, MEMORY_BYTES}
use Rattle.chip_lang.specs.declared.fault.Fault.{Fault}
use Rattle.chip_lang.specs.Line.{Body, db, dw, da, code, Reading, bad, read, ifdef, ifund}
use Rattle.chip_lang.specs.Tree.{Tree}
use Rattle.chip_lang.specs.Value.{◌>>=◌, Symbols}
use Rattle.chip_lang.specs.Encoding.{word_of_form}
use Rattle.chip_lang.specs.Code.{own_bytes, bytes_coded, coded, code_length, code_of, data_bytes, datum_of, byte_of, own_length, word_bytes}
use Rattle.chip_asm.specs.Layout.{body_of, own_size, Placed, full_size, is_if, is_if_body, takes_effect, has_ended}
use Rattle.chip_asm.specs.Program.{bytes_in_code, code_under, fault_in_code, covers, byte_at, fault_of, first_pass_fault, is_unclosed}
use Rattle.chip_asm.specs.declared.placement.Placement.{Placement}
use Rattle.chip_asm.specs.inner.Infos.{has_code}
use Rattle.chip_asm.specs.inner.Codes.{IsWritten, covers_byte}
use Rattle.std.specs.List.{position_or_len, list_any, list_all, enumerate_from}
use Rattle.std.specs.Option.{option_map_or}
use Rattle.std.proofs.lemmas.List.Sorted.{IsPermutation-reverse, list_any-IsPermutation}
use Rattle.std.proofs.lemmas.List.Folds.{find_at, list_all-map}
use Rattle.std.proofs.lemmas.List.Sums.{get_or-le-sum_by, length-filter, passes_at_first, sum_by-cons, sum_by-set, sum_by-take-le, sum_by_more}
use Rattle.std.proofs.lemmas.Option.{gets, slice_get_cases, get_or_from_slice_get, same_Some, slice_get-get_or, slice_get-map, slice_get_past, slice_get_within}
use Rattle.chip_lang.specs.declared.fault.Fault.TheVariants.{UnclosedIf}
use Rattle.chip_symbols.specs.Names.{values_of}
use Rattle.chip_asm.specs.declared.layout.Layout.{Layout}
use Rattle.chip_asm.specs.computed.Walk.{place, placed, address, is_aligning, symbols, enclosing}
use Rattle.chip_asm.specs.inner.Placements.{IsLayoutOf, placements_of, final_placement, first_placements, Found, found, is_accepted_found, is_accepted, status_coded, nothing, count_of, fault_noted, is_active_status, refusal, block_of, placement_of}
use Rattle.chip_asm.specs.Work.{is_accepted_at, is_accepted_in}
use Rattle.chip_asm.proofs.Resumed.{IsWithinMemory, within-memory, next-placed, length-laid, same-placed, none_from}
use Rattle.chip_asm.proofs.LinesApart.{covered-parts, covering, ends-by, one-covers}
use Rattle.chip_asm.proofs.Placing.{length-numbered, line-at, placed-push, Parts, parts}
use Rattle.chip_asm.proofs.PlacesAgree.{number-at, enclosing-all, open-at, opens_at, past-end, turned-back}
use Rattle.chip_asm.specs.declared.placement.Status.{Status}
use Rattle.chip_asm.specs.declared.placement.Status.TheVariants.{Done, Pending, Uncoded}
use Rattle.chip_asm.specs.declared.block.Block.{Block}
use Rattle.chip_asm.specs.Places.{Encloses}
use Rattle.chip_asm.specs.inner.Blocks.{AreMarked, is_among, is_opened_at, marked, unclosed}
use Rattle.chip_asm.proofs.BlockSteps.{reverse-cons, list_all-reverse}
use Rattle.chip_asm.specs.declared.layout.Tally.{Tally}
use Rattle.chip_asm.specs.inner.Passes.{IsTally}
use Rattle.std.proofs.lemmas.List.FromFn.{length-enumerate_from, get_or-enumerate_from}

-- A line that is written into an image, and the code of a line.

-- items between others

pub inserted : {X : Type 0} (old items : List X) (d : X) (at k : ℕ) → at + length items ≤ length old → at ≤ k → k < at + length items → get_or (take at old ++ (items ++ drop (at + length items) old)) k d ≡ get_or items (k - at) d
inserted old items d at k room low high =
    get_or-append_right (take at old) (items ++ drop (at + length items) old) at k d (length-take-le at old (omega arith)) low
    ∙ get_or_append_left items (drop (at + length items) old) d (k - at) (omega arith)

pub around : {X : Type 0} (old items : List X) (d : X) (at k : ℕ) → at + length items ≤ length old → (k < at) ⊎ (at + length items ≤ k) → get_or (take at old ++ (items ++ drop (at + length items) old)) k d ≡ get_or old k d
around old items d at k room (inl before) =
    get_or_append_left (take at old) (items ++ drop (at + length items) old) d k (omega (arith, length-take-le at old (omega arith))) ∙ get_or-take at old k d before
around old items d at k room (inr behind) =
    let back : at + length items + (k - at - length items) ≡ k = omega arith in
    get_or-append_right (take at old) (items ++ drop (at + length items) old) at k d (length-take-le at old (omega arith)) (omega arith)
    ∙ get_or-append_right items (drop (at + length items) old) (length items) (k - at) d refl (omega arith)
    ∙ get_or-drop (at + length items) old (k - at - length items) d
    ∙ ap (λ n. get_or old n d) back

pub covered : (here size k : ℕ) (b : Bool) → (leb here (IMAGE_START + k) && ltb (IMAGE_START + k) (here + size)) ≡ b → IMAGE_START ≤ here → cond b ((here - IMAGE_START ≤ k) × (k < here - IMAGE_START + size)) ((k < here - IMAGE_START) ⊎ (here - IMAGE_START + size ≤ k))
covered here size k true e low = let both = covered-parts here size (IMAGE_START + k) e in (omega (arith, both.0), omega (arith, both.1))
covered here size k false e low = elim (cases_lt k (here - IMAGE_START)) [
  | inl before ↦ inl before
  | inr from ↦ elim (cases_lt k (here - IMAGE_START + size)) [
    | inl to ↦ absurd (false≢true (sym e ∙ covering here size (IMAGE_START + k) (omega arith) (omega arith)))
    | inr behind ↦ inr behind
  ]
]

-- a line whose bytes are put at its place is written
pub put : (q : Placement) (bytes part old : List ℕ) (n : ℕ) → n ≡ q.size → IMAGE_START ≤ q.here → q.here + q.size ≤ length old + IMAGE_START → length part ≡ q.size
    → ((k : ℕ) → k < q.size → get_or part k 0 ≡ get_or bytes k 0) → IsWritten q bytes old (put_mid (q.here - IMAGE_START) n old part)
put q bytes part old n size low high long same k =
    ap (λ rest. get_or (take (q.here - IMAGE_START) old ++ (part ++ rest)) k 0) there ∙ by (covers_byte q k) refl
  where
    there : drop n (drop (q.here - IMAGE_START) old) ≡ drop (q.here - IMAGE_START + length part) old
    there = drop-drop n (q.here - IMAGE_START) old ∙ ap (λ m. drop m old) (let m : q.here - IMAGE_START + n ≡ q.here - IMAGE_START + length part = omega arith in m)

    room : q.here - IMAGE_START + length part ≤ length old
    room = omega arith

    by : (b : Bool) → covers_byte q k ≡ b → get_or (take (q.here - IMAGE_START) old ++ (part ++ drop (q.here - IMAGE_START + length part) old)) k 0 ≡ cond b (get_or bytes (IMAGE_START + k - q.here) 0) (get_or old k 0)
    by true e =
        let in_part : (q.here - IMAGE_START ≤ k) × (k < q.here - IMAGE_START + q.size) = covered q.here q.size k true e low in
        let index : k - (q.here - IMAGE_START) ≡ IMAGE_START + k - q.here = omega (arith, in_part.0) in
        inserted old part 0 (q.here - IMAGE_START) k room in_part.0 (omega (arith, in_part.1)) ∙ same (k - (q.here - IMAGE_START)) (omega (arith, in_part.0, in_part.1)) ∙ ap (λ n. get_or bytes n 0) index
    by false e = around old part 0 (q.here - IMAGE_START) k room (out (covered q.here q.size k false e low))
      where
        out : (k < q.here - IMAGE_START) ⊎ (q.here - IMAGE_START + q.size ≤ k) → (k < q.here - IMAGE_START) ⊎ (q.here - IMAGE_START + length part ≤ k)
        out (inl h) = inl h
        out (inr h) = inr (omega arith)

-- a line without code, whose bytes are zeros, is also written
pub zeroed : (q : Placement) (bytes part old : List ℕ) (n : ℕ) → n ≡ q.size → IMAGE_START ≤ q.here → q.here + q.size ≤ length old + IMAGE_START → part ≡ replicate n 0 → bytes ≡ []
    → IsWritten q bytes old (put_mid (q.here - IMAGE_START) n old part)
zeroed q bytes part old n size low high zeros none =
    put q bytes part old n size low high (ap length zeros ∙ length-replicate n 0 ∙ size)
    (λ k h. ap (λ l. get_or l k 0) zeros ∙ get_or-replicate n k 0 0 (omega arith) ∙ ap (λ l. get_or l k 0) (sym none))

-- codes

pub code-read : (line : Reading) (names : Symbols) → has_code (body_of line) ≡ true → code_of line names ≡ coded (own_bytes (body_of line) names)
code-read (bad f) names h = cc
code-read (read label body) names h = refl

pub no-code : (b : Body) (names : Symbols) → has_code b ≡ false → own_bytes b names ≡ Ok []
unfolding own_bytes
no-code (db es) names h = cc
no-code (dw es) names h = cc
no-code (da bytes) names h = cc
no-code (code f os) names h = cc
no-code _ names h = refl

pub bytes-coded : (r : Result (List ℕ) Fault) → bytes_coded (coded r) ≡ bytes_in_code r
bytes-coded (Ok bytes) = refl
bytes-coded (Err f) = refl

coded-same : (r s : Result (List ℕ) Fault) → coded r ≡ coded s → r ≡ s
coded-same (Ok a) (Ok b) e = cc
coded-same (Err a) (Err b) e = cc
coded-same (Ok a) (Err b) e = cc
coded-same (Err a) (Ok b) e = cc

-- if a line has the same code under two tables, its statement has the same bytes under them
pub same-bytes : (r : Reading) (S T : Symbols) → code_of r S ≡ code_of r T → own_bytes (body_of r) S ≡ own_bytes (body_of r) T
unfolding own_bytes
same-bytes (bad f) S T e = refl
same-bytes (read label body) S T e = coded-same (own_bytes body S) (own_bytes body T) e

datum-short : (r : Result ℕ Fault) (width : ℕ) (shown : ℕ → List ℕ) → ((n : ℕ) → length (shown n) ≡ width) → (rest : Result (List ℕ) Fault) (m : ℕ) → length (bytes_in_code rest) ≤ m
    → length (bytes_in_code (r >>= λ n. rest >>= λ tail. Ok (shown n ++ tail))) ≤ width + m
datum-short (Err f) width shown each rest m h = omega arith
datum-short (Ok n) width shown each (Err f) m h = omega arith
datum-short (Ok n) width shown each (Ok tail) m h = omega (arith, each n, length-append (shown n) tail)

bytes-short : (es : List Tree) (S : Symbols) → length (bytes_in_code (data_bytes 256 byte_of es S)) ≤ length es
bytes-short [] S = omega arith
bytes-short (e ∷ es) S =
    let more = datum-short (datum_of 256 e S) 1 byte_of (λ n. refl) (data_bytes 256 byte_of es S) (length es) (bytes-short es S) in
    omega arith

words-short : (es : List Tree) (S : Symbols) → length (bytes_in_code (data_bytes 65536 word_bytes es S)) ≤ 2 * length es
words-short [] S = omega arith
words-short (e ∷ es) S =
    let more = datum-short (datum_of 65536 e S) 2 word_bytes (λ n. refl) (data_bytes 65536 word_bytes es S) (2 * length es) (words-short es S) in
    omega arith

word-short : (r : Result ℕ Fault) → length (bytes_in_code (r >>= λ w. Ok (word_bytes w))) ≤ 2
word-short (Ok w) = omega arith
word-short (Err f) = omega arith

-- a statement has no more bytes than its size
pub own-short : (b : Body) (S : Symbols) (v : ℤ) → length (bytes_in_code (own_bytes b S)) ≤ own_size b v
unfolding own_bytes
own-short (db es) S v = bytes-short es S
own-short (dw es) S v = words-short es S
own-short (da bytes) S v = omega arith
own-short (code form operands) S v = word-short (word_of_form form operands S)
own-short _ S v = omega arith

-- a line has no more bytes than it has room for
length-short : (b : Body) (v : ℤ) → own_length b ≤ own_size b v
length-short (db es) v = omega arith
length-short (dw es) v = omega arith
length-short (da bytes) v = omega arith
length-short (code form operands) v = omega arith
length-short _ v = omega arith

pub code-short : (line : Reading) (v : ℤ) → code_length line ≤ own_size (body_of line) v
code-short (bad f) v = omega arith
code-short (read label body) v = length-short body v

-- The lines of a source by their places: the lines follow one another, and each has its bytes in
-- the image and its fault.

-- the lines before a place end at or before the address after them
pub ends-before : (lines : List Reading) (first j : ℕ) (x : Placed) → j < first → slice_get (reverse (placed lines)) j ≡ Some x → x.here + x.size ≤ address (placed (take first lines))
ends-before lines first j x less at =
    let inside : j < length lines = omega (arith, slice_get_within (reverse (placed lines)) j x at, length-numbered lines) in
    ends-by (take first lines) j x
    (same-placed (take first lines) lines (j + 1) j (take-take (j + 1) first lines (omega arith)) (omega (arith, length-take first lines)) (omega arith) (omega arith) ∙ at)

-- the line that covers an address

find-one : (c : Placed → Bool) (xs : List Placed) (i : ℕ) (p : Placed) → i < length xs → get_or xs i p ≡ p → c p ≡ true → length (filter c xs) ≤ 1 → find c xs ≡ Some p
find-one c [] i p h e t few = absurd (omega arith)
find-one c (x ∷ xs) zero p h e t few = let now : c x ≡ true = ap c e ∙ t in rw now (ap Some e)
find-one c (x ∷ xs) (suc i) p h e t few = by (c x) few (find-one c xs i p (omega arith) e t)
  where
    by : (b : Bool) → length (cond b (x ∷ filter c xs) (filter c xs)) ≤ 1 → (length (filter c xs) ≤ 1 → find c xs ≡ Some p) → cond b (Some x) (find c xs) ≡ Some p
    by true few later = absurd (omega (arith, length-filter c xs, get_or-le-sum_by (λ y. cond (c y) 1 0) xs i p (omega arith), ap {B = ℕ} (λ b. cond b 1 0) (ap c e ∙ t)))
    by false few later = later few

found-line : (lines : List Reading) (n : ℕ) (x : Placed) → slice_get (reverse (placed lines)) n ≡ Some x → (address : ℕ) → covers address x ≡ true → find (covers address) (placed lines) ≡ Some x
found-line lines n x at address c =
    let t = turned-back (placed lines) n x at in
    find-one (covers address) (placed lines) (length (placed lines) - 1 - n) x (slice_get_within (placed lines) _ x t) (get_or_from_slice_get (placed lines) _ x x t) c (one-covers lines address)

-- no other line covers the address
pub apart : (lines : List Reading) (i j : ℕ) (x y : Placed) → (i ≡ j → ⊥) → slice_get (reverse (placed lines)) i ≡ Some x → slice_get (reverse (placed lines)) j ≡ Some y → (address : ℕ) → covers address x ≡ true
    → covers address y ≡ false
apart lines i j x y other first second address c = false_from_ne_true (covers address y) (λ d.
    (let same : x ≡ y = same_Some x y (sym (found-line lines i x first address c) ∙ found-line lines j y second address d) in
    other (omega (arith, number-at lines i x first, number-at lines j y second, ap (λ (p : Placed). p.number) same))))

-- an address that no line covers contains a zero
pub byte-outside : (lines : List Reading) (address : ℕ) → ((n : ℕ) (x : Placed) → slice_get (reverse (placed lines)) n ≡ Some x → covers address x ≡ false) → byte_at (placed lines) address ≡ 0
unfolding byte_at
byte-outside lines address none =
    let all : List Placed = placed lines in
    let d : Placed = place [] (bad UnclosedIf) in
    let first : ℕ = position_or_len (covers address) all in
    let past : length all ≤ first = elim (cases_lt first (length all)) [
      | inl h ↦
          (let back : ℕ = length all - 1 - first in
          let again : length all - 1 - back ≡ first = omega arith in
          let at : slice_get (reverse all) back ≡ Some (get_or all first d)
          = slice_get-get_or (reverse all) back d (omega (arith, length-reverse all)) ∙ ap Some (get_or-reverse all back d (omega arith) ∙ ap (λ k. get_or all k d) again) in
          absurd (false≢true (sym (none back (get_or all first d) at) ∙ passes_at_first (covers address) all d h)))
      | inr h ↦ h
    ] in
    ap (λ o. option_map_or (λ p. get_or (bytes_in_code (code_under all p)) (address - p.here) 0) o 0) (find_at (covers address) all ∙ slice_get_past all first past)

-- lines that are laid out

-- the line at a place, and its placement in the layout
pub record AtPlace (lines : List Reading) (n : ℕ) (q : Found) : Type 0 where
  pub x : Placed
  pub at : slice_get (reverse (placed lines)) n ≡ Some x
  pub placement : q ≡ final_placement (placed lines) x
  pub line : slice_get lines n ≡ Some x.line
  pub follows : x ≡ place (placed (take n lines)) x.line
  pub within : IsWithinMemory x

pub follows-at : (lines : List Reading) (n : ℕ) (x : Placed) → slice_get (reverse (placed lines)) n ≡ Some x → (slice_get lines n ≡ Some x.line) × (x ≡ place (placed (take n lines)) x.line)
follows-at lines n x at =
    let inside : n < length lines = omega (arith, slice_get_within (reverse (placed lines)) n x at, length-numbered lines) in
    let line : Reading = get_or lines n x.line in
    let is : x ≡ place (placed (take n lines)) line = sym (get_or_from_slice_get (reverse (placed lines)) n x x at) ∙ next-placed lines n line x inside (get_or_default lines n line x.line inside) in
    let same : line ≡ x.line = sym (line-at (placed (take n lines)) line) ∙ ap (λ (p : Placed). p.line) (sym is) in
    (slice_get-get_or lines n x.line inside ∙ ap Some same, is ∙ ap (place (placed (take n lines))) same)

abbrev pub at-line : (lines : List Reading) (n : ℕ) (x : Placed) → slice_get (reverse (placed lines)) n ≡ Some x → AtPlace lines n (final_placement (placed lines) x)
at-line lines n x at = record {
  x = x;
  at = at;
  placement = refl;
  line = (follows-at lines n x at).0;
  follows = (follows-at lines n x at).1;
  within = subst IsWithinMemory (get_or_from_slice_get (reverse (placed lines)) n x x at) (within-memory lines n x (slice_get_within (reverse (placed lines)) n x at));
}

pub at-place-of : (lines : List Reading) (n : ℕ) (q : Found) → slice_get (placements_of lines) n ≡ Some q → AtPlace lines n q
unfolding placements_of
at-place-of lines n q there = by (slice_get (reverse (placed lines)) n) refl (sym (slice_get-map (final_placement (placed lines)) (reverse (placed lines)) n) ∙ there)
  where
    by : (o : Option Placed) → slice_get (reverse (placed lines)) n ≡ o → option_map (final_placement (placed lines)) o ≡ Some q → AtPlace lines n q
    by None at e = cc
    by (Some x) at e = subst (AtPlace lines n) (same_Some (final_placement (placed lines) x) q e) (at-line lines n x at)

pub found-there : (lines : List Reading) (layout : Layout) → IsLayoutOf layout lines → (n : ℕ) (q : Placement) → slice_get layout.placements.items n ≡ Some q → slice_get (placements_of lines) n ≡ Some (found q)
found-there lines layout laid n q there = ap (λ ps. slice_get ps n) (sym laid.placements) ∙ slice_get-map found layout.placements.items n ∙ ap (option_map found) there

pub at-place : (lines : List Reading) (layout : Layout) → IsLayoutOf layout lines → (n : ℕ) (q : Placement) → slice_get layout.placements.items n ≡ Some q → AtPlace lines n (found q)
at-place lines layout laid n q there = at-place-of lines n (found q) (found-there lines layout laid n q there)

-- the line has the address after the lines before it
pub here-at : (lines : List Reading) (n : ℕ) (q : Found) → AtPlace lines n q → q.here ≡ address (placed (take n lines))
here-at lines n q a = ap (λ (f : Found). f.here) a.placement ∙ ap (λ (x : Placed). x.here) a.follows ∙ (parts (placed (take n lines)) a.x.line).here

abbrev pub covered_by : Found → ℕ → Bool
covered_by q address = leb q.here address && ltb address (q.here + q.size)

-- the byte of a line at an address that it covers
pub byte-line : (lines : List Reading) (n : ℕ) (q : Found) (a : AtPlace lines n q) (address : ℕ) → covered_by q address ≡ true
    → byte_at (placed lines) address ≡ get_or (bytes_in_code (code_under (placed lines) a.x)) (address - q.here) 0
unfolding byte_at
byte-line lines n q a address c =
    ap (λ o. option_map_or (λ p. get_or (bytes_in_code (code_under (placed lines) p)) (address - p.here) 0) o 0)
    (found-line lines n a.x a.at address (ap (λ (p : Found). covered_by p address) (sym a.placement) ∙ c))
    ∙ ap (λ (p : Found). get_or (bytes_in_code (code_under (placed lines) a.x)) (address - p.here) 0) (sym a.placement)

-- an address that no line covers contains a zero
pub byte-nowhere : (lines : List Reading) (address : ℕ) → ((n : ℕ) (q : Found) → slice_get (placements_of lines) n ≡ Some q → covered_by q address ≡ false) → byte_at (placed lines) address ≡ 0
unfolding placements_of
byte-nowhere lines address none =
    byte-outside lines address (λ n x at. none n (final_placement (placed lines) x)
    (slice_get-map (final_placement (placed lines)) (reverse (placed lines)) n ∙ ap (option_map (final_placement (placed lines))) at))

-- each line is in the memory
pub low : (lines : List Reading) (n : ℕ) (q : Found) → AtPlace lines n q → IMAGE_START ≤ q.here
low lines n q a = rw a.placement a.within.0

pub high : (lines : List Reading) (n : ℕ) (q : Found) → AtPlace lines n q → q.here + q.size ≤ MEMORY_BYTES
high lines n q a = rw a.placement a.within.1

-- the first pass determines whether a line is accepted
pub accepted-at : (lines : List Reading) (n : ℕ) (q : Found) → AtPlace lines n q → is_accepted_at lines n ≡ is_accepted_found q
accepted-at lines n q a = ap (λ o. option_map_or (is_accepted_in (placed lines)) o false) a.at ∙ ap is_accepted_found (sym a.placement)

-- a line that isn't accepted has no room

if-room : (aligning : Bool) (here : ℕ) (body : Body) (value : ℤ) → is_if_body body ≡ true → full_size aligning here body value ≡ 0
if-room true here (ifdef n) value h = refl
if-room false here (ifdef n) value h = refl
if-room true here (ifund n) value h = refl
if-room false here (ifund n) value h = refl
if-room aligning here body value h = cc

-- an IF without ENDIF is an active IF line
pub unclosed-parts : (all : List Placed) (x : Placed) → is_unclosed all x ≡ true → (is_if x ≡ true) × (x.active ≡ true)
unclosed-parts all x h = and_parts (is_if x) x.active (and_parts _ _ (and_parts _ _ h).0).0

refused-size : (lines : List Reading) (n : ℕ) (q : Found) (a : AtPlace lines n q) → is_accepted_found q ≡ false → a.x.size ≡ 0
refused-size lines n q a refused = by (is_unclosed (placed lines) a.x) refl (ap is_accepted_found (sym a.placement) ∙ refused)
  where
    p : Parts (placed (take n lines)) a.x.line
    p = parts (placed (take n lines)) a.x.line

    by : (u : Bool) → is_unclosed (placed lines) a.x ≡ u → (a.x.active && is_none (cond u (Some UnclosedIf) a.x.fault)) ≡ false → a.x.size ≡ 0
    by false unclosed_is h = a.within.2 h
    by true unclosed_is h =
        ap (λ (y : Placed). y.size) a.follows ∙ p.size
        ∙ cond_both (takes_effect (place (placed (take n lines)) a.x.line)) _ 0 (λ s. s ≡ 0) (λ e. if-room _ _ (body_of a.x.line) _ (unclosed-parts (placed lines) a.x unclosed_is).0) (λ e. refl)

-- a line that covers an address is accepted
pub covers-accepted : (lines : List Reading) (n : ℕ) (q : Found) (a : AtPlace lines n q) (address : ℕ) → covered_by q address ≡ true → is_accepted_found q ≡ true
covers-accepted lines n q a address c = true_from_ne_false (is_accepted_found q) (λ refused.
    (let both = covered-parts q.here q.size address c in
    omega (arith, both.0, both.1, refused-size lines n q a refused, ap (λ (p : Found). p.size) a.placement)))

-- the fault of an accepted line is the fault of its code, and the fault of any other line is the
-- fault of the first pass
pub line-fault : (lines : List Reading) (n : ℕ) (q : Found) (a : AtPlace lines n q) → fault_of (placed lines) a.x ≡ cond (is_accepted_found q) (fault_in_code (code_under (placed lines) a.x)) q.fault
line-fault lines n q a =
    by a.x.active (first_pass_fault (placed lines) a.x) (fault_in_code (code_under (placed lines) a.x)) none
    ∙ ap (λ (p : Found). cond (is_accepted_found p) (fault_in_code (code_under (placed lines) a.x)) p.fault) (sym a.placement)
  where
    by : (active : Bool) (fault coded : Option Fault) → (active ≡ false → fault ≡ None) → cond active (cond (is_some fault) fault coded) None ≡ cond (active && is_none fault) coded fault
    by true None coded h = refl
    by true (Some f) coded h = refl
    by false fault coded h = sym (h refl)

    none : a.x.active ≡ false → first_pass_fault (placed lines) a.x ≡ None
    none dead =
        let closed : is_unclosed (placed lines) a.x ≡ false = false_from_ne_true (is_unclosed (placed lines) a.x) (λ u. false≢true (sym dead ∙ (unclosed-parts (placed lines) a.x u).1)) in
        let before : List Placed = placed (take n lines) in
        rw closed (subst (λ (y : Placed). y.active ≡ false → y.fault ≡ None) (sym a.follows) (λ e. (parts before a.x.line).fault ∙ (rw e refl)) dead)

pub refused-fault : (lines : List Reading) (n : ℕ) (q : Found) (a : AtPlace lines n q) → is_accepted_found q ≡ false → q.fault ≡ fault_of (placed lines) a.x
refused-fault lines n q a refused = sym (line-fault lines n q a ∙ (rw refused refl))

pub accepted-fault : (lines : List Reading) (n : ℕ) (q : Found) (a : AtPlace lines n q) → is_accepted_found q ≡ true → fault_of (placed lines) a.x ≡ fault_in_code (code_under (placed lines) a.x)
accepted-fault lines n q a accepted = line-fault lines n q a ∙ (rw accepted refl)

-- an accepted line has room for its bytes

pub accepted-effect : (all : List Placed) (x : Placed) → is_accepted_found (final_placement all x) ≡ true → takes_effect x ≡ true
accepted-effect all x accepted = by (is_unclosed all x) accepted
  where
    by : (u : Bool) → (x.active && is_none (cond u (Some UnclosedIf) x.fault)) ≡ true → takes_effect x ≡ true
    by true h = absurd (false≢true (and_parts x.active false h).1)
    by false h = h

pub size-there : (lines : List Reading) (n : ℕ) (q : Found) (a : AtPlace lines n q) → is_accepted_found q ≡ true
    → q.size ≡ full_size (is_aligning (placed (take n lines))) (place (placed (take n lines)) a.x.line).here (body_of a.x.line) (place (placed (take n lines)) a.x.line).value
size-there lines n q a accepted =
    let effect : takes_effect (place (placed (take n lines)) a.x.line) ≡ true = ap takes_effect (sym a.follows) ∙ accepted-effect (placed lines) a.x (ap is_accepted_found (sym a.placement) ∙ accepted) in
    ap (λ (p : Found). p.size) a.placement ∙ ap (λ (p : Placed). p.size) a.follows ∙ (parts (placed (take n lines)) a.x.line).size ∙ (rw effect refl)

own-room : (lines : List Reading) (n : ℕ) (q : Found) (a : AtPlace lines n q) → is_accepted_found q ≡ true → own_size (body_of a.x.line) (place (placed (take n lines)) a.x.line).value ≤ q.size
own-room lines n q a accepted = omega (arith, size-there lines n q a accepted)

pub bytes-fit : (lines : List Reading) (n : ℕ) (q : Found) (a : AtPlace lines n q) → is_accepted_found q ≡ true → length (bytes_in_code (code_under (placed lines) a.x)) ≤ q.size
bytes-fit lines n q a accepted = omega (arith, own-room lines n q a accepted, own-short (body_of a.x.line) (values_of (symbols (placed lines))) (place (placed (take n lines)) a.x.line).value)

pub code-fits : (lines : List Reading) (n : ℕ) (q : Found) (a : AtPlace lines n q) → is_accepted_found q ≡ true → code_length a.x.line ≤ q.size
code-fits lines n q a accepted = omega (arith, own-room lines n q a accepted, code-short a.x.line (place (placed (take n lines)) a.x.line).value)

-- The results of the passes for a stored line, by its place.

pub found-at : (layout : Layout) (lines : List Reading) → IsLayoutOf layout lines → (at : ℕ) (q : Placement) → at < length lines → q ≡ get_or layout.placements.items at q → AtPlace lines at (found q)
found-at layout lines laid at q inside is =
    at-place lines layout laid at q (slice_get-get_or layout.placements.items at q (omega (arith, inside, length-laid layout lines laid)) ∙ ap Some (sym is))

never-pending : (fault : Option Fault) → status_coded fault ≡ Pending → ⊥
never-pending None e = cc
never-pending (Some f) e = cc

-- no line that is laid out waits for its code
pub none-pending : (lines : List Reading) (layout : Layout) → IsLayoutOf layout lines → (n : ℕ) (q : Placement) → slice_get layout.placements.items n ≡ Some q → q.status ≡ Pending → ⊥
none-pending lines layout laid n q there waits =
    let a : AtPlace lines n (found q) = at-place lines layout laid n q there in
    never-pending (fault_in_code (code_under (placed lines) a.x)) (sym (laid.codes n a.x q a.at there (ap is_accepted_found (sym a.placement) ∙ ap is_accepted waits)) ∙ waits)

-- The notes about lines: their layout, the count of their faults, and the marks of open blocks.

-- The marks of the open blocks are the faults of IF lines without ENDIF.

list_any-blocks : (all : List Placed) (place : ℕ) (os : List Placed) → list_any (is_opened_at place) (map (block_of all) os) ≡ list_any (opens_at place) os
list_any-blocks all place [] = refl
list_any-blocks all place (o ∷ os) = ap (λ b. opens_at place o || b) (list_any-blocks all place os)

by_mark : (u : Bool) (all : List Placed) (p : Placed) (q : Placement) → is_unclosed all p ≡ u → found q ≡ placement_of p → found (if u then unclosed q else q) ≡ final_placement all p
by_mark true all p q e is = ap (λ (f : Found). record f { fault = Some UnclosedIf; active = true }) is ∙ (let active = (unclosed-parts all p e).1 in rw (e, active) refl)
by_mark false all p q e is = rw e is

-- a line is marked if and only if its block is open at the end
pub is-marked : (lines : List Reading) (i : ℕ) (p : Placed) (ended : Bool) (blocks : List Block) → slice_get (reverse (placed lines)) i ≡ Some p → ended ≡ has_ended (placed lines)
    → blocks ≡ reverse (map (block_of (placed lines)) (enclosing (placed lines))) → (not ended && list_any (is_opened_at i) blocks) ≡ is_unclosed (placed lines) p
is-marked lines i p ended blocks there e b =
    let all = placed lines in
    let found : list_any (is_opened_at i) blocks ≡ list_any (opens_at i) (enclosing all)
    = ap (list_any (is_opened_at i)) b ∙ sym (list_any-IsPermutation (is_opened_at i) (map (block_of all) (enclosing all)) _ (IsPermutation-reverse _)) ∙ list_any-blocks all i (enclosing all) in
    rw (found, e) (open-at lines i p there)

marked-final : (lines : List Reading) (i : ℕ) (p : Placed) (q : Placement) (ended : Bool) (blocks : List Block) → slice_get (reverse (placed lines)) i ≡ Some p → ended ≡ has_ended (placed lines)
    → blocks ≡ reverse (map (block_of (placed lines)) (enclosing (placed lines))) → found q ≡ placement_of p → found (marked ended blocks i q) ≡ final_placement (placed lines) p
marked-final lines i p q ended blocks there e b is =
    rw (is-marked lines i p ended blocks there e b) (by_mark (is_unclosed (placed lines) p) (placed lines) p q refl is)

pub marked-placements : (lines : List Reading) (ended : Bool) (blocks : List Block) (old now : List Placement) → ended ≡ has_ended (placed lines) → blocks ≡ reverse (map (block_of (placed lines)) (enclosing (placed lines)))
    → length now ≡ length old → map found old ≡ first_placements lines → AreMarked ended blocks old now → map found now ≡ placements_of lines
unfolding first_placements placements_of
marked-placements lines ended blocks old now e b long first each =
    same_lists (map found now) (map (final_placement (placed lines)) ps) (many ∙ sym (length-map ps (final_placement (placed lines)))) (λ i other lt. (let inside : i < length ps = omega (arith, lt, many) in by i other inside (slice_get ps i) refl))
  where
    ps : List Placed
    ps = reverse (placed lines)

    many_old : length old ≡ length ps
    many_old = sym (length-map old found) ∙ ap length first ∙ length-map ps placement_of

    many : length (map found now) ≡ length ps
    many = length-map now found ∙ long ∙ many_old

    by : (i : ℕ) (other : Found) → i < length ps → (o : Option Placed) → slice_get ps i ≡ o → get_or (map found now) i other ≡ get_or (map (final_placement (placed lines)) ps) i other
    by i other inside None there = absurd (omega (arith, inside, past-end ps i there))
    by i other inside (Some p) there =
        let q : Placement = get_or old i nothing in
        let was : found q ≡ placement_of p
        = sym (get_or-map found old i nothing other (omega (arith, inside, many_old))) ∙ ap (λ fs. get_or fs i other) first
        ∙ get_or-map placement_of ps i p other inside ∙ ap placement_of (get_or_from_slice_get ps i p p there) in
        get_or-map found now i nothing other (omega (arith, inside, long, many_old)) ∙ ap found (each i nothing (omega (arith, inside, many_old)))
        ∙ marked-final lines i p q ended blocks there e b was
        ∙ sym (get_or-map (final_placement (placed lines)) ps i p other inside ∙ ap (final_placement (placed lines)) (get_or_from_slice_get ps i p p there))

-- each block was opened by one of the lines
among-here : (lines : List Reading) (j : ℕ) (o : Placed) → Encloses (reverse (placed lines)) j o → is_among (length lines) (block_of (placed lines) o) ≡ true
among-here lines j o e =
    let numbered : o.number ≡ j + 1 = number-at lines j o e.there in
    let within : j < length (reverse (placed lines)) = slice_get_within (reverse (placed lines)) j o e.there in
    let fits : o.number ≤ length lines = omega (arith, length-numbered lines) in
    rw (lt-ltb 0 o.number (omega arith), le-leb o.number (length lines) fits) refl

pub all-among : (lines : List Reading) (blocks : List Block) → blocks ≡ reverse (map (block_of (placed lines)) (enclosing (placed lines))) → list_all (is_among (length lines)) blocks ≡ true
all-among lines blocks e =
    ap (list_all (is_among (length lines))) e ∙ list_all-reverse (is_among (length lines)) (map (block_of (placed lines)) (enclosing (placed lines)))
    ∙ list_all-map (is_among (length lines)) (block_of (placed lines)) (enclosing (placed lines)) ∙ enclosing-all (λ o. is_among (length lines) (block_of (placed lines) o)) (placed lines) (among-here lines)

-- The layout of a list of lines, one line after another.

pub placements-push : (lines : List Reading) (line : Reading) → first_placements (lines ++ line ∷ []) ≡ first_placements lines ++ placement_of (place (placed lines) line) ∷ []
unfolding first_placements
placements-push lines line =
    rw (placed-push, reverse-cons, map-append) refl

-- the result for one more line
pub one-more : (all : List Placement) (lines : List Reading) (line : Reading) (at : ℕ) (q : Placement) → take (length lines) (map found all) ≡ first_placements lines → at ≡ length lines → at < length all
    → found q ≡ placement_of (place (placed lines) line) → take (length (lines ++ line ∷ [])) (map found (set all at q)) ≡ first_placements (lines ++ line ∷ [])
one-more all lines line at q so_far here inside e =
    ap (λ n. take n (map found (set all at q))) (length-append lines (line ∷ []) ∙ ap (λ n. n + 1) (sym here)) ∙ take-map found (at + 1) (set all at q) ∙ ap (map found) (take_more_set all at q inside)
    ∙ map-append found (take at all) (q ∷ []) ∙ ap (λ qs. qs ++ found q ∷ []) (sym (take-map found at all) ∙ ap (λ n. take n (map found all)) here ∙ so_far)
    ∙ ap (λ p. first_placements lines ++ p ∷ []) e ∙ sym (placements-push lines line)

pub take-next : (xs : List Reading) (i : ℕ) (x : Reading) → i < length xs → slice_get xs i ≡ Some x → take (i + 1) xs ≡ take i xs ++ x ∷ []
take-next xs i x h e = take_more xs i x h ∙ ap (λ y. take i xs ++ y ∷ []) (get_or_from_slice_get xs i x x e)

-- One item is replaced, and the count is updated over all lines.

-- one item is replaced

pub set-here : {X : Type 0} (xs : List X) (i : ℕ) (x : X) → i < length xs → slice_get (set xs i x) i ≡ Some x
set-here xs i x h = slice_get-get_or (set xs i x) i x (omega (arith, h, length-set xs i x)) ∙ ap Some (get_or-set_same xs i x x h)

pub set-other : {X : Type 0} (xs : List X) (i j : ℕ) (x : X) → (j ≡ i → ⊥) → slice_get (set xs i x) j ≡ slice_get xs j
set-other xs i j x other = grind (arith, gets, slice_get_cases, get_or-set_other, length-set)

-- the number of lines with a fault

pub one-fault : (q : Placement) → count_of q ≤ 1
one-fault q = by (is_none (fault_noted q.status))
  where
    by : (b : Bool) → (if b then 0 else 1) ≤ 1
    by true = omega arith
    by false = omega arith

pub count-few : (qs : List Placement) → sum_by count_of qs ≤ length qs
count-few [] = omega arith
count-few (q ∷ qs) = omega (arith, one-fault q, count-few qs, sum_by-cons count_of q qs)

-- the count if a line has another item
pub tally-set : (was : List Placement) (old new : Tally) (n : ℕ) (q d : Placement) → IsTally was old → n < length was → new.faults + count_of (get_or was n d) ≡ old.faults + count_of q
    → new.start ≤ old.start → old.end ≤ new.end → new.end ≤ length was → (q.status ≡ Pending → (new.start ≤ n) × (n < new.end)) → IsTally (set was n q) new
tally-set was old new n q d t inside counted start end within here = record {
  counted = omega (arith, counted, t.counted, sum_by-set count_of was n q d inside);
  low = λ j p there waits. (among j p there waits (cases_eq j n)).0;
  high = λ j p there waits. (among j p there waits (cases_eq j n)).1;
  within = omega (arith, within, length-set was n q);
}
  where
    among : (j : ℕ) (p : Placement) → slice_get (set was n q) j ≡ Some p → p.status ≡ Pending → (j ≡ n) ⊎ (j ≡ n → ⊥) → (new.start ≤ j) × (j < new.end)
    among j p there waits (inl same) =
        let is : q ≡ p = same_Some q p (sym (set-here was n q inside) ∙ ap (slice_get (set was n q)) (sym same) ∙ there) in
        rw same (here (ap (λ (r : Placement). r.status) is ∙ waits))
    among j p there waits (inr other) =
        let was_there = sym (set-other was n j q other) ∙ there in
        (omega (arith, start, t.low j p was_there waits), omega (arith, end, t.high j p was_there waits))

pub tally-same : (was : List Placement) (t : Tally) (n : ℕ) (q d : Placement) → IsTally was t → n < length was → (get_or was n d).status ≡ q.status → IsTally (set was n q) t
tally-same was t n q d tallied inside same =
    let there = slice_get-get_or was n d inside in
    tally-set was t t n q d tallied inside (ap (λ s. t.faults + (if is_none (fault_noted s) then 0 else 1)) same) (omega arith) (omega arith) tallied.within
    (λ waits. (tallied.low n (get_or was n d) there (same ∙ waits), tallied.high n (get_or was n d) there (same ∙ waits)))

-- The codes of lines, and how many lines are encoded.

-- an accepted line whose status becomes another accepted status
pub noted-found : (q : Placement) (status : Status) → is_accepted q.status ≡ true → is_accepted status ≡ true → found (record q { status = status }) ≡ found q
noted-found q status taken accepted =
    let old = and_parts (is_active_status q.status) (is_none (refusal q.status)) taken in
    let new = and_parts (is_active_status status) (is_none (refusal status)) accepted in
    rw (new.0, none_from (refusal status) new.1, old.0, none_from (refusal q.status) old.1) refl

-- the result of the first pass is the same, whatever the fault of the code
pub found-coded : (q : Placement) (fault : Option Fault) → is_accepted q.status ≡ true → found (record q { status = status_coded fault }) ≡ found q
found-coded q None accepted = noted-found q Done accepted refl
found-coded q (Some f) accepted = noted-found q (Uncoded f) accepted refl

-- the number of lines that are encoded

pub count_by-take : {X : Type 0} (p : X → Bool) (xs : List X) (i : ℕ) → count_by p (take i xs) ≤ count_by p xs
count_by-take p xs i = sum_by-take-le (λ x. cond (p x) 1 0) xs i

-- the count after one more line
pub count-numbered : (p : ℕ × Reading → Bool) (xs : List Reading) (i : ℕ) (x : Reading) → slice_get xs i ≡ Some x
    → count_by p (take (i + 1) (enumerate_from 0 xs)) ≡ count_by p (take i (enumerate_from 0 xs)) + cond (p (i, x)) 1 0
count-numbered p xs i x e =
    let h : i < length xs = slice_get_within xs i x e in
    let place : 0 + i ≡ i = omega arith in
    let at : get_or (enumerate_from 0 xs) i (i, x) ≡ (i, x) = get_or-enumerate_from 0 xs i (i, x) h ∙ (rw (place, get_or_from_slice_get xs i x x e) refl) in
    sum_by_more (λ a. cond (p a) 1 0) (enumerate_from 0 xs) i (i, x) (omega (arith, length-enumerate_from 0 xs)) ∙ ap (λ a. count_by p (take i (enumerate_from 0 xs)) + cond (p a) 1 0) at

-- a vector whose elements were written through a slice
pub refilled : {X : Type 0} (count : ℕ) (written old : List X) → length written ≡ count → take count (written ++ drop (length written) old) ≡ written
refilled count written old e =
    take-append-le count written (drop (length written) old) (omega arith) ∙ take_all count written (omega arith)
