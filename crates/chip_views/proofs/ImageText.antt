-- The source text that is built from an image opens, and its lines assemble to that image.
use Rattle.std.proofs.Common.{◌≡◌, ℕ, suc, ◌+◌, ◌*◌, ◌/◌, ◌%◌, ◌<◌, ◌≤◌, ◌&&◌, ◌++◌, Bool, true, false, List, [], ◌∷◌, length, map, None, Some, Result, Ok, Err, refl, sym, ap, subst, append_assoc, ◌∙◌, arith}
use Rattle.std.specs.Prelude.{pos, codes, nat_le, nat_lt, fold, slice_index, if◌then◌else◌}
use Rattle.std.specs.List.{list_all, position_or_len}
use Rattle.std.specs.Str.Lines.{lines}
use Rattle.std.proofs.lemmas.Bool.{and_parts, leb-true, le-leb, lt-leb}
use Rattle.std.proofs.lemmas.List.{append-nil, length-append}
use Rattle.std.proofs.lemmas.Slice.Eq.{bytes_eq-Decides}
use Rattle.chip_asm.specs.declared.limits.TheConstants.{LINE_BYTES, MOST_LINES}
use Rattle.chip_lang.specs.declared.limits.TheConstants.{IMAGE_BYTES}
use Rattle.chip_lang.specs.declared.fault.Fault.{Fault}
use Rattle.chip_lang.specs.Table.{Row}
use Rattle.chip_lang.specs.Operand.{Operand}
use Rattle.chip_lang.specs.Keyword.{directive_of}
use Rattle.chip_lang.specs.Token.{token_at}
use Rattle.chip_lang.specs.Value.{no_names}
use Rattle.chip_lang.specs.Tree.{number}
use Rattle.chip_lang.specs.Line.{Body, db, dw, code, align, Reading, read, reading_of}
use Rattle.chip_lang.specs.Code.{own_bytes, word_bytes}
use Rattle.chip_lang.specs.Show.{show_of, four_hex_digits, two_hex_digits}
use Rattle.chip_asm.specs.Lines.{is_long, fault_of_lines, open_fault}
use Rattle.chip_symbols.specs.Names.{values_of}
use Rattle.chip_asm.specs.Layout.{Placed}
use Rattle.chip_asm.specs.computed.Walk.{place, placed}
use Rattle.chip_asm.specs.Program.{image_of}
use Rattle.chip_views.specs.Dis.{is_visible, is_plain, is_word, gives_word, word_text, lines_of_image, source_of_image}
use Rattle.chip_views.proofs.DataLines.{good, word_line, byte_line}
use Rattle.chip_views.proofs.TextLines.{EachVisible, lines_of_text}
use Rattle.chip_asm.proofs.QuietLines.{plain}
use Rattle.chip_views.proofs.WordLayout.{Steady, Built, nothing_built, built_next, steady_plain, steady_off, image_of_built}

no_values : values_of [] ≡ no_names
unfolding values_of
no_values = refl

-- a line whose code is these two bytes, at every address
record WordLine (line : List ℕ) (high low : ℕ) : Type 0 where
  body : Body
  reads : reading_of line ≡ read None body
  steady : Steady true true body (high ∷ low ∷ [])
  seen : list_all is_visible line ≡ true
  short : length line ≤ LINE_BYTES

two_bytes : (high low : ℕ) → low < 256 → word_bytes (256 * high + low) ≡ high ∷ low ∷ []
two_bytes high low l =
    let a : (256 * high + low) / 256 ≡ high = omega arith in
    let b : (256 * high + low) % 256 ≡ low = omega arith in
    rw (a, b) refl

is_word_true : (w : ℕ) (r : Result (List ℕ) Fault) → is_word w r ≡ true → r ≡ Ok (word_bytes w)
is_word_true w (Ok bytes) h = ap (λ bs. Ok bs) ((bytes_eq-Decides bytes (word_bytes w)).0 h)
is_word_true w (Err fault) h = cc

record Given (w : ℕ) (r : Reading) : Type 0 where
  form : Row
  operands : List Operand
  is : r ≡ read None (code form operands)
  own : own_bytes (code form operands) no_names ≡ Ok (word_bytes w)

given : (w : ℕ) (r : Reading) → gives_word w r ≡ true → Given w r
given w (read None (code form operands)) h = record { form = form; operands = operands; is = refl; own = is_word_true w (own_bytes (code form operands) no_names) h }
given w _ h = cc

word_own : (w : ℕ) → w < 65536 → own_bytes (dw (number (pos w) ∷ [])) no_names ≡ Ok (word_bytes w)
unfolding own_bytes
word_own w lt = rw (le-leb (suc w) 65536 (omega arith)) refl

byte_own : (b : ℕ) → b < 256 → own_bytes (db (number (pos b) ∷ [])) no_names ≡ Ok (b ∷ [])
unfolding own_bytes
byte_own b lt = rw (le-leb (suc b) 256 (omega arith)) refl

-- the text of a word's instruction can be the line for that word
record Shown (w : ℕ) : Type 0 where
  plain : is_plain (show_of w) ≡ true
  gives : gives_word w (reading_of (show_of w)) ≡ true

line_shown : (high low : ℕ) → low < 256 → Shown (256 * high + low) → WordLine (show_of (256 * high + low)) high low
line_shown high low l shown =
    let w : ℕ = 256 * high + low in
    let g : Given w (reading_of (show_of w)) = given w (reading_of (show_of w)) shown.gives in
    let parts = and_parts (nat_le (length (show_of w)) LINE_BYTES) (list_all is_visible (show_of w)) shown.plain in
    let own : own_bytes (code g.form g.operands) (values_of []) ≡ Ok (high ∷ low ∷ []) =
    ap (own_bytes (code g.form g.operands)) no_values ∙ g.own ∙ ap (λ bs. Ok bs) (two_bytes high low l) in
    record {
      body = code g.form g.operands;
      reads = g.is;
      steady = steady_plain true (code g.form g.operands) (high ∷ low ∷ []) (plain (code g.form g.operands) refl) (λ _. refl) own;
      seen = parts.1;
      short = leb-true (length (show_of w)) LINE_BYTES parts.0;
    }

line_of_data : (high low : ℕ) → high < 256 → low < 256 → WordLine (codes "DW #" ++ four_hex_digits (256 * high + low)) high low
line_of_data high low h l =
    let w : ℕ = 256 * high + low in
    let own : own_bytes (dw (number (pos w) ∷ [])) (values_of []) ≡ Ok (high ∷ low ∷ []) =
    ap (own_bytes (dw (number (pos w) ∷ []))) no_values ∙ word_own w (omega arith) ∙ ap (λ bs. Ok bs) (two_bytes high low l) in
    record {
      body = dw (number (pos w) ∷ []);
      reads = word_line w (omega arith);
      steady = steady_plain true (dw (number (pos w) ∷ [])) (high ∷ low ∷ []) (plain (dw (number (pos w) ∷ [])) refl) (λ _. refl) own;
      seen = rw ((good (w / 4096 % 16) (omega arith)).visible, (good (w / 256 % 16) (omega arith)).visible, (good (w / 16 % 16) (omega arith)).visible, (good (w % 16) (omega arith)).visible) refl;
      short = omega arith;
    }

line_chosen : (high low : ℕ) → high < 256 → low < 256 → (a b : Bool) → is_plain (show_of (256 * high + low)) ≡ a → gives_word (256 * high + low) (reading_of (show_of (256 * high + low))) ≡ b →
    WordLine (if a && b then show_of (256 * high + low) else codes "DW #" ++ four_hex_digits (256 * high + low)) high low
line_chosen high low h l true true plain gives = line_shown high low l (record { plain = plain; gives = gives })
line_chosen high low h l true false plain gives = line_of_data high low h l
line_chosen high low h l false b plain gives = line_of_data high low h l

word_line_of : (high low : ℕ) → high < 256 → low < 256 → WordLine (word_text (256 * high + low)) high low
unfolding word_text
word_line_of high low h l = line_chosen high low h l _ _ refl refl

-- ---- all lines

align_off : reading_of (codes "ALIGN OFF") ≡ read None (align false)
unfolding reading_of token_at directive_of
align_off = refl

abbrev pub EachByte : List ℕ → Type 0
EachByte bytes = (k : ℕ) → slice_index bytes k < 256

-- the lines for an image, after other lines
record Laid (all : List Placed) (done image : List ℕ) : Type 0 where
  aligning : Bool
  built : Built aligning (fold (λ before line. place before line ∷ before) all (map reading_of (lines_of_image image))) (done ++ image)

laid : (image : List ℕ) (all : List Placed) (done : List ℕ) → EachByte image → Built true all done → length done + length image ≤ IMAGE_BYTES → Laid all done image
laid [] all done bytes built fits =
    record { aligning = true; built = subst (λ (bs : List ℕ). Built true all bs) (sym (append-nil done)) built }
laid (b ∷ []) all done bytes built fits =
    let off = reading_of (codes "ALIGN OFF") in
    let first : Built false (place all off ∷ all) (done ++ []) = built_next true false all done [] (align false) off align_off built steady_off (omega arith) in
    let first_done : Built false (place all off ∷ all) done = subst (λ (bs : List ℕ). Built false (place all off ∷ all) bs) (append-nil done) first in
    let body : Body = db (number (pos b) ∷ []) in
    let own : own_bytes body (values_of []) ≡ Ok (b ∷ []) = ap (own_bytes body) no_values ∙ byte_own b (bytes 0) in
    let steady : Steady false false body (b ∷ []) = steady_plain false body (b ∷ []) (plain body refl) (λ _. refl) own in
    record {
      aligning = false;
      built = built_next false false (place all off ∷ all) done (b ∷ []) body (reading_of (codes "DB #" ++ two_hex_digits b)) (byte_line b (bytes 0)) first_done steady fits;
    }
laid (high ∷ low ∷ rest) all done bytes built fits =
    let line = word_line_of high low (bytes 0) (bytes 1) in
    let text : List ℕ = word_text (256 * high + low) in
    let more : List ℕ = high ∷ low ∷ [] in
    let next : Built true (place all (reading_of text) ∷ all) (done ++ more) =
    built_next true true all done more line.body (reading_of text) line.reads built line.steady (omega arith) in
    let fits_rest : length (done ++ more) + length rest ≤ IMAGE_BYTES = rw (length-append done more) (omega arith) in
    let all_rest = laid rest (place all (reading_of text) ∷ all) (done ++ more) (λ k. bytes (suc (suc k))) next fits_rest in
    record {
      aligning = all_rest.aligning;
      built = subst (λ (bs : List ℕ). Built all_rest.aligning (fold (λ before line. place before line ∷ before) (place all (reading_of text) ∷ all) (map reading_of (lines_of_image rest))) bs) (append_assoc done more rest) all_rest.built;
    }

pub image_is : (image : List ℕ) → EachByte image → length image ≤ IMAGE_BYTES → image_of (lines_of_image image) ≡ Some image
unfolding image_of placed
image_is image bytes fits =
    let whole = laid image [] [] bytes nothing_built (omega (arith, fits)) in
    image_of_built whole.aligning (map reading_of (lines_of_image image)) image whole.built

-- ---- the text

lines_visible : (image : List ℕ) → EachByte image → EachVisible (lines_of_image image)
lines_visible [] bytes = tt
lines_visible (b ∷ []) bytes =
    let c = good (b / 16 % 16) (omega arith) in
    let d = good (b % 16) (omega arith) in
    (refl, (rw (c.visible, d.visible) refl, tt))
lines_visible (high ∷ low ∷ rest) bytes = ((word_line_of high low (bytes 0) (bytes 1)).seen, lines_visible rest (λ k. bytes (suc (suc k))))

pub lines_are : (image : List ℕ) → EachByte image → lines (source_of_image image) ≡ lines_of_image image
lines_are image bytes = lines_of_text (lines_of_image image) (lines_visible image bytes)

few_lines : (image : List ℕ) → 2 * length (lines_of_image image) ≤ length image + 3
few_lines [] = omega arith
few_lines (b ∷ []) = omega arith
few_lines (high ∷ low ∷ rest) = let more = few_lines rest in omega (arith, more)

no_long_line : (image : List ℕ) → EachByte image → position_or_len is_long (lines_of_image image) ≡ length (lines_of_image image)
no_long_line [] bytes = refl
no_long_line (b ∷ []) bytes = refl
no_long_line (high ∷ low ∷ rest) bytes =
    let short : is_long (word_text (256 * high + low)) ≡ false = lt-leb (suc LINE_BYTES) (length (word_text (256 * high + low))) (let s = (word_line_of high low (bytes 0) (bytes 1)).short in omega (arith, s)) in
    rw (short, no_long_line rest (λ k. bytes (suc (suc k)))) (omega arith)

pub image_of_text : (image : List ℕ) → EachByte image → length image ≤ IMAGE_BYTES → image_of (lines (source_of_image image)) ≡ Some image
image_of_text image bytes fits = ap image_of (lines_are image bytes) ∙ image_is image bytes fits

pub opens : (image : List ℕ) → EachByte image → length image ≤ IMAGE_BYTES → open_fault (source_of_image image) ≡ None
opens image bytes fits =
    let count = few_lines image in
    let few : nat_lt MOST_LINES (length (lines_of_image image)) ≡ false = lt-leb (suc MOST_LINES) (length (lines_of_image image)) (omega (arith, count, fits)) in
    let none : nat_lt (length (lines_of_image image)) (length (lines_of_image image)) ≡ false = lt-leb (suc (length (lines_of_image image))) (length (lines_of_image image)) (omega arith) in
    ap (λ ls. fault_of_lines (position_or_len is_long ls) (length ls)) (lines_are image bytes)
    ∙ ap (λ first. fault_of_lines first (length (lines_of_image image))) (no_long_line image bytes)
    ∙ rw (none, few) refl
