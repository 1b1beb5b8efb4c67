-- The addresses of the lines for words, one after another, and the image of these lines.
use Rattle.std.proofs.Common.{◌≡◌, ℕ, suc, ◌+◌, ◌-◌, ◌<◌, ◌≤◌, ◌++◌, Bool, true, false, cond, nat_lt, List, [], ◌∷◌, length, map, reverse, None, Some, Ok, inl, inr, refl, sym, ap, ◌∙◌, arith}
use Rattle.std.proofs.lemmas.Bool.{cases_lt, le-leb, lt-leb}
use Rattle.std.proofs.lemmas.Grind.{same_number_lists}
use Rattle.std.proofs.lemmas.List.FromFn.{length-map-range_with_len, get_or-map-range_with_len}
use Rattle.std.proofs.lemmas.List.{get_or_append_left, get_or-append_right, length-append}
use Rattle.std.proofs.lemmas.List.Elements.{filter_map-append}
use Rattle.chip_asm.proofs.BlockSteps.{reverse-cons}
use Rattle.chip_asm.proofs.OpenBlocks.{enclosing-open, open_blocks}
use Rattle.chip_asm.proofs.Placing.{parts, line-at, address-cons, has_ended-cons, symbols-cons, aligning-cons}
use Rattle.chip_asm.proofs.QuietLines.{Plain}
use Rattle.std.specs.Prelude.{pos, slice_index, find, filter_map}
use Rattle.std.specs.List.{range_with_len}
use Rattle.std.specs.Option.{option_map_or}
use Rattle.chip_lang.specs.declared.fault.Fault.TheVariants.{PastMemory}
use Rattle.chip_lang.specs.declared.limits.TheConstants.{IMAGE_BYTES, IMAGE_START, MEMORY_BYTES}
use Rattle.chip_lang.specs.Line.{Body, Reading, read, align}
use Rattle.chip_lang.specs.Code.{own_bytes}
use Rattle.chip_symbols.specs.declared.table.Symbol.{Symbol}
use Rattle.chip_symbols.specs.Names.{Name, values_of}
use Rattle.chip_asm.specs.inner.Placements.{next_aligning}
use Rattle.chip_asm.specs.Layout.{Placed, body_of, is_if, is_if_body, is_end_body, is_endif_body, is_org_body, is_side_or_end, value_at, full_size, has_ended}
use Rattle.chip_asm.specs.computed.Walk.{symbols, is_active, address, is_aligning, fault_of_value, first_fault, place, placed}
use Rattle.chip_asm.specs.Program.{covers, byte_at, bytes_in_code, fault_in_code, numbered_fault, fault_of, unless_faulty, bytes_of_lines, image_of_lines}

-- ---- one more line

-- a statement with these bytes that is placed at the current address, whatever comes before the statement
pub record Steady (aligning after : Bool) (body : Body) (bytes : List ℕ) : Type 0 where
  pub no_if : is_if_body body ≡ false
  pub no_side : is_side_or_end body ≡ false
  pub no_endif : is_endif_body body ≡ false
  pub no_end : is_end_body body ≡ false
  pub no_origin : is_org_body body ≡ false
  pub next : next_aligning true aligning body ≡ after
  pub value : value_at [] body ≡ Ok (pos 0)
  pub fault : (before : List Placed)
      → first_fault before (read None body)
      ≡ cond (nat_lt MEMORY_BYTES (address before + full_size (is_aligning before) (address before) body (pos 0))) (Some PastMemory) None
  pub size : (here : ℕ) → full_size aligning here body (pos 0) ≡ length bytes
  pub code : own_bytes body (values_of []) ≡ Ok bytes

pub steady_plain : (aligning : Bool) (body : Body) (bytes : List ℕ) → Plain body → ((here : ℕ) → full_size aligning here body (pos 0) ≡ length bytes)
    → own_bytes body (values_of []) ≡ Ok bytes → Steady aligning aligning body bytes
steady_plain aligning body bytes plain size code =
    record {
      no_if = plain.no_if;
      no_side = rw (plain.no_else, plain.no_endif) refl;
      no_endif = plain.no_endif;
      no_end = plain.no_end;
      no_origin = plain.no_org;
      next = plain.no_align true aligning;
      value = plain.value [];
      fault = λ before. plain.first before None;
      size = size;
      code = code;
    }

pub steady_off : Steady true false (align false) []
unfolding value_at first_fault fault_of_value own_bytes
steady_off =
    record {
      no_if = refl;
      no_side = refl;
      no_endif = refl;
      no_end = refl;
      no_origin = refl;
      next = refl;
      value = refl;
      fault = λ before. refl;
      size = λ here. refl;
      code = refl;
    }

-- an active line without a fault, whose bytes need no names
record Good (p : Placed) : Type 0 where
  active : p.active ≡ true
  no_if : is_if p ≡ false
  no_fault : p.fault ≡ None
  code : fault_in_code (own_bytes (body_of p.line) (values_of [])) ≡ None

abbrev EachGood : List Placed → Type 0
EachGood [] = Unit {0}
EachGood (p ∷ all) = Good p × EachGood all

-- the byte at an address, in the line that covers the address, if there are no names
abbrev byte_in : List Placed → ℕ → ℕ
byte_in all at = option_map_or (λ (p : Placed). slice_index (bytes_in_code (own_bytes (body_of p.line) (values_of []))) (at - p.here)) (find (covers at) all) 0

-- lines that produce these bytes, leave no block open, contain no END and define no name
pub record Built (aligning : Bool) (all : List Placed) (bytes : List ℕ) : Type 0 where
  good : EachGood all
  closed : open_blocks all ≡ []
  going : has_ended all ≡ false
  names : symbols all ≡ []
  here : address all ≡ IMAGE_START + length bytes
  aligns : is_aligning all ≡ aligning
  byte : (i : ℕ) → i < length bytes → byte_in all (IMAGE_START + i) ≡ slice_index bytes i

pub nothing_built : Built true [] []
unfolding has_ended symbols address is_aligning
nothing_built = record { good = tt; closed = refl; going = refl; names = refl; here = refl; aligns = refl; byte = λ i lt. absurd (omega arith) }

module _ (aligning after : Bool) (all : List Placed) (bytes more : List ℕ) (body : Body) (line : Reading) (reads : line ≡ read None body)
    (built : Built aligning all bytes) (steady : Steady aligning after body more) (fits : length bytes + length more ≤ IMAGE_BYTES) where
  abbrev p : Placed
  p = place all line

  line_is : p.line ≡ read None body
  line_is = line-at all line ∙ reads

  active : p.active ≡ true
  unfolding is_active
  active = (parts all line).active ∙ rw (built.going, reads, steady.no_side, enclosing-open all, built.closed) refl

  here_is : p.here ≡ IMAGE_START + length bytes
  here_is = (parts all line).here ∙ built.here

  no_fault : p.fault ≡ None
  no_fault =
      (parts all line).fault
      ∙ rw (active, reads, steady.fault all, built.aligns, built.here, steady.size (IMAGE_START + length bytes))
      (rw (lt-leb (suc MEMORY_BYTES) (IMAGE_START + length bytes + length more) (omega arith)) refl)

  size_is : p.size ≡ length more
  size_is =
      (parts all line).size
      ∙ rw (active, no_fault, here_is, (parts all line).value, reads, built.names, steady.value, built.aligns) (steady.size (IMAGE_START + length bytes))

  -- the byte at an address that the line doesn't cover, and at one that it covers
  byte_before : (at : ℕ) → at < IMAGE_START + length bytes → byte_in (p ∷ all) at ≡ byte_in all at
  byte_before at low = rw (here_is, lt-leb (IMAGE_START + length bytes) at low) refl

  byte_inside : (i : ℕ) → length bytes ≤ i → i < length bytes + length more → byte_in (p ∷ all) (IMAGE_START + i) ≡ slice_index (bytes ++ more) i
  byte_inside i above below =
      let place_in : IMAGE_START + i - (IMAGE_START + length bytes) ≡ i - length bytes = omega arith in
      rw (here_is, size_is, le-leb (IMAGE_START + length bytes) (IMAGE_START + i) (omega arith), le-leb (suc (IMAGE_START + i)) (IMAGE_START + length bytes + length more) (omega arith))
      (rw (line_is, steady.code, place_in) (sym (get_or-append_right bytes more (length bytes) i 0 refl above)))

  pub built_next : Built after (p ∷ all) (bytes ++ more)
  built_next =
      record {
        good = (record { active = active; no_if = rw line_is steady.no_if; no_fault = no_fault; code = rw (line_is, steady.code) refl }, built.good);
        closed = rw (line_is, steady.no_if, steady.no_endif) built.closed;
        going = has_ended-cons p all ∙ rw (line_is, steady.no_end, active) built.going;
        names = symbols-cons p all ∙ rw (active, no_fault, line_is, built.names) refl;
        here = address-cons p all ∙ rw (active, no_fault, line_is, steady.no_origin, built.here, size_is) (omega (arith, length-append bytes more));
        aligns = aligning-cons p all ∙ rw (active, no_fault, line_is, built.aligns) steady.next;
        byte = λ i lt. elim (cases_lt i (length bytes)) [
          | inl below ↦ byte_before (IMAGE_START + i) (omega arith) ∙ built.byte i below ∙ sym (get_or_append_left bytes more 0 i below)
          | inr above ↦ byte_inside i above (rw (length-append bytes more) at lt)
        ];
      }

-- ---- the image

-- the lines have no faults
no_faults : (all sub : List Placed) → symbols all ≡ [] → EachGood sub → filter_map (numbered_fault all) (reverse sub) ≡ []
no_faults all [] names each = refl
no_faults all (p ∷ sub) names each =
    ap (filter_map (numbered_fault all)) (reverse-cons p sub)
    ∙ filter_map-append (numbered_fault all) (reverse sub) (p ∷ [])
    ∙ ap (λ front. front ++ filter_map (numbered_fault all) (p ∷ [])) (no_faults all sub names each.1)
    ∙ no_fault_at all p names each.0
  where
    no_fault_at : (all : List Placed) (p : Placed) → symbols all ≡ [] → Good p → filter_map (numbered_fault all) (p ∷ []) ≡ []
    no_fault_at all p names good =
        let none : fault_of all p ≡ None = rw (good.active, good.no_if, good.no_fault, names, good.code) refl in
        rw none refl

byte_is : (all : List Placed) (at : ℕ) → symbols all ≡ [] → byte_at all at ≡ byte_in all at
unfolding byte_at
byte_is all at names =
    ap (λ (given : List (Name × Symbol)). option_map_or (λ (p : Placed). slice_index (bytes_in_code (own_bytes (body_of p.line) (values_of given))) (at - p.here)) (find (covers at) all) 0) names

pub image_of_built : (aligning : Bool) (readings : List Reading) (bytes : List ℕ) → Built aligning (placed readings) bytes → image_of_lines readings ≡ Some bytes
image_of_built aligning readings bytes built =
    let all : List Placed = placed readings in
    let count : address all - IMAGE_START ≡ length bytes = omega (arith, built.here) in
    let whole : map (byte_at all) (range_with_len IMAGE_START (length bytes)) ≡ bytes =
    same_number_lists (map (byte_at all) (range_with_len IMAGE_START (length bytes))) bytes (length-map-range_with_len (byte_at all) IMAGE_START (length bytes))
    (λ i lt. let below : i < length bytes = rw (length-map-range_with_len (byte_at all) IMAGE_START (length bytes)) at lt in
    get_or-map-range_with_len (byte_at all) IMAGE_START (length bytes) i (IMAGE_START + i) 0 below refl ∙ byte_is all (IMAGE_START + i) built.names ∙ built.byte i below) in
    ap (λ faults. unless_faulty faults (bytes_of_lines all)) (no_faults all all built.names built.good)
    ∙ ap (λ n. Some (map (byte_at all) (range_with_len IMAGE_START n))) count ∙ ap (λ bs. Some bs) whole
