-- Lines about which the first pass needs only the size and the name.
use Rattle.std.proofs.Common.{◌≡◌, ℕ, suc, ◌+◌, ℤ, pos, Bool, true, false, cond, ◌&&◌, ◌||◌, nat_lt, List, [], ◌∷◌, ◌++◌, length, refl, ap, sym, ◌∙◌, Option, Some, None, option_map, option_to_list, Ok, if◌then◌else◌, unsigned_abs, ◌<◌, ◌≤◌, get_or, subst, reverse, IfSome}
use Rattle.std.specs.List.{list_all}
use Rattle.std.specs.Option.{option_map_or}
use Rattle.std.proofs.lemmas.Bool.{and_right, false≢true, le-ltb}
use Rattle.chip_lang.specs.declared.limits.TheConstants.{MEMORY_BYTES}
use Rattle.chip_lang.specs.declared.fault.Fault.TheVariants.{DefinedTwice, PastMemory}
use Rattle.chip_lang.specs.Line.{Body, empty, db, dw, da, code, else_line, endif, options, used, xref, Reading, bad, read}
use Rattle.chip_symbols.specs.Names.{Name, is_redefinition}
use Rattle.chip_symbols.specs.declared.table.Symbol.{Symbol}
use Rattle.chip_asm.specs.declared.block.Block.{Block}
use Rattle.chip_asm.specs.inner.Blocks.{moved}
use Rattle.chip_asm.specs.inner.Infos.{is_plain, is_plain_line, AreAlike, AreInfos, IsInfo, IsNumberOf, IsPlain}
use Rattle.chip_asm.specs.inner.Placements.{next_aligning, Follows, placement_of, Found}
use Rattle.chip_asm.specs.Layout.{Placed, body_of, is_if_body, is_else_body, is_endif_body, is_end_body, is_org_body, is_if, is_else, is_endif, takes_effect, is_origin, symbol_of, value_given, condition_of, value_at, full_size, has_ended, has_else, holds, first_of, symbol_given}
use Rattle.chip_asm.specs.computed.Walk.{place, first_fault, fault_of_value, is_misplaced, is_active, enclosing, symbols, address, is_aligning, placed}
use Rattle.chip_asm.proofs.OpenBlocks.{open_blocks, enclosing-open}
use Rattle.chip_asm.proofs.Placing.{address-cons, aligning-cons, has_ended-cons, symbols-cons}
use Rattle.chip_asm.specs.declared.pass.Pass.{Pass}
use Rattle.chip_symbols.specs.declared.table.NameId.{NameId}
use Rattle.chip_asm.specs.inner.KeptLine.{KeptLine}
use Rattle.chip_asm.specs.inner.Records.{reading_in}
use Rattle.chip_symbols.specs.Tables.{Tables, name_of, symbols_of}
use Rattle.chip_asm.proofs.BlockSteps.{active_here}
use Rattle.chip_asm.proofs.Resumed.{placement-at, follows-push}

-- A line that opens, turns and ends nothing can replace another such line.

-- statements

-- a plain statement opens, turns and closes no block, and has no value of its own. It doesn't move
-- the address, switch the padding or end the source, and it gives its name the value of an address
pub record Plain (b : Body) : Type 0 where
  pub no_if : is_if_body b ≡ false
  pub no_else : is_else_body b ≡ false
  pub no_endif : is_endif_body b ≡ false
  pub condition : (names : List (Name × Symbol)) → condition_of names b ≡ false
  pub value : (names : List (Name × Symbol)) → value_at names b ≡ Ok (pos 0)
  pub no_org : is_org_body b ≡ false
  pub no_end : is_end_body b ≡ false
  pub no_align : (accepted aligning : Bool) → next_aligning accepted aligning b ≡ aligning
  pub given : (here : ℕ) (value : ℤ) → value_given here value b ≡ pos here
  pub first : (before : List Placed) (label : Option Name) → first_fault before (read label b)
      ≡ cond (is_redefinition (symbols before) label) (Some DefinedTwice) (cond (nat_lt MEMORY_BYTES (address before + full_size (is_aligning before) (address before) b (pos 0))) (Some PastMemory) None)
  pub stays : (opened : Block) (nearest : List Block) → nearest ≡ moved b opened nearest

pub plain : (b : Body) → is_plain b ≡ true → Plain b
unfolding first_fault fault_of_value value_at
plain empty h = record { no_if = refl; no_else = refl; no_endif = refl; condition = λ names. refl; value = λ names. refl; no_org = refl; no_end = refl; no_align = λ a g. refl; given = λ n v. refl; first = λ before label. refl; stays = λ opened nearest. refl }
plain options h = record { no_if = refl; no_else = refl; no_endif = refl; condition = λ names. refl; value = λ names. refl; no_org = refl; no_end = refl; no_align = λ a g. refl; given = λ n v. refl; first = λ before label. refl; stays = λ opened nearest. refl }
plain used h = record { no_if = refl; no_else = refl; no_endif = refl; condition = λ names. refl; value = λ names. refl; no_org = refl; no_end = refl; no_align = λ a g. refl; given = λ n v. refl; first = λ before label. refl; stays = λ opened nearest. refl }
plain xref h = record { no_if = refl; no_else = refl; no_endif = refl; condition = λ names. refl; value = λ names. refl; no_org = refl; no_end = refl; no_align = λ a g. refl; given = λ n v. refl; first = λ before label. refl; stays = λ opened nearest. refl }
plain (db es) h = record { no_if = refl; no_else = refl; no_endif = refl; condition = λ names. refl; value = λ names. refl; no_org = refl; no_end = refl; no_align = λ a g. refl; given = λ n v. refl; first = λ before label. refl; stays = λ opened nearest. refl }
plain (dw es) h = record { no_if = refl; no_else = refl; no_endif = refl; condition = λ names. refl; value = λ names. refl; no_org = refl; no_end = refl; no_align = λ a g. refl; given = λ n v. refl; first = λ before label. refl; stays = λ opened nearest. refl }
plain (da bytes) h = record { no_if = refl; no_else = refl; no_endif = refl; condition = λ names. refl; value = λ names. refl; no_org = refl; no_end = refl; no_align = λ a g. refl; given = λ n v. refl; first = λ before label. refl; stays = λ opened nearest. refl }
plain (code f os) h = record { no_if = refl; no_else = refl; no_endif = refl; condition = λ names. refl; value = λ names. refl; no_org = refl; no_end = refl; no_align = λ a g. refl; given = λ n v. refl; first = λ before label. refl; stays = λ opened nearest. refl }
plain _ h = absurd (false≢true h)

-- lines

-- a placed line with another reading
abbrev pub with_line : Placed → Reading → Placed
with_line p line = record p { line = line }

active-plain : (before : List Placed) (a b : Body) → Plain a → Plain b → is_active before a ≡ is_active before b
unfolding is_active
active-plain before a b x y = rw (x.no_else, x.no_endif, y.no_else, y.no_endif) refl

full-same : (a : Bool) (here : ℕ) (old new : Reading) → AreAlike old new → full_size a here (body_of old) (pos 0) ≡ full_size a here (body_of new) (pos 0)
full-same a here old new s = rw (s.size, s.padded) refl

pub plain-line : (line : Reading) → is_plain_line line ≡ true → Plain (body_of line)
plain-line (bad f) h = absurd (false≢true h)
plain-line (read label b) h = plain b h

first-same : (before : List Placed) (old new : Reading) → AreAlike old new → first_fault before old ≡ first_fault before new
first-same before (bad f) new a = absurd (false≢true a.was_plain)
first-same before (read l b) (bad f) a = absurd (false≢true a.now_plain)
first-same before (read l b) (read m c) a =
    let name : l ≡ m = a.name in
    (plain b a.was_plain).first before l
    ∙ (rw (name, full-same (is_aligning before) (address before) (read l b) (read m c) a) (sym ((plain c a.now_plain).first before m)))

-- the new line has the address of the line that it replaces
pub place-swapped : (before : List Placed) (old new : Reading) → AreAlike old new → place before new ≡ with_line (place before old) new
unfolding place
place-swapped before old new e =
    let a = plain-line old e.was_plain in
    let b = plain-line new e.now_plain in
    rw (a.condition (symbols before), b.condition (symbols before), a.value (symbols before), b.value (symbols before), active-plain before (body_of old) (body_of new) a b, first-same before old new e, full-same (is_aligning before) (address before) old new e) refl

-- the parts that two lists of lines must share so that the same lines may follow
pub record Same (xs ys : List Placed) : Type 0 where
  pub count : length xs ≡ length ys
  pub names : symbols xs ≡ symbols ys
  pub open_ifs : enclosing xs ≡ enclosing ys
  pub at : address xs ≡ address ys
  pub aligned : is_aligning xs ≡ is_aligning ys
  pub ended : has_ended xs ≡ has_ended ys
  pub sides : (o : Placed) → has_else xs o ≡ has_else ys o

holds-same : (xs ys os : List Placed) → Same xs ys → list_all (holds xs) os ≡ list_all (holds ys) os
holds-same xs ys [] s = refl
holds-same xs ys (o ∷ os) s = rw (s.sides o, holds-same xs ys os s) refl

active-same : (xs ys : List Placed) (b : Body) → Same xs ys → is_active xs b ≡ is_active ys b
unfolding is_active
active-same xs ys b s = rw (s.ended, s.open_ifs, holds-same xs ys (enclosing ys) s) refl

misplaced-same : (xs ys : List Placed) (b : Body) → Same xs ys → is_misplaced xs b ≡ is_misplaced ys b
misplaced-same xs ys else_line s = ap (λ os. option_map_or (has_else xs) (first_of os) true) s.open_ifs ∙ by (first_of (enclosing ys))
  where
    by : (o : Option Placed) → option_map_or (has_else xs) o true ≡ option_map_or (has_else ys) o true
    by None = refl
    by (Some o) = s.sides o
misplaced-same xs ys endif s = rw s.open_ifs refl
misplaced-same xs ys _ s = refl

first-after : (xs ys : List Placed) (line : Reading) → Same xs ys → first_fault xs line ≡ first_fault ys line
unfolding first_fault
first-after xs ys (bad f) s = refl
first-after xs ys (read label b) s = rw (misplaced-same xs ys b s, s.names, s.aligned, s.at) refl

pub place-same : (xs ys : List Placed) (line : Reading) → Same xs ys → place xs line ≡ place ys line
unfolding place
place-same xs ys line s =
    rw (active-same xs ys (body_of line) s, first-after xs ys line s, s.count, s.open_ifs, s.names, s.at, s.aligned) refl

open-same : (p : Placed) (xs ys : List Placed) → enclosing xs ≡ enclosing ys → enclosing (p ∷ xs) ≡ enclosing (p ∷ ys)
open-same p xs ys e =
    let rest : open_blocks xs ≡ open_blocks ys = sym (enclosing-open xs) ∙ e ∙ enclosing-open ys in
    enclosing-open (p ∷ xs) ∙ (rw rest refl) ∙ sym (enclosing-open (p ∷ ys))

side-same : (p o : Placed) (xs ys : List Placed) → has_else xs o ≡ has_else ys o → has_else (p ∷ xs) o ≡ has_else (p ∷ ys) o
unfolding has_else
side-same p o xs ys e = rw e refl

-- the two lists still share these parts when the same line follows both
pub same-cons : (p : Placed) (xs ys : List Placed) → Same xs ys → Same (p ∷ xs) (p ∷ ys)
same-cons p xs ys s = record {
  count = ap (λ n. suc n) s.count;
  names = symbols-cons p xs ∙ ap (λ l. l ++ option_to_list (symbol_of p)) s.names ∙ sym (symbols-cons p ys);
  open_ifs = open-same p xs ys s.open_ifs;
  at = address-cons p xs ∙ ap (λ n. cond (is_origin p) (unsigned_abs p.value) (n + p.size)) s.at ∙ sym (address-cons p ys);
  aligned = aligning-cons p xs ∙ ap (λ a. next_aligning (takes_effect p) a (body_of p.line)) s.aligned ∙ sym (aligning-cons p ys);
  ended = has_ended-cons p xs ∙ ap (λ e. (p.active && is_end_body (body_of p.line)) || e) s.ended ∙ sym (has_ended-cons p ys);
  sides = λ o. side-same p o xs ys (s.sides o);
}

-- a line that affects the next lines only by its name and its size
pub record Quiet (p : Placed) : Type 0 where
  pub no_if : is_if p ≡ false
  pub no_else : is_else p ≡ false
  pub no_endif : is_endif p ≡ false
  pub no_origin : is_origin p ≡ false
  pub no_end : (p.active && is_end_body (body_of p.line)) ≡ false
  pub no_align : (aligning : Bool) → next_aligning (takes_effect p) aligning (body_of p.line) ≡ aligning

quiet : (p : Placed) → is_plain_line p.line ≡ true → Quiet p
quiet p h =
    let q = plain-line p.line h in
    record {
      no_if = q.no_if;
      no_else = q.no_else;
      no_endif = q.no_endif;
      no_origin = and_right (takes_effect p) _ q.no_org;
      no_end = and_right p.active _ q.no_end;
      no_align = λ a. q.no_align (takes_effect p) a;
    }

pub quiet-old : (p : Placed) (new : Reading) → AreAlike p.line new → Quiet p
quiet-old p new e = quiet p e.was_plain

pub quiet-new : (p : Placed) (new : Reading) → AreAlike p.line new → Quiet (with_line p new)
quiet-new p new e = quiet (with_line p new) e.now_plain

symbol-same : (p : Placed) (new : Reading) → AreAlike p.line new → symbol_of p ≡ symbol_of (with_line p new)
symbol-same p new e =
    let old_value = (plain-line p.line e.was_plain).given p.here p.value in
    let new_value = (plain-line new e.now_plain).given p.here p.value in
    ap (λ s. cond (takes_effect p) s None) (rw (old_value, new_value, e.name) refl)

side-quiet : (p q : Placed) (before : List Placed) (o : Placed) → is_else p ≡ false → is_else q ≡ false → has_else (p ∷ before) o ≡ has_else (q ∷ before) o
unfolding has_else
side-quiet p q before o a b = rw (a, b) refl

quiet-same : (p q : Placed) (before : List Placed) → Quiet p → Quiet q → symbol_of p ≡ symbol_of q → p.size ≡ q.size → Same (p ∷ before) (q ∷ before)
quiet-same p q before a b names size = record {
  count = refl;
  names = symbols-cons p before ∙ ap (λ s. symbols before ++ option_to_list s) names ∙ sym (symbols-cons q before);
  open_ifs = enclosing-open (p ∷ before) ∙ (rw (a.no_if, a.no_endif, b.no_if, b.no_endif) refl) ∙ sym (enclosing-open (q ∷ before));
  at = address-cons p before ∙ (rw (a.no_origin, b.no_origin, size) refl) ∙ sym (address-cons q before);
  aligned = aligning-cons p before ∙ a.no_align (is_aligning before) ∙ sym (b.no_align (is_aligning before)) ∙ sym (aligning-cons q before);
  ended = has_ended-cons p before ∙ (rw (a.no_end, b.no_end) refl) ∙ sym (has_ended-cons q before);
  sides = λ o. side-quiet p q before o a.no_else b.no_else;
}

-- the same lines may follow two lines that are alike
pub same-swapped : (p : Placed) (new : Reading) (before : List Placed) → AreAlike p.line new → Same (p ∷ before) (with_line p new ∷ before)
same-swapped p new before e =
    quiet-same p (with_line p new) before (quiet-old p new e) (quiet-new p new e) (symbol-same p new e) refl

-- The result of the first pass for a line about which it needs only the size and the name.

-- there is a number if and only if there is a name
named-so : (keys : List Name) (defines : Option NameId) (name : Option Name) → IsNumberOf keys defines name → name_of keys defines ≡ name
named-so keys None name n = sym n
named-so keys (Some id) None n = absurd n
named-so keys (Some id) (Some name) n = ap Some n.named

given : (number here : ℕ) (value : ℤ) (body : Body) (name : Option Name) → Plain body → option_map (λ n. (n, record { value = pos here; line = number })) name ≡ symbol_given number here value (read name body)
given number here value body None p = refl
given number here value body (Some name) p = ap (λ v. Some (name, record { value = v; line = number })) (sym (p.given here value))

-- a line without a fault is passed, active or not
abbrev pub found-plain : ℕ → ℕ → Bool → Found
found-plain here size active = record { value = pos 0; here = here; size = size; fault = None; active = active }

pub passed-plain : (pass : Pass) (names : Tables) (lines : List Reading) (line : Reading) (at size : ℕ) (defines : Option NameId) (active : Bool) → pass.active ≡ active → Follows pass (placed lines) → at ≡ length lines
    → IsPlain pass.names.keys active pass.aligning pass.here line size defines → (fits : pass.here + size ≤ MEMORY_BYTES) → is_redefinition pass.names.symbols (name_of pass.names.keys defines) ≡ false
    → names.symbols ≡ pass.names.symbols ++ symbols_of pass.names.keys defines (record { value = pos pass.here; line = at + 1 })
    → (found-plain pass.here size active ≡ placement_of (place (placed lines) line)) × Follows (record pass { here = pass.here + size; within = fits; names = names }) (placed (lines ++ line ∷ []))
passed-plain pass names lines (bad fault) at size defines active same f is b fits new given_now = absurd (let never : false ≡ true = b.plain in cc)
passed-plain pass names lines (read name body) at size defines active same f is b fits new given_now = (
  found_now,
  follows-push pass (record pass { here = pass.here + size; within = fits; names = names }) lines line (at + 1) q (ap (λ n. n + 1) is) f found_now (record {
    at_address = ap (λ b. cond b (unsigned_abs (pos 0)) (pass.here + size)) (sym (and_right (q.active && true) _ e.no_org));
    aligning = sym (e.no_align (q.active && true) pass.aligning);
    ended = ap (λ b. b || pass.ended) (sym (and_right q.active _ e.no_end));
    names = given_now ∙ ap (λ s. pass.names.symbols ++ option_to_list s) (adds active b.named);
    open_blocks = λ nearest opened. opened ∙ ap reverse (e.stays _ nearest);
    active = λ nearest opened nested. f.active;
  }),
)
  where
    line : Reading
    line = read name body

    e : Plain body
    e = plain body b.plain

    before : List Placed
    before = placed lines

    q : Found
    q = found-plain pass.here size active

    adds : (active : Bool) → IsNumberOf pass.names.keys defines (if active then name else None)
        → option_map (λ n. (n, record { value = pos pass.here; line = at + 1 })) (name_of pass.names.keys defines) ≡ (if active && true then symbol_given (at + 1) pass.here (pos 0) line else None)
    adds true n = rw (named-so pass.names.keys defines name n) (given (at + 1) pass.here (pos 0) body name e)
    adds false n = rw (named-so pass.names.keys defines None n) refl

    faultless : (active : Bool) → IsNumberOf pass.names.keys defines (if active then name else None) → size ≡ (if active then full_size pass.aligning pass.here body (pos 0) else 0) → None ≡ (if active then first_fault before line else None)
    faultless false n s = refl
    faultless true n s =
        let once : is_redefinition (symbols before) name ≡ false = rw (← f.names, ← named-so pass.names.keys defines name n) new in
        let room : nat_lt MEMORY_BYTES (address before + full_size (is_aligning before) (address before) body (pos 0)) ≡ false = rw (← f.aligning, ← f.at_address, ← s) (le-ltb MEMORY_BYTES (pass.here + size) fits) in
        sym (e.first before name ∙ (rw (once, room) refl))

    sizes : (active : Bool) → size ≡ (if active then full_size pass.aligning pass.here body (pos 0) else 0) → size ≡ (if active && true then full_size (is_aligning before) pass.here body (pos 0) else 0)
    sizes true s = s ∙ ap (λ a. full_size a pass.here body (pos 0)) f.aligning
    sizes false s = s

    found_now : q ≡ placement_of (place before line)
    found_now =
        placement-at before line active pass.here None (pos 0) size (sym same ∙ active_here pass before body (rw (e.no_else, e.no_endif) refl) f) f.at_address (rw e.value refl) (faultless active b.named b.sized) (sizes active b.sized)

-- the facts stored about the line at a place
pub info-here : (keys : List Name) (lines : List KeptLine) (place : ℕ) (kept : KeptLine) → AreInfos keys lines → place < length lines → kept ≡ get_or lines place kept → IsInfo keys kept.info kept.several (reading_in kept)
info-here keys lines place kept infos inside is = subst (λ (k : KeptLine). IsInfo keys k.info k.several (reading_in k)) (sym is) (infos place kept inside)

pub number-within : (keys : List Name) (defines : Option NameId) (name : Option Name) → IsNumberOf keys defines name → IfSome defines (λ id. id.number < length keys)
number-within keys None name n = tt
number-within keys (Some id) None n = absurd n
number-within keys (Some id) (Some name) n = n.within
