use Rattle.std.proofs.Common.{◌≡◌, ◌<◌, ◌-◌, ◌++◌, ◌∙◌, ◌==◌, ℕ, zero, suc, Bool, true, false, List, [], ◌∷◌, length, map, max, take, drop, nat_lt, refl, sym, ap, arith, append_assoc, length-append}
use Rattle.std.proofs.lemmas.Bool.Decides.{nat_tests}
use Rattle.std.proofs.lemmas.List.{append-nil, length-map}
use Rattle.std.specs.Str.Lossy.{utf8_valid_len}
use Rattle.chip_check.specs.Quoted.{shown_after, shown_byte, shown_bytes}
use Rattle.chip_check.proofs.quoted.shown_bytes.Goals as goal

-- a number of text bytes, and the bytes after them
text_shown : (text : ℕ) (bytes : List ℕ) → shown_after text bytes ≡ map (shown_byte true) (take text bytes) ++ shown_after 0 (drop text bytes)
text_shown zero bytes = refl
text_shown (suc text) [] = refl
text_shown (suc text) (b ∷ bytes) = ap (λ shown. shown_byte true b ∷ shown) (text_shown text bytes)

-- the first run of a line, and the bytes after it
run_from : (text run b : ℕ) (bytes : List ℕ) → run ≡ max text 1 →
    shown_byte (nat_lt 0 text) b ∷ shown_after (text - 1) bytes
    ≡ map (shown_byte (nat_lt 0 text)) (take run (b ∷ bytes)) ++ shown_after 0 (drop run (b ∷ bytes))
run_from zero run b bytes long =
    let one : run ≡ 1 = omega arith in
    rw one refl
run_from (suc text) run b bytes long =
    let same : run ≡ suc text = omega arith in
    let before : suc text - 1 ≡ text = omega arith in
    let some : nat_lt 0 (suc text) ≡ true = grind (arith, nat_tests) in
    rw (some, same, before) (ap (λ shown. shown_byte true b ∷ shown) (text_shown text bytes))

run_shown : (bytes : List ℕ) (text run : ℕ) → 0 < length bytes → text ≡ utf8_valid_len bytes → run ≡ max text 1 →
    shown_after 0 bytes ≡ map (shown_byte (nat_lt 0 text)) (take run bytes) ++ shown_after 0 (drop run bytes)
run_shown [] text run some is long = absurd (omega (arith, some))
run_shown (b ∷ bytes) text run some is long =
    ap (λ n. shown_byte (nat_lt 0 n) b ∷ shown_after (n - 1) bytes) (sym is) ∙ run_from text run b bytes long

some_left : (bytes : List ℕ) (none : Bool) → none ≡ (length bytes == 0) → none ≡ false → 0 < length bytes
some_left [] none is not = absurd (true_false (sym is ∙ not))
  where
    true_false : true ≡ false → ⊥
    true_false h = cc
some_left (b ∷ bytes) none is not = omega arith

none_left : (bytes : List ℕ) (none : Bool) → none ≡ (length bytes == 0) → none ≡ true → bytes ≡ []
none_left [] none is not = refl
none_left (b ∷ bytes) none is all = absurd (grind (arith, nat_tests, is, all))

pub loop-rest-preserved : goal.loop-rest-preserved
loop-rest-preserved c =
    let some = some_left c.loop-rest.rest.now c.is_empty.result c.is_empty.ensures c.loop-rest-test.true in
    let whole = run_shown c.loop-rest.rest.now c.text_length-text.result c.max.result some c.text_length-text.ensures.value c.max.ensures in
    record {
      bytes =
          rw (c.in_ok-push_run.ensures, c.split_at.ensures.front, c.split_at.ensures.back, append_assoc, sym whole) c.loop-rest.invariant.bytes;
      length =
          rw (c.in_ok-push_run.ensures, length-append, length-map)
          (omega (arith, c.split_at.ensures.front_len, c.split_at.ensures.back_len, c.loop-rest.invariant.length));
    }

pub returns-clause-bytes : goal.returns-clause-bytes
unfolding shown_bytes
returns-clause-bytes c =
    let none = none_left c.loop-rest.rest.now c.is_empty.result c.is_empty.ensures c.loop-rest-test.false in
    sym (append-nil c.loop-rest.shown.items) ∙ ap (λ rest. c.loop-rest.shown.items ++ shown_after 0 rest) (sym none) ∙ c.loop-rest.invariant.bytes
