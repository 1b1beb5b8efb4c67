use Rattle.std.proofs.Common.{◌≡◌, ◌∙◌, ◌+◌, ◌<◌, ◌++◌, ◌∷◌, [], ℕ, ap, sym, arith, length, List, map, inr, Some, true, false, append_assoc, subst}
use Rattle.std.specs.List.{after_first}
use Rattle.std.proofs.lemmas.List.{length-map, map-append, append-nil}
use Rattle.chip_asm.specs.declared.limits.TheConstants.{MOST_LINES}
use Rattle.chip_lang.specs.Line.{reading_of}
use Rattle.chip_lang.specs.Meter.{one_more}
use Rattle.chip_asm.specs.inner.KeptLine.{KeptLine}
use Rattle.chip_asm.specs.declared.refusal.OpenError.TheVariants.{LineTooLong}
use Rattle.chip_asm.specs.Lines.{lines_of, first_text, is_newline, is_long}
use Rattle.chip_asm.specs.inner.Records.{texts_in}
use Rattle.chip_asm.proofs.CutSteps.{AllShort, lines-next, too-long, too-many, opens, some-bytes, back-back, part-of, no-lines, long-is, short-is}
use Rattle.std.proofs.lemmas.List.Elements.{All-push}
use Rattle.chip_asm.proofs.cut.read_lines.Goals as goal

pub returns-then-len-eq-MOST_LINES-clause-err : goal.returns-then-len-eq-MOST_LINES-clause-err
returns-then-len-eq-MOST_LINES-clause-err c =
    let texts : List (List ℕ) = texts_in c.loop-source.lines.items in
    let some : 0 < length c.loop-source.rest.now = some-bytes c.loop-source.rest.now (sym c.is_empty.ensures ∙ c.loop-source-test.true) in
    let cut : texts ++ first_text c.loop-source.rest.now ∷ lines_of (after_first is_newline c.loop-source.rest.now) ≡ lines_of c.args.source.items
    = ap (λ l. texts ++ l) (sym (lines-next c.loop-source.rest.now some)) ∙ c.loop-source.invariant.0 in
    let many : length texts ≡ MOST_LINES = length-map c.loop-source.lines.items (λ (k : KeptLine). k.text) ∙ sym c.loop-source.lines.ok.0 ∙ sym c.len.ensures ∙ c.if-len-eq-MOST_LINES.true in
    inr (too-many c.args.source.items texts (lines_of (after_first is_newline c.loop-source.rest.now)) (first_text c.loop-source.rest.now) cut c.loop-source.invariant.2 many)

pub returns-then-text-gt-LINE_BYTES-clause-err : goal.returns-then-text-gt-LINE_BYTES-clause-err
returns-then-text-gt-LINE_BYTES-clause-err c =
    let texts : List (List ℕ) = texts_in c.loop-source.lines.items in
    let some : 0 < length c.loop-source.rest.now = some-bytes c.loop-source.rest.now (sym c.is_empty.ensures ∙ c.loop-source-test.true) in
    let cut : texts ++ first_text c.loop-source.rest.now ∷ lines_of (after_first is_newline c.loop-source.rest.now) ≡ lines_of c.args.source.items
    = ap (λ l. texts ++ l) (sym (lines-next c.loop-source.rest.now some)) ∙ c.loop-source.invariant.0 in
    let count : length texts ≡ c.len-then-text-gt-LINE_BYTES.result = length-map c.loop-source.lines.items (λ (k : KeptLine). k.text) ∙ sym c.loop-source.lines.ok.0 ∙ sym c.len-then-text-gt-LINE_BYTES.ensures in
    let few : length texts < MOST_LINES = omega (arith, count, c.len-then-text-gt-LINE_BYTES.ensures, c.len.ensures, c.if-len-eq-MOST_LINES.false, c.loop-source.invariant.3, c.loop-source.lines.ok.0) in
    let long : is_long (first_text c.loop-source.rest.now) ≡ true = ap is_long (sym c.first_line.ensures.text) ∙ long-is c.first_line.result.0.now c.if-text-gt-LINE_BYTES.true in
    inr (too-long c.args.source.items texts (lines_of (after_first is_newline c.loop-source.rest.now)) (first_text c.loop-source.rest.now) cut c.loop-source.invariant.2 long few ∙ ap (λ n. Some (LineTooLong (n + 1))) count)

pub loop-source-preserved : goal.loop-source-preserved
loop-source-preserved c =
    let texts : List (List ℕ) = texts_in c.loop-source.lines.items in
    let t : List ℕ = c.first_line.result.0.now in
    let some : 0 < length c.loop-source.rest.now = some-bytes c.loop-source.rest.now (sym c.is_empty.ensures ∙ c.loop-source-test.true) in
    let cut : texts ++ first_text c.loop-source.rest.now ∷ lines_of (after_first is_newline c.loop-source.rest.now) ≡ lines_of c.args.source.items
    = ap (λ l. texts ++ l) (sym (lines-next c.loop-source.rest.now some)) ∙ c.loop-source.invariant.0 in
    let short : is_long t ≡ false = short-is t c.if-text-gt-LINE_BYTES.false in
    let more : length c.push_line.new.lines.items ≡ length c.loop-source.lines.items + 1 = c.in_ok-push_line.ensures.count in
    let room : length c.loop-source.lines.items < MOST_LINES = omega (arith, c.len.ensures, c.if-len-eq-MOST_LINES.false, c.loop-source.invariant.3, c.loop-source.lines.ok.0) in
    let read : c.push_line.new.meter.parsed ≡ one_more c.loop-source.meter.parsed = ap (λ m. m.parsed) c.push_line.ensures.counted in (
      ap (λ xs. xs ++ lines_of c.first_line.result.1.now) c.in_ok-push_line.ensures.texts
          ∙ append_assoc texts (t ∷ []) (lines_of c.first_line.result.1.now)
          ∙ ap (λ b. texts ++ t ∷ lines_of b) c.first_line.ensures.rest
          ∙ ap (λ x. texts ++ x ∷ lines_of (after_first is_newline c.loop-source.rest.now)) c.first_line.ensures.text
          ∙ cut,
      c.in_ok-push_line.ensures.readings
          ∙ ap (λ rs. rs ++ reading_of t ∷ []) c.loop-source.invariant.1
          ∙ sym (map-append reading_of texts (t ∷ []))
          ∙ ap (map reading_of) (sym c.in_ok-push_line.ensures.texts),
      subst AllShort (sym c.in_ok-push_line.ensures.texts) (All-push (λ x. is_long x ≡ false) texts t c.loop-source.invariant.2 short),
      omega arith,
      omega (arith, read, c.loop-source.invariant.4),
      ap (λ m. m.encoded) c.push_line.ensures.counted ∙ c.loop-source.invariant.5,
      back-back c.first_line.result.1.now c.loop-source.rest.now c.args.source.items c.first_line.ensures.back c.loop-source.invariant.6,
      c.in_ok-push_line.ensures.infos c.loop-source.invariant.7,
      c.push_line.ensures.symbols ∙ c.loop-source.invariant.8,
    )

pub returns-clause-ok : goal.returns-clause-ok
returns-clause-ok c =
    let texts : List (List ℕ) = texts_in c.loop-source.lines.items in
    let none = no-lines c.loop-source.rest.now (sym c.is_empty.ensures ∙ c.loop-source-test.false) in
    let all : texts ≡ lines_of c.args.source.items = sym (append-nil texts) ∙ ap (λ l. texts ++ l) (sym none) ∙ c.loop-source.invariant.0 in (
      opens c.args.source.items texts all c.loop-source.invariant.2 (omega (arith, length-map c.loop-source.lines.items (λ (k : KeptLine). k.text), c.loop-source.invariant.3)),
      all,
    )

pub push_line-requires-clause-part : goal.push_line-requires-clause-part
push_line-requires-clause-part c =
    rw (c.get-source.ensures, c.deref.ensures, c.in_ok-shared.ensures.bytes) (part-of c.first_line.result.0.now c.loop-source.rest.now c.args.source.items c.first_line.ensures.front c.loop-source.invariant.6)
