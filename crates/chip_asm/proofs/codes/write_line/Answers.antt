use Rattle.std.proofs.Common.{◌≡◌, ◌∙◌, ◌-◌, [], None, true, ap, arith, cond, drop, get_or, length, replicate, rules, sym, take}
use Rattle.std.proofs.lemmas.List.{length-drop, length-take}
use Rattle.chip_lang.specs.Code.{bytes_coded, code_of, coded}
use Rattle.chip_lang.specs.declared.limits.TheConstants.{IMAGE_START}
use Rattle.chip_asm.specs.Layout.{body_of}
use Rattle.chip_symbols.specs.Names.{values_of}
use Rattle.chip_asm.specs.Program.{bytes_in_code, fault_in_code}
use Rattle.chip_asm.specs.inner.Codes.{code_kept, kept_bytes}
use Rattle.chip_asm.specs.inner.Infos.{has_code}
use Rattle.chip_asm.specs.inner.Records.{reading_in}
use Rattle.chip_asm.proofs.LinesByPlace.{bytes-coded, code-read, no-code, put, zeroed}
use Rattle.chip_asm.proofs.codes.write_line.Goals as goal
use Rattle.chip_asm.proofs.codes.write_line.Goals.{else-is_accepted-via-then-is_accepted+else-info, else-is_accepted-via-else-is_accepted}

pub returns-then-info-clause-written : goal.returns-then-info-clause-written
returns-then-info-clause-written c =
    let q = c.args.placement.now in
    let kept = c.args.kept.now in
    let names = c.args.names.now in
    let has : has_code (body_of (reading_in kept)) ≡ true = sym c.requires.info.coded ∙ ap (λ i. i.is_coded) (sym c.info.ensures) ∙ c.if-info.true in
    let is : code_of (reading_in kept) (values_of names.symbols) ≡ coded (code_kept names kept) = code-read (reading_in kept) (values_of names.symbols) has in
    let bytes : bytes_coded (code_of (reading_in kept) (values_of names.symbols)) ≡ kept_bytes names kept q
    = ap bytes_coded is ∙ bytes-coded (code_kept names kept) ∙ sym (ap (λ b. cond b (bytes_in_code (code_kept names kept)) []) (sym c.is_accepted.ensures ∙ c.if-is_accepted.true)) in
    let long : length (take (c.places_of.result.end - c.places_of.result.start) (drop c.places_of.result.start c.args.image.now)) ≡ q.size
    = omega (arith, length-take (c.places_of.result.end - c.places_of.result.start) (drop c.places_of.result.start c.args.image.now), length-drop c.places_of.result.start c.args.image.now) in
    rw c.places_of.ensures.start
    (put q (kept_bytes names kept q) c.encode_kept.new.bytes c.args.image.now _ (omega arith) c.requires.low c.requires.high (c.encode_kept.auto.bytes ∙ long) (λ k h. c.encode_kept.ensures.bytes k ∙ ap (λ l. get_or l k 0) bytes))

pub returns-else-is_accepted-clause-written : goal.returns-else-is_accepted-clause-written
returns-else-is_accepted-clause-written c =
    let q = c.args.placement.now in
    let kept = c.args.kept.now in
    let names = c.args.names.now in
    let long : length (take (c.places_of.result.end - c.places_of.result.start) (drop c.places_of.result.start c.args.image.now)) ≡ c.places_of.result.end - (q.here - IMAGE_START)
    = omega (arith, length-take (c.places_of.result.end - c.places_of.result.start) (drop c.places_of.result.start c.args.image.now), length-drop c.places_of.result.start c.args.image.now) in
    rw c.places_of.ensures.start (zeroed q (kept_bytes names kept q) c.fill.new.self c.args.image.now _ (omega arith) c.requires.low c.requires.high (c.fill.ensures.after (search rules) ∙ ap (λ n. replicate n 0) long)
    (elim c.else-is_accepted.branch [
      | else-is_accepted-via-then-is_accepted+else-info w ↦
          ap (λ b. cond b (bytes_in_code (code_kept names kept)) []) (sym c.is_accepted.ensures ∙ w.if-is_accepted.true)
          ∙ ap bytes_in_code (no-code (body_of (reading_in kept)) (values_of names.symbols) (sym c.requires.info.coded ∙ ap (λ i. i.is_coded) (sym w.info.ensures) ∙ w.if-info.false))
      | else-is_accepted-via-else-is_accepted w ↦
          ap (λ b. cond b (bytes_in_code (code_kept names kept)) []) (sym c.is_accepted.ensures ∙ w.if-is_accepted.false)
    ]))

pub returns-else-is_accepted-clause-fault : goal.returns-else-is_accepted-clause-fault
returns-else-is_accepted-clause-fault c =
    let q = c.args.placement.now in
    let kept = c.args.kept.now in
    let names = c.args.names.now in
    elim c.else-is_accepted.branch [
      | else-is_accepted-via-then-is_accepted+else-info w ↦
          sym (ap (λ b. cond b (fault_in_code (code_kept names kept)) None) (sym c.is_accepted.ensures ∙ w.if-is_accepted.true)
          ∙ ap fault_in_code (no-code (body_of (reading_in kept)) (values_of names.symbols) (sym c.requires.info.coded ∙ ap (λ i. i.is_coded) (sym w.info.ensures) ∙ w.if-info.false)))
      | else-is_accepted-via-else-is_accepted w ↦
          sym (ap (λ b. cond b (fault_in_code (code_kept names kept)) None) (sym c.is_accepted.ensures ∙ w.if-is_accepted.false))
    ]
