use Rattle.std.proofs.lemmas.Result.{err_from_is_err_and}
use Rattle.std.proofs.Common.{rules, ◌≡◌, ◌∙◌, ◌||◌, ◌<◌, ap, refl, sym, Err, length}
use Rattle.std.specs.List.{remove}
use Rattle.chip_analysis.proofs.NextLemmas.{at_each, at_place, is_within}
use Rattle.chip_analysis.proofs.PropertiesLemmas.{even_after, fewer, no_heads, some_asked}
use Rattle.chip_analysis.proofs.ProvingLemmas.{comes_all, comes_all_stopped, comes_none, comes_on, comes_stopped, comes_unwritten, others_left}
use Rattle.chip_analysis.proofs.proving.Prover.+answer.Goals as goal
use Rattle.chip_analysis.proofs.proving.Prover.+answer.Goals.{then-told, else-told, then-told-2, else-told-2, then-told-3, else-told-3}

pub returns-then-is_empty : goal.returns-then-is_empty
returns-then-is_empty g t c = λ asked is.
    let p = c.args.self.now in
    comes_none p.arguments.now p.source.now.lines p.rate p.keys p.start.now g.O.Write.contents c.args.output.now c.args.output.now asked c.args.left c.args.told is
    (no_heads c.args.left (sym c.is_empty.ensures ∙ c.if-is_empty.true)) refl

pub returns-in_err-is_bad-in-Some : goal.returns-in_err-is_bad-in-Some
returns-in_err-is_bad-in-Some g t c = λ asked is.
    let p = c.args.self.now in
    let next = c.next-next.result in
    let says = at_place p.rate p.keys p.start.now asked next.place next.verdict (c.next-next.ensures.right asked is) c.in-Some.place (sym c.in-Some.is) in
    let within = is_within c.next-next.result.place c.in-Some.place (length c.args.left.heads.items) (sym c.in-Some.is) c.next-next.ensures.within in
    let took = c.take-head.ensures in
    let e = err_from_is_err_and c.from_residual.result c.from_residual.ensures.1 in
    comes_stopped p.arguments.now p.source.now.lines p.rate p.keys p.start.now g.O.Write.contents asked c.args.left c.take-head.new.self next.verdict c.in-Some.place
    c.take-head.result is says took.head within took.heads took.properties c.args.output.now c.tell.new.output
    c.args.told.is_bad c.args.told.is_short c.from_residual.result _ (e.1 ∙ ap (λ why. Err why) e.2) c.in_err-is_bad-in-Some.ensures.written

pub returns-in_err-written-in-Some : goal.returns-in_err-written-in-Some
returns-in_err-written-in-Some g t c = λ asked is.
    let p = c.args.self.now in
    let next = c.next-next.result in
    let says = at_place p.rate p.keys p.start.now asked next.place next.verdict (c.next-next.ensures.right asked is) c.in-Some.place (sym c.in-Some.is) in
    let within = is_within c.next-next.result.place c.in-Some.place (length c.args.left.heads.items) (sym c.in-Some.is) c.next-next.ensures.within in
    let took = c.take-head.ensures in
    let e = err_from_is_err_and c.from_residual-in_err-written-in-Some.result c.from_residual-in_err-written-in-Some.ensures.1 in
    comes_unwritten p.arguments.now p.source.now.lines p.rate p.keys p.start.now g.O.Write.contents asked c.args.left c.take-head.new.self next.verdict c.in-Some.place
    c.take-head.result is says took.head within took.heads took.properties c.args.output.now c.tell.new.output
    c.in_ok-is_bad-in-Some.ensures.written c.args.told.is_bad c.args.told.is_short c.from_residual-in_err-written-in-Some.result _ (e.1 ∙ ap (λ why. Err why) e.2)
    c.in_err-written-in-Some.ensures

pub answer-requires : goal.answer-requires
answer-requires g t c κs within =
    let inside = is_within c.next-next.result.place c.in-Some.place (length c.args.left.heads.items) (sym c.in-Some.is) c.next-next.ensures.within in
    let less : length c.take-head.new.self.heads.items < length c.args.left.heads.items =
    rw c.take-head.ensures.heads (fewer c.args.left.heads.items c.in-Some.place inside) in
    let even : length c.take-head.new.self.heads.items ≡ length c.take-head.new.self.properties.items =
    rw (c.take-head.ensures.heads, c.take-head.ensures.properties)
    (even_after c.args.left.heads.items c.args.left.properties.items c.in-Some.place inside c.requires.even) in
    search (rules, less, even)

pub returns-in-Some : goal.returns-in-Some
returns-in-Some g t c = λ asked is.
    let p = c.args.self.now in
    let next = c.next-next.result in
    let says = at_place p.rate p.keys p.start.now asked next.place next.verdict (c.next-next.ensures.right asked is) c.in-Some.place (sym c.in-Some.is) in
    let within = is_within c.next-next.result.place c.in-Some.place (length c.args.left.heads.items) (sym c.in-Some.is) c.next-next.ensures.within in
    let took = c.take-head.ensures in
    let bad = c.in_ok-is_bad-in-Some.is_bad in
    let now : c.if-told-2.told ≡ (c.args.told.is_bad || bad) = elim c.if-told-2.branch [
      | then-told-2 w ↦ w.told-is ∙ w.if-told-2.true ∙ sym (ap (λ b. b || bad) w.if-told-2.true)
      | else-told-2 w ↦ w.told-is ∙ sym (ap (λ b. b || bad) w.if-told-2.false)
    ] in
    let short : c.if-told.told ≡ (c.args.told.is_short || next.verdict.is_short) = elim c.if-told.branch [
      | then-told w ↦ w.told-is ∙ w.if-told.true ∙ sym (ap (λ b. b || next.verdict.is_short) w.if-told.true)
      | else-told w ↦ w.told-is ∙ sym (ap (λ b. b || next.verdict.is_short) w.if-told.false)
    ] in
    comes_on p.arguments.now p.source.now.lines p.rate p.keys p.start.now g.O.Write.contents asked c.args.left c.take-head.new.self next.verdict c.in-Some.place
    c.take-head.result is says took.head within took.heads took.properties c.args.output.now c.tell.new.output
    c.in_ok-is_bad-in-Some.ensures.written c.answer.new.output c.args.told.is_bad c.args.told.is_short c.if-told-2.told c.if-told.told bad c.answer.result c.in_ok-is_bad-in-Some.ensures.bad
    now short
    (c.answer.ensures (remove asked c.in-Some.place)
    (others_left p.arguments.now p.source.now.lines p.rate p.keys p.start.now g.O.Write.contents asked c.args.left c.take-head.new.self next.verdict c.in-Some.place
    c.take-head.result is says took.head within took.heads took.properties))

pub returns-in_err-is_bad-in-None : goal.returns-in_err-is_bad-in-None
returns-in_err-is_bad-in-None g t c = λ asked is.
    let p = c.args.self.now in
    let next = c.next-next.result in
    let each = at_each p.rate p.keys p.start.now asked next.place next.verdict (c.next-next.ensures.right asked is) (sym c.in-None.is) in
    let e = err_from_is_err_and c.from_residual-in_err-is_bad-in-None.result c.from_residual-in_err-is_bad-in-None.ensures.1 in
    comes_all_stopped p.arguments.now p.source.now.lines p.rate p.keys p.start.now g.O.Write.contents c.args.output.now c.tell-in-None.new.output asked
    c.deref.result.now next.verdict c.args.told c.args.told (c.deref.ensures.value ∙ is.heads) each
    c.from_residual-in_err-is_bad-in-None.result _ (e.1 ∙ ap (λ why. Err why) e.2) c.in_err-is_bad-in-None.ensures.written

pub returns : goal.returns
returns g t c = λ asked is.
    let p = c.args.self.now in
    let next = c.next-next.result in
    let each = at_each p.rate p.keys p.start.now asked next.place next.verdict (c.next-next.ensures.right asked is) (sym c.in-None.is) in
    let bad = c.in_ok-is_bad-in-None.is_bad in
    let now : c.if-told-3.result ≡ (c.args.told.is_bad || bad) = elim c.if-told-3.branch [
      | then-told-3 w ↦ w.result-is ∙ w.if-told-3.true ∙ sym (ap (λ b. b || bad) w.if-told-3.true)
      | else-told-3 w ↦ w.result-is ∙ sym (ap (λ b. b || bad) w.if-told-3.false)
    ] in
    let short : c.if-told.told ≡ (c.args.told.is_short || next.verdict.is_short) = elim c.if-told.branch [
      | then-told w ↦ w.told-is ∙ w.if-told.true ∙ sym (ap (λ b. b || next.verdict.is_short) w.if-told.true)
      | else-told w ↦ w.told-is ∙ sym (ap (λ b. b || next.verdict.is_short) w.if-told.false)
    ] in
    let some = some_asked asked c.args.left is (sym c.is_empty.ensures ∙ c.if-is_empty.false) in
    comes_all p.arguments.now p.source.now.lines p.rate p.keys p.start.now g.O.Write.contents c.args.output.now c.tell-in-None.new.output asked
    c.deref.result.now next.verdict c.args.told _ (c.deref.ensures.value ∙ is.heads) each
    bad c.in_ok-is_bad-in-None.ensures.bad c.in_ok-is_bad-in-None.ensures.written now short some
