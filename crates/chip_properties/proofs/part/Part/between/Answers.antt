use Rattle.std.proofs.Common.{◌∙◌, sym, true, false, refl}
use Rattle.chip_properties.proofs.Ends.{enclosed_by}
use Rattle.chip_properties.proofs.part.Part.between.Goals.{else-is_sign_of-via-then-is_sign_of+else-is_sign_of-2, else-is_sign_of-via-else-is_sign_of}
use Rattle.chip_properties.proofs.part.Part.between.Goals as goal

pub returns-then-is_sign_of-2 : goal.returns-then-is_sign_of-2
returns-then-is_sign_of-2 c =
    sym (enclosed_by c.args.begin c.args.end c.in_ok-first.first.now c.in_ok-last.inside.now c.in_ok-last.last.now
    c.args.self.tokens.now c.in_ok-first.rest.now true true c.in_ok-first.ensures.cases.0 c.in_ok-last.ensures.cases.0
    (sym c.is_sign_of.ensures ∙ c.if-is_sign_of.true) (sym c.is_sign_of-then-is_sign_of.ensures ∙ c.if-is_sign_of-2.true))

pub returns-else-is_sign_of : goal.returns-else-is_sign_of
returns-else-is_sign_of c = elim c.else-is_sign_of.branch [
  | else-is_sign_of-via-then-is_sign_of+else-is_sign_of-2 w ↦
      sym (enclosed_by c.args.begin c.args.end c.in_ok-first.first.now c.in_ok-last.inside.now c.in_ok-last.last.now
      c.args.self.tokens.now c.in_ok-first.rest.now true false c.in_ok-first.ensures.cases.0 c.in_ok-last.ensures.cases.0
      (sym c.is_sign_of.ensures ∙ w.if-is_sign_of.true) (sym w.is_sign_of-then-is_sign_of.ensures ∙ w.if-is_sign_of-2.false))
  | else-is_sign_of-via-else-is_sign_of w ↦
      sym (enclosed_by c.args.begin c.args.end c.in_ok-first.first.now c.in_ok-last.inside.now c.in_ok-last.last.now
      c.args.self.tokens.now c.in_ok-first.rest.now false _ c.in_ok-first.ensures.cases.0 c.in_ok-last.ensures.cases.0
      (sym c.is_sign_of.ensures ∙ w.if-is_sign_of.false) refl)
]
