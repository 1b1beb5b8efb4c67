use Rattle.std.proofs.Common.{◌++◌}
use Rattle.std.specs.Prelude.{codes}
use Rattle.std.specs.Fmt.{decimal}
use Rattle.chip_check.specs.Json.{quoted}
use Rattle.chip_check.specs.Answer.{answer_members, answer_object, answer_word}
use Rattle.chip_check.proofs.AnswerPieces.{last_piece, then_piece}
use Rattle.chip_check.proofs.answer.PropertyAnswer.push_object.Goals as goal

pub returns : goal.returns
unfolding answer_object
returns c =
    let old = c.args.text.now.items in
    let answer = c.args.self.now in
    let place = c.args.place.now in
    let x0 = codes "{\"line\":" in
    let x1 = x0 ++ decimal place.line in
    let x2 = x1 ++ codes ",\"property\":" in
    let x3 = x2 ++ quoted place.text.now in
    let x4 = x3 ++ codes ",\"answer\":\"" in
    let x5 = x4 ++ answer_word answer.kind answer.scope answer.outcome.now in
    let x6 = x5 ++ codes "\"" in
    let x7 = x6 ++ answer_members answer.outcome.now in
    let x8 = x7 ++ codes ",\"file\":" in
    let x9 = x8 ++ quoted place.name.now in
    let line = then_piece old x0 _ _ _ c.in_ok-extend_from_slice.ensures.items c.in_ok-push_decimal.ensures in
    let named = then_piece old x1 _ _ _ line c.in_ok-extend_from_slice-2.ensures.items in
    let property = then_piece old x2 _ _ _ named c.in_ok-push_quoted.ensures in
    let opened = then_piece old x3 _ _ _ property c.in_ok-extend_from_slice-3.ensures.items in
    let word = then_piece old x4 _ _ _ opened c.in_ok-push_word.ensures in
    let closed = then_piece old x5 _ _ _ word c.in_ok-extend_from_slice-4.ensures.items in
    let members = then_piece old x6 _ _ _ closed c.in_ok-push_members.ensures in
    let before = then_piece old x7 _ _ _ members c.in_ok-extend_from_slice-5.ensures.items in
    let file = then_piece old x8 _ _ _ before c.in_ok-push_quoted-2.ensures in
    last_piece old x9 _ _ _ c.extend_from_slice-6.result file c.extend_from_slice-6.ensures.items
