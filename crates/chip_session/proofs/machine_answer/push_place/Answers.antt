use Rattle.std.proofs.Common.{◌≡◌, ◌++◌, ◌∷◌, [], ℕ, List, OnOk, slice_index, subst}
use Rattle.hex.specs.Hex.{encode_with}
use Rattle.chip_trace.specs.Digits.{hex_word}
use Rattle.chip_trace.proofs.DigitLemmas.{taken_where_ok}
use Rattle.chip_session.proofs.machine_answer.push_place.Goals as goal

-- the part of the line that contains the digits of pc and I
text : List ℕ → List ℕ → List ℕ
text p q = 112 ∷ 99 ∷ 32 ∷ slice_index p 0 ∷ slice_index p 1 ∷ slice_index p 2 ∷ slice_index p 3 ∷ 32 ∷ 105 ∷ 32 ∷ slice_index q 0 ∷ slice_index q 1 ∷ slice_index q 2 ∷ slice_index q 3 ∷ []

pub returns : goal.returns
unfolding text encode_with
returns c =
    let Is : List ℕ → List ℕ → Type 0 = λ p q. OnOk c.extend_from_slice.result (c.extend_from_slice.new.self.items ≡ c.args.answer.now.items ++ text p q) in
    subst (λ (w : ℕ). Is (hex_word c.args.machine.now.core.pc) (hex_word w)) c.index.ensures
    (subst (λ (w : ℕ). Is (hex_word w) (hex_word c.index.result)) c.pc.ensures
    (subst (Is (hex_word c.pc.result)) c.word_digits-2.ensures
    (subst (λ p. Is p c.word_digits-2.result) c.word_digits.ensures
    (taken_where_ok c.extend_from_slice.result _ _ _ c.extend_from_slice.ensures.items))))
