-- A text to which pieces are appended one by one.
use Rattle.std.proofs.Common.{◌≡◌, ℕ, List, ◌++◌, append_assoc, Result, Ok, Err, sym, ◌∙◌, ap}
use Rattle.std.specs.Prelude.{OnOk, is_ok, if◌then◌else◌}
use Rattle.chip_explore.specs.declared.question.Outcome.{Outcome}
use Rattle.chip_check.specs.Answer.{answer_members}

-- appends another piece
pub then_piece : (old x y z w : List ℕ) → z ≡ old ++ x → w ≡ z ++ y → w ≡ old ++ (x ++ y)
then_piece old x y z w before more = more ∙ ap (λ (text : List ℕ). text ++ y) before ∙ append_assoc old x y

-- appends the last piece, if memory suffices
pub last_piece : {T E : Type 0} (old x y z w : List ℕ) (result : Result T E) → z ≡ old ++ x → w ≡ (if is_ok result then z ++ y else z) →
    OnOk result (w ≡ old ++ (x ++ y))
last_piece old x y z w (Ok value) before more = then_piece old x y z w before more
last_piece old x y z w (Err why) before more = tt

-- members that consist of one name and one number
pub one_member : {T E : Type 0} (result : Result T E) (new old name number : List ℕ) (outcome : Outcome) → answer_members outcome ≡ name ++ number →
    OnOk result (new ≡ (old ++ name) ++ number) → OnOk result (new ≡ old ++ answer_members outcome)
one_member (Ok value) new old name number outcome is added = added ∙ append_assoc old name number ∙ ap (λ (text : List ℕ). old ++ text) (sym is)
one_member (Err why) new old name number outcome is added = tt
