use Rattle.std.proofs.Common.{◌≡◌, ◌≢◌, ℕ, ◌+◌, ◌*◌, ◌/◌, ◌%◌, ◌<◌, ap, sym, ◌∙◌, arith}
use Rattle.std.proofs.Math.Nat.{suc-mul, mul-mod_left}
use Rattle.std.proofs.lemmas.Nat.{div-add-mod', mod-mul-add}
use Rattle.chip_machine.proofs.processor.next_place.Goals as goal

-- after the greatest remainder, the next number has the remainder 0
turned_over : (draws n : ℕ) → draws % n + 1 ≡ n → (draws + 1) % n ≡ 0
turned_over draws n last =
    let whole : draws + 1 ≡ (draws / n + 1) * n = omega (arith, div-add-mod' draws n, suc-mul (draws / n) n) in
    ap (λ x. x % n) whole ∙ mul-mod_left (draws / n + 1) n

-- otherwise the remainder grows by 1
one_more : (draws n : ℕ) → draws % n + 1 < n → (draws + 1) % n ≡ draws % n + 1
one_more draws n below =
    let whole : draws + 1 ≡ draws / n * n + (draws % n + 1) = omega (arith, div-add-mod' draws n) in
    ap (λ x. x % n) whole ∙ mod-mul-add (draws / n) n (draws % n + 1) below

pub returns-then-place-tape_len : goal.returns-then-place-tape_len
returns-then-place-tape_len c = λ draws is. sym (turned_over draws c.args.tape_len (ap (λ x. x + 1) (sym is) ∙ c.if-place-tape_len.true))

pub returns-else-place-tape_len : goal.returns-else-place-tape_len
returns-else-place-tape_len c = λ draws is.
    let apart : draws % c.args.tape_len + 1 ≢ c.args.tape_len = λ e. c.if-place-tape_len.false (ap (λ x. x + 1) is ∙ e) in
    omega (arith, one_more draws c.args.tape_len (omega (arith, is, c.requires)))
