use Rattle.std.proofs.Common.{◌≡◌, ◌∙◌, ◌++◌, ◌∷◌, ◌-◌, [], List, ℕ, ap, arith, append_assoc, length, replicate}
use Rattle.std.proofs.lemmas.List.{take-replicate}
use Rattle.chip_asm.specs.Listing.{at_left}
use Rattle.chip_asm.proofs.listing.push_left.Goals as goal

left : (out digits : List ℕ) (sign n more : ℕ) → n ≡ 11 - length digits → (((out ++ sign ∷ []) ++ digits) ++ replicate n 32) ++ more ∷ 32 ∷ [] ≡ out ++ (at_left 12 (sign ∷ digits) ++ more ∷ 32 ∷ [])
left out digits sign n more is =
    let same : n ≡ 12 - length (sign ∷ digits) = omega arith in
    ap (λ k. (((out ++ sign ∷ []) ++ digits) ++ replicate k 32) ++ more ∷ 32 ∷ []) same ∙ simp append_assoc

pub returns : goal.returns
returns c =
    c.in_ok-extend_from_slice-3.ensures.items
    ∙ ap (λ l. l ++ c.args.more ∷ 32 ∷ [])
    (c.in_ok-extend_from_slice-2.ensures.items
    ∙ ap (λ blanks. c.extend_from_slice.new.self.items ++ blanks) (take-replicate c.saturating_sub.result 12 32 (omega arith))
    ∙ ap (λ l. l ++ replicate c.saturating_sub.result 32) (c.in_ok-extend_from_slice.ensures.items ∙ ap (λ l. l ++ c.args.digits.now) c.in_ok-push.ensures.items))
    ∙ left c.args.out.now.items c.args.digits.now c.args.sign c.saturating_sub.result c.args.more c.saturating_sub.ensures
