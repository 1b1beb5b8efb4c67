use Rattle.std.proofs.Common.{◌≡◌, ◌∙◌, ◌++◌, ◌∷◌, [], List, ℕ, length, get_or, refl, ap, arith, append_assoc}
use Rattle.std.specs.Option.{option_copied}
use Rattle.chip_asm.specs.Listing.{address_shown, at_left, field_shown, more_shown, row}
use Rattle.chip_asm.specs.inner.Placements.{fault_noted}
use Rattle.chip_asm.proofs.line_view.LineView.push_row.Goals as goal

four : (l : List ℕ) → length l ≡ 4 → get_or l 0 0 ∷ get_or l 1 0 ∷ get_or l 2 0 ∷ get_or l 3 0 ∷ [] ≡ l
four [] h = absurd (omega arith)
four (a ∷ []) h = absurd (omega arith)
four (a ∷ b ∷ []) h = absurd (omega arith)
four (a ∷ b ∷ c ∷ []) h = absurd (omega arith)
four (a ∷ b ∷ c ∷ d ∷ []) h = refl
four (a ∷ b ∷ c ∷ d ∷ e ∷ l) h = absurd (omega arith)

front : (n a : List ℕ) → length n ≡ 4 → length a ≡ 4
    → get_or n 0 0 ∷ get_or n 1 0 ∷ get_or n 2 0 ∷ get_or n 3 0 ∷ 32 ∷ get_or a 0 0 ∷ get_or a 1 0 ∷ get_or a 2 0 ∷ get_or a 3 0 ∷ 32 ∷ [] ≡ n ++ 32 ∷ (a ++ 32 ∷ [])
front n a p q =
    ap (λ l. l ++ 32 ∷ get_or a 0 0 ∷ get_or a 1 0 ∷ get_or a 2 0 ∷ get_or a 3 0 ∷ 32 ∷ []) (four n p) ∙ ap (λ l. n ++ 32 ∷ (l ++ 32 ∷ [])) (four a q)

pushed : (out head a b d text : List ℕ) (m : ℕ) → head ≡ a ++ 32 ∷ (b ++ 32 ∷ [])
    → (((out ++ head) ++ (d ++ m ∷ 32 ∷ [])) ++ text) ++ 10 ∷ [] ≡ out ++ (a ++ 32 ∷ b ++ 32 ∷ d ++ m ∷ 32 ∷ text ++ 10 ∷ [])
pushed out head a b d text m e = rw e (simp append_assoc)

pub returns : goal.returns
unfolding row
returns c =
    let number = c.number_text.ensures in
    let address = c.address_text.ensures in
    let text = address.text ∙ ap (λ active. address_shown active c.self.inside.placement.here) c.is_active.ensures in
    let fault = fault_noted c.self.inside.placement.status in
    let bytes = c.self.inside.bytes.now in
    rw (← c.self.view_is)
    (rw (c.in_ok-push.ensures.items, c.in_ok-extend_from_slice-2.ensures.items, c.in_ok-push_field.ensures, c.fault.ensures, c.in_ok-extend_from_slice.ensures.items, ← number.text, ← text)
    (pushed c.args.out.now.items _ c.number_text.result c.address_text.result (at_left 12 (field_shown fault (option_copied c.args.value) bytes))
    c.self.inside.text.now (more_shown fault (length bytes)) (front c.number_text.result c.address_text.result number.places address.places)))
