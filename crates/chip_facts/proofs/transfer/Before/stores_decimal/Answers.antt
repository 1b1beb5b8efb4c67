use Rattle.std.proofs.Common.{◌≡◌, ℕ, ◌/◌, ◌%◌, ◌<◌, ◌∙◌, [], ◌∷◌, List, length, get_or, refl, sym, ap, arith, subst, min, inl, inr}
use Rattle.std.proofs.lemmas.Bool.{cases_eq}
use Rattle.chip_machine.specs.State.{Core}
use Rattle.chip_machine.specs.Step.{effect, next, reg, decimal_digits}
use Rattle.chip_facts.specs.Sets.{Holds}
use Rattle.chip_facts.specs.inner.Indexes.{HoldsIndex}
use Rattle.chip_facts.specs.inner.Transfer.{IsCalm}
use Rattle.chip_facts.proofs.Accessing.{meets_store, meets_stored}
use Rattle.chip_facts.proofs.Outcomes.{ok_three}
use Rattle.chip_facts.proofs.transfer.Before.stores_decimal.Goals as goal

each_digit : (hundreds tens ones : List ℕ) (n : ℕ) → n < 256 → Holds hundreds (n / 100 % 10) → Holds tens (n / 10 % 10) → Holds ones (n / 1 % 10)
    → (j : ℕ) → j < 3 → Holds (get_or (hundreds ∷ tens ∷ ones ∷ []) j []) (get_or (decimal_digits n) j 0)
each_digit hundreds tens ones n small h t o j below =
    let holds : ℕ → Type 0 = λ k. Holds (get_or (hundreds ∷ tens ∷ ones ∷ []) k []) (get_or (decimal_digits n) k 0) in
    let first : n / 100 % 10 ≡ n / 100 = omega arith in
    let last : n / 1 % 10 ≡ n % 10 = omega arith in
    elim (cases_eq j 0) [
      | inl is ↦ subst holds (sym is) (subst (Holds hundreds) first h)
      | inr a ↦ elim (cases_eq j 1) [
        | inl is ↦ subst holds (sym is) t
        | inr b ↦
            let is : 2 ≡ j = omega arith in
            subst holds is (subst (Holds ones) last o)
      ]
    ]

pub returns : goal.returns
unfolding effect
returns c = ok_three c.accesses.result _ _ _ _ c.accesses.ensures.next c.accesses.ensures.short c.accesses.ensures.stored (λ out goes short stored s at keys.
    let i : ℕ = s.core.index in
    let n : ℕ = reg s.core c.args.x in
    let core : Core = next s.core in
    meets_store c.args.self.now.frames.now out s keys (decimal_digits n) core
    (λ far. short (c.fitting-access.ensures.others i at.known.small far at.known.index))
    (λ fits.
    let low : min i 4096 ≡ i = omega (arith, fits) in
    let fit = c.fitting-access.ensures.fits i fits (subst (Holds c.args.self.now.known.index) low at.known.index) in
    let there : HoldsIndex c.fitting-access.result.set i = subst (Holds c.fitting-access.result.set) (sym low) fit.0 in
    let one = at.known.each c.args.x c.values-values.ensures.range in
    let value : Holds c.values-values.result n = c.values-values.ensures.each n one.small ∙ one.among in
    let calm : IsCalm s.core core = record { same_flags = refl; tape_is = refl; quirks_are = refl; stop_is = refl } in
    meets_stored s core (decimal_digits n) _ at.around.size fits fit.0 (ap length (sym c.in_ok-from_array.ensures.items)) refl
    (λ j below. subst (λ sets. Holds (get_or sets j []) (get_or (decimal_digits n) j 0)) (sym c.in_ok-from_array.ensures.items)
    (each_digit c.digit.result c.digit-2.result c.digit-3.result n one.small (c.digit.ensures n one.small value) (c.digit-2.ensures n one.small value) (c.digit-3.ensures n one.small value) j below))
    c.args.self.now.frames.now out stored calm
    (goes fit.1 s core at (record { pc_is = refl; frames_stay = refl; then_known = c.with_index-known.ensures s.core i at.known at.known.small there }))))
