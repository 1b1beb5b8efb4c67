use Rattle.std.proofs.Common.{◌≡◌, ℕ, ◌<◌, ◌≤◌, ◌==◌, ◌∙◌, Bool, true, false, List, take, drop, refl, sym, ap, arith, subst, min, inl, inr, eq-eqb, if◌then◌else◌}
use Rattle.std.proofs.lemmas.Bool.{cases_eq, false≢true}
use Rattle.chip_machine.specs.State.{Core}
use Rattle.chip_machine.specs.Points.{meets, symmetric_difference}
use Rattle.chip_machine.specs.Sprite.{sprite_bytes, covered, row_bytes}
use Rattle.chip_machine.specs.Step.{effect, next, reg, with_reg, with_lit, with_sprite, draws_nothing, has_wide_sixteen, bit_of}
use Rattle.chip_facts.specs.Sets.{Holds}
use Rattle.chip_facts.specs.inner.Indexes.{HoldsIndex}
use Rattle.chip_facts.specs.inner.Knowing.{IsKnown}
use Rattle.chip_facts.specs.inner.Transfer.{IsCalm, drawn_bytes}
use Rattle.chip_facts.specs.declared.known.Known.{Known}
use Rattle.chip_facts.proofs.Accessing.{meets_load}
use Rattle.chip_facts.proofs.Changes.{bit_under_two}
use Rattle.chip_facts.proofs.Outcomes.{meets_either, meets_some, ok_three}
use Rattle.chip_facts.proofs.transfer.Before.draws.Goals as goal

wide_some : (wide : Bool) → 0 < (if wide then 32 else 16)
wide_some true = omega arith
wide_some false = omega arith

number_some : (wide : Bool) (n : ℕ) (test : Bool) → (test ≡ false → 0 < n) → 0 < (if test then (if wide then 32 else 16) else n)
number_some wide n true h = wide_some wide
number_some wide n false h = h refl

bytes_some : (wide : Bool) (n : ℕ) → 0 < sprite_bytes wide n
bytes_some wide n = number_some wide n (n == 0) (λ h. elim (cases_eq n 0) [
  | inl none ↦ absurd (false≢true (sym h ∙ eq-eqb _ _ none))
  | inr some ↦ omega (arith, some)
])

pub returns : goal.returns
unfolding effect
returns c = ok_three c.accesses.result _ _ _ _ c.accesses.ensures.next c.accesses.ensures.short c.accesses.ensures.stored (λ out goes short stored s at keys.
    let frames : List ℕ = c.args.self.now.frames.now in
    let n : ℕ = c.args.n in
    let i : ℕ = s.core.index in
    let none : Bool = draws_nothing n s.core in
    let wide : Bool = has_wide_sixteen s.core in
    let count : ℕ = sprite_bytes wide n in
    let least : c.sprite_counts-least.result.0 ≤ drawn_bytes n s.core = c.sprite_counts-least.ensures.least s.core at.known at.around.same in
    let most : drawn_bytes n s.core ≤ c.sprite_counts-least.result.1 = c.sprite_counts-least.ensures.most s.core at.known at.around.same in
    let set : List ℕ = c.fitting_between-access.result.set in
    let known : Known = record c.args.self.now.known { index = set } in
    let there : HoldsIndex set i → IsKnown known s.core = λ among. record {
      count = at.known.count;
      each = at.known.each;
      small = at.known.small;
      index = among;
      bound = at.known.bound;
      size = at.known.size;
    } in
    meets_either frames out s keys none _ _
    (λ is.
    let zero : drawn_bytes n s.core ≡ 0 = ap (λ (b : Bool). if b then 0 else count) is in
    let free = c.fitting_between-access.ensures.none (omega (arith, least, zero)) (min i 4096) at.known.index in
    let core : Core = next (with_reg 15 0 s.core) in
    let calm : IsCalm s.core core = record { same_flags = refl; tape_is = refl; quirks_are = refl; stop_is = refl } in
    meets_some frames out s core stored calm (goes free.1 s core at (record {
      pc_is = refl;
      frames_stay = refl;
      then_known = c.set_flag.ensures s.core 0 (there free.0) (c.up_to.ensures 0 (omega arith));
    })))
    (λ is.
    let drawn : drawn_bytes n s.core ≡ count = ap (λ (b : Bool). if b then 0 else count) is in
    let some : 0 < count = bytes_some wide n in
    meets_load frames out s keys count
    (λ sprite. next (with_sprite (reg s.core c.args.x) (reg s.core c.args.y) n sprite s.core))
    (λ past. short (c.fitting_between-access.ensures.others i at.known.small (omega (arith, some, drawn, most)) (omega (arith, past, drawn, most)) at.known.index))
    (λ fits.
    let low : min i 4096 ≡ i = omega (arith, fits) in
    let among : Holds c.args.self.now.known.index i = subst (Holds c.args.self.now.known.index) low at.known.index in
    let sprite : List ℕ = take count (drop i s.memory) in
    let core : Core = next (with_sprite (reg s.core c.args.x) (reg s.core c.args.y) n sprite s.core) in
    let calm : IsCalm s.core core = record { same_flags = refl; tape_is = refl; quirks_are = refl; stop_is = refl } in
    let fit : Holds set i × (c.fitting_between-access.result.any ≡ true) =
    elim (cases_eq c.sprite_counts-least.result.0 0) [
      | inl zero ↦ c.fitting_between-access.ensures.none zero i among
      | inr other ↦ c.fitting_between-access.ensures.fits i (omega (arith, other)) (omega (arith, fits, drawn, least)) among
    ] in
    let under = covered s.core.quirks.wraps s.core.high (reg s.core c.args.x) (reg s.core c.args.y) (row_bytes wide n) sprite in
    let flag : ℕ = bit_of (meets s.core.lit under) in
    let small : flag < 2 = bit_under_two (meets s.core.lit under) in
    meets_some frames out s core stored calm (goes fit.1 s core at (record {
      pc_is = refl;
      frames_stay = refl;
      then_known = c.set_flag.ensures (with_lit (symmetric_difference s.core.lit under) s.core) flag (there (subst (Holds set) (sym low) fit.0)) (c.up_to.ensures flag (omega (arith, small)));
    })))))
