use Rattle.std.proofs.Common.{◌≡◌, ◌<◌, ◌^◌, ◌&&◌, ℕ, Bool, true, false, not, List, [], arith, refl, sym, ap, ◌∙◌, subst, bit_and, bit_or, inl, inr, if◌then◌else◌}
use Rattle.std.specs.Int.{bit_not}
use Rattle.std.proofs.Common.{w32}
use Rattle.std.proofs.lemmas.Bool.{or_cases, or_left}
use Rattle.std.proofs.lemmas.Nat.{and_le_l, or_lt}
use Rattle.chip_machine.specs.Forgotten.{has_part, is_forgotten_by, is_one_forgotten, is_one_of, needs, sets, spoils, uses}
use Rattle.chip_machine.specs.inner.Masks.{mask_of}
use Rattle.chip_machine.proofs.Masks.{left_or_spoilt, none_read}
use Rattle.chip_machine.proofs.forgotten.Forgotten.after.Goals as goal

pub returns-clause-unneeded : goal.returns-clause-unneeded
returns-clause-unneeded c =
    none_read c.self.inside.parts c.self.inside.window c.self.inside.bytes c.args.self c.self.view_is c.self.invariant (needs c.args.quirks c.args.instr)
    (ap (bit_and c.self.inside.parts) (sym c.needs_of.ensures) ∙ c.if-needed-ne0.false)

with_all : (forgotten : ℕ) (set spoiled : List ℕ) (any : Bool) (part : ℕ) → is_forgotten_by forgotten set (if any then spoiled else []) part ≡ true → is_forgotten_by forgotten set spoiled part ≡ true
with_all forgotten set spoiled true part h = h
with_all forgotten set spoiled false part h =
    let kept : Bool = has_part forgotten part && not (is_one_of set part) in
    elim (or_cases kept false h) [ inl left ↦ or_left kept (is_one_of spoiled part) left | inr never ↦ absurd (cc) ]

pub returns-clause-after : goal.returns-clause-after
returns-clause-after c part h =
    let p = c.self.inside.parts in
    let set = sets c.args.quirks c.args.moved c.args.instr in
    let used = uses c.args.quirks c.args.instr in
    let spoiled = spoils c.args.quirks c.args.instr in
    let mask : ℕ = c.spoilt_by-spoilt.result in
    let fits : c.set_by-set.result < 2 ^ 32 = omega arith in
    let low : c.spoilt_by-spoilt.result < 2 ^ 32 = omega arith in
    let kept : bit_and p (bit_not w32 (mask_of set)) < 2 ^ 32 = omega (arith, and_le_l p (bit_not w32 (mask_of set))) in
    let q : ℕ = bit_or (bit_and p (bit_not w32 (mask_of set))) mask in
    rw (c.set_by-set.ensures)
    (elim c.spoilt_by-spoilt.ensures [
      | inl all ↦
          left_or_spoilt p c.self.inside.window c.self.inside.bytes c.args.self c.self.view_is c.self.invariant q c.self.inside.bytes _ refl
          (or_lt 32 _ _ kept low, c.self.invariant.1) set spoiled (ap (bit_or (bit_and p (bit_not w32 (mask_of set)))) all) (subst (λ (m : ℕ). m < 2 ^ 32) c.set_by-set.ensures fits) part
          (with_all c.args.self set spoiled (is_one_forgotten c.args.self used) part h)
      | inr none ↦
          left_or_spoilt p c.self.inside.window c.self.inside.bytes c.args.self c.self.view_is c.self.invariant q c.self.inside.bytes _ refl
          (or_lt 32 _ _ kept low, c.self.invariant.1) set [] (ap (bit_or (bit_and p (bit_not w32 (mask_of set)))) none.0) (subst (λ (m : ℕ). m < 2 ^ 32) c.set_by-set.ensures fits) part
          (subst (λ (any : Bool). is_forgotten_by c.args.self set (if any then spoiled else []) part ≡ true) none.1 h)
    ])
