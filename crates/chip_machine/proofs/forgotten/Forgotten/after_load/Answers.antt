use Rattle.std.proofs.Common.{◌≡◌, ◌+◌, ◌<◌, ℕ, true, ap, subst, sym}
use Rattle.chip_machine.specs.Forgotten.{has_byte}
use Rattle.chip_machine.specs.inner.Accesses.{loads}
use Rattle.chip_machine.proofs.forgotten.Forgotten.after_load.Goals as goal

pub returns-in-LoadRegisters-clause-loaded : goal.returns-in-LoadRegisters-clause-loaded
unfolding loads
returns-in-LoadRegisters-clause-loaded c place low was =
    let many : loads c.args.processor.now c.args.instr.now ≡ c.in-LoadRegisters.x + 1 = ap (loads c.args.processor.now) c.in-LoadRegisters.is in
    c.with_loaded.ensures.loaded place (subst (λ (n : ℕ). place < n) many low)
    (subst (λ (n : ℕ). has_byte c.args.self (n + place) ≡ true) (sym c.index-in-LoadRegisters.ensures) was)
