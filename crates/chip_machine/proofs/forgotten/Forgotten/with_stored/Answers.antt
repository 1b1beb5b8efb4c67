use Rattle.std.proofs.Common.{◌≡◌, ◌+◌, ◌<◌, ℕ, true, Option, Some, None, IfSome, ap, arith, inl, inr, subst, sym, ◌∙◌}
use Rattle.std.proofs.lemmas.Bool.{cases_eq}
use Rattle.chip_machine.specs.Forgotten.{has_byte, has_part, register_part}
use Rattle.chip_machine.specs.inner.Accesses.{from_or}
use Rattle.chip_machine.proofs.Accesses.{row_last, row_less}
use Rattle.chip_machine.proofs.forgotten.Forgotten.with_stored.Goals as goal

from_few : (register : Option ℕ) (place : ℕ) → IfSome register (λ x. x < 16) → place < 16 → from_or register place < 16
from_few None place range low = low
from_few (Some x) place range low = range

pub loop-place-preserved : goal.loop-place-preserved
loop-place-preserved c =
    let from : ℕ → ℕ = from_or c.args.digits_of in
    record {
      parts = λ part. c.in-Some.ensures.parts part ∙ c.loop-place.invariant.parts part;
      bytes = λ k h unwritten.
          c.in-Some.ensures.bytes k (c.loop-place.invariant.bytes k h (row_less c.args.at c.loop-place.place k unwritten))
          (row_last c.args.at c.loop-place.place k unwritten);
      stored = λ k low was.
          elim (cases_eq k c.loop-place.place) [
            | inl same ↦
                let few = c.requires.few in
                let range = from_few c.args.digits_of c.loop-place.place c.requires.range (omega arith) in
                let register : c.from_or-register.result < 16 = subst (λ (n : ℕ). n < 16) (sym c.from_or-register.ensures) range in
                subst (λ (n : ℕ). has_byte c.in-Some.after (c.args.at + n) ≡ true) (sym same)
                (c.in-Some.ensures.stored
                (c.has_register.ensures register ∙ ap (λ (n : ℕ). has_part c.args.before (register_part n)) (c.from_or-register.ensures ∙ ap from (sym same)) ∙ was))
            | inr other ↦ c.in-Some.ensures.bytes (c.args.at + k) (c.loop-place.invariant.stored k (omega arith) was) (λ there. other (omega arith))
          ];
    }
