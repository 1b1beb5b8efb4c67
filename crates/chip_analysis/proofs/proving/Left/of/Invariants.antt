use Rattle.std.proofs.Common.{◌≡◌, map}
use Rattle.chip_properties.specs.declared.stated.Stated.{Stated}
use Rattle.chip_analysis.specs.Proving.{asked_of}
use Rattle.chip_analysis.specs.inner.Proofs.{head_of}
use Rattle.chip_analysis.proofs.proving.Left.of.Given as goal

abbrev pub invariant-loop-one : goal.invariant-loop-one
invariant-loop-one l = record {
  heads : l.heads.items ≡ map head_of (asked_of l.only l.yielded);
  properties : l.properties.items ≡ map (λ (one : Stated). one.property) (asked_of l.only l.yielded);
}
