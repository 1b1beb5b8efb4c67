use Rattle.std.proofs.Common.{◌≡◌, take}
use Rattle.std.specs.List.{flat_map}
use Rattle.chip_analysis.specs.inner.Proofs.{printed_head}
use Rattle.chip_analysis.proofs.proving.Prover.answers_text.Given as goal

abbrev pub invariant-loop-head : goal.invariant-loop-head
invariant-loop-head g l = l.text.items ≡ flat_map (printed_head l.self.arguments.now l.self.source.now.lines l.verdict) (take l.head-index l.heads)
