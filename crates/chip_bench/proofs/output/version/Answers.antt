use Rattle.std.proofs.Common.{List, ℕ, codes, ap}
use Rattle.chip_host.specs.Printing.{printed}
use Rattle.chip_arguments.specs.declared.commands.TheConstants.{VERSION}
use Rattle.chip_host.specs.declared.ending.Ending.TheVariants.{Done}
use Rattle.chip_bench.proofs.DoingLemmas.{three_parts}
use Rattle.chip_bench.proofs.output.version.Goals as goal

pub returns : goal.returns
returns c =
    ap (λ (t : List ℕ). printed t Done)
    (three_parts c.new-text.result.items c.extend_from_slice.new.self.items c.extend_from_slice-2.new.self.items
    c.extend_from_slice-3.new.self.items (codes "chipbench ") c.as_bytes.result.now (codes "\n") VERSION.now c.new-text.ensures.items
    c.in_ok-extend_from_slice.ensures.items c.in_ok-extend_from_slice-2.ensures.items c.as_bytes.ensures.value c.in_ok-extend_from_slice-3.ensures.items)
