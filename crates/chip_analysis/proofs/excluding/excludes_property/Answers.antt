use Rattle.chip_analysis.proofs.ExcludingLemmas.{alone}
use Rattle.chip_analysis.proofs.excluding.excludes_property.Goals as goal

pub returns : goal.returns
returns c = λ yes image quirks holds.
    alone c.none.result c.from_ref.result c.args.property.now image quirks c.none.ensures c.from_ref.ensures.value (c.excludes.ensures yes image quirks holds)
