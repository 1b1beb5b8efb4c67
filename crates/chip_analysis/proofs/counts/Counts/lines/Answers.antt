use Rattle.chip_analysis.proofs.CountsLemmas.{counted_as_object, counted_as_text}
use Rattle.chip_analysis.proofs.counts.Counts.lines.Goals as goal

pub returns-then-is_json : goal.returns-then-is_json
returns-then-is_json c = counted_as_object (λ v. v.items) c.object.result c.args.is_json c.args.name.now c.args.self c.if-is_json.true c.object.ensures

pub returns-else-is_json : goal.returns-else-is_json
returns-else-is_json c = counted_as_text (λ v. v.items) c.text.result c.args.is_json c.args.name.now c.args.self c.if-is_json.false c.text.ensures
