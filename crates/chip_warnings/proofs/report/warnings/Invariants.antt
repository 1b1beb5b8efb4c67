use Rattle.std.proofs.Common.{◌≡◌, All, take, reverse}
use Rattle.std.specs.List.{flat_map, range_with_len}
use Rattle.chip_warnings.specs.Marked.{marked_by}
use Rattle.chip_warnings.specs.Reach.{flow_after}
use Rattle.chip_warnings.specs.Seen.{seen_lines}
use Rattle.chip_warnings.specs.Warned.{kinds_told, warned_at}
use Rattle.chip_warnings.specs.Warnings.{StandsIn}
use Rattle.chip_warnings.proofs.report.warnings.Given as goal

abbrev pub invariant-loop-place : goal.invariant-loop-place
invariant-loop-place l = record {
  placed : All (StandsIn l.asked.allowed l.source.lines) l.warnings.items;
  told : kinds_told l.warnings.items ≡ flat_map (warned_at l.asked (seen_lines l.source.lines)) (range_with_len 0 l.place);
  flow : l.flow ≡ flow_after (marked_by (seen_lines l.source.lines)).jumped (reverse (take l.place (seen_lines l.source.lines)));
}
