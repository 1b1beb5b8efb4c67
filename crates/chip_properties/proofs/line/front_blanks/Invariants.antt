use Rattle.std.proofs.Common.{◌≡◌, ◌+◌, drop}
use Rattle.std.specs.List.{prefix_len}
use Rattle.chip_lang.specs.Token.{is_blank}
use Rattle.chip_properties.proofs.line.front_blanks.Given as goal

abbrev pub invariant-loop-index : goal.invariant-loop-index
invariant-loop-index l = l.index + prefix_len is_blank (drop l.index l.bytes) ≡ prefix_len is_blank l.bytes
