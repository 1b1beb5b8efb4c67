use Rattle.std.proofs.Common.{◌≡◌, map, take}
use Rattle.chip_lang.specs.Line.{upper}
use Rattle.chip_lang.proofs.short_bytes.ShortBytes.long_in_upper_case.Given as goal

abbrev pub invariant-loop-byte : goal.invariant-loop-byte
invariant-loop-byte l = l.bytes.items ≡ map upper (take l.byte-index l.word)
