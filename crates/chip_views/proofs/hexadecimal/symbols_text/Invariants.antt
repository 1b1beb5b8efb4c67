use Rattle.std.proofs.Common.{◌≡◌, take}
use Rattle.chip_views.specs.Hexadecimal.{hex_symbols}
use Rattle.chip_views.proofs.hexadecimal.symbols_text.Given as goal

abbrev pub invariant-loop-name : goal.invariant-loop-name
invariant-loop-name l = l.text.items ≡ hex_symbols (take l.name-index l.symbols)
