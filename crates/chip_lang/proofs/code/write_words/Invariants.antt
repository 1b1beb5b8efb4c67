use Rattle.std.proofs.Common.{◌≡◌, ◌*◌, map, take}
use Rattle.chip_lang.specs.Tree.{tree_of}
use Rattle.chip_lang.specs.Code.{data_bytes, word_bytes}
use Rattle.chip_lang.proofs.Data.{after, data_from}
use Rattle.chip_lang.proofs.code.write_words.Given as goal

abbrev pub invariant-loop-index : goal.invariant-loop-index
invariant-loop-index g l =
    after (take (2 * l.index) l.bytes) (data_from 65536 word_bytes l.exprs (g.N.Names.symbols l.names) l.index) ≡ data_bytes 65536 word_bytes (map tree_of l.exprs) (g.N.Names.symbols l.names)
