use Rattle.std.proofs.Common.{◌≡◌, map, take}
use Rattle.chip_lang.specs.Tree.{tree_of}
use Rattle.chip_lang.specs.Code.{data_bytes, byte_of}
use Rattle.chip_lang.proofs.Data.{after, data_from}
use Rattle.chip_lang.proofs.code.write_bytes.Given as goal

abbrev pub invariant-loop-index : goal.invariant-loop-index
invariant-loop-index g l =
    after (take l.index l.bytes) (data_from 256 byte_of l.exprs (g.N.Names.symbols l.names) l.index) ≡ data_bytes 256 byte_of (map tree_of l.exprs) (g.N.Names.symbols l.names)
