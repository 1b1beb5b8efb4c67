use Rattle.std.proofs.Common.{refl, arith}
use Rattle.chip_session.proofs.RowLemmas.{two_digits_are}
use Rattle.chip_session.proofs.machine_answer.write_row.Goals as goal

pub returns : goal.returns
returns c = rw (two_digits_are c.args.row (omega arith), c.write_hex.ensures, c.requires.spaces) refl
