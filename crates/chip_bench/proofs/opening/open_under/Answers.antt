use Rattle.std.proofs.Common.{inr}
use Rattle.chip_bench.proofs.SessionLemmas.{session_is, unmade_is}
use Rattle.chip_bench.proofs.opening.open_under.Goals as goal

pub returns-in-Ok-insert_keys-clause-opened : goal.returns-in-Ok-insert_keys-clause-opened
returns-in-Ok-insert_keys-clause-opened c =
    session_is c.args.settings c.args.source.now c.args.keys.now.bytes.items c.deref.result.now c.in-Ok.bench.session c.insert_keys.new.bench.session
    c.in-Ok.ensures.ok.0 c.in-Ok.ensures.ok.1 c.deref.ensures.value c.in-Ok-insert_keys.ensures.none c.in-Ok-insert_keys.ensures.session

pub returns-in-Ok-clause-err : goal.returns-in-Ok-clause-err
returns-in-Ok-clause-err c =
    inr (unmade_is c.args.settings c.args.source.now c.args.keys.now.bytes.items c.deref.result.now c.in-Ok.bench.session
    (c.in-Err-Line.number, c.in-Err-Line.code.now) c.in-Ok.ensures.ok.0 c.in-Ok.ensures.ok.1 c.deref.ensures.value
    (rw c.in-Err-Line.field-0-is at c.in-Err-Line.ensures.fault))
