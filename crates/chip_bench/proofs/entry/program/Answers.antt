use Rattle.chip_bench.proofs.entry.program.Goals as goal

pub returns-clause-session : goal.returns-clause-session
returns-clause-session g c = λ none. record {
  written = c.carry_out-ended.new.output;
  ended = c.carry_out-ended.result;
  flushed = c.is_ok.result;
  did = c.carry_out-ended.ensures.session none;
  kept = c.flush-flushed.ensures.bytes;
  failures = rw c.is_ok.ensures.value c.flush-flushed.ensures.failures;
  status_is = c.finish-status.ensures;
}

pub returns-clause-good : goal.returns-clause-good
returns-clause-good g c = λ none. record {
  written = c.carry_out-ended.new.output;
  ended = c.carry_out-ended.result;
  flushed = c.is_ok.result;
  did = c.carry_out-ended.ensures.good none;
  kept = c.flush-flushed.ensures.bytes;
  failures = rw c.is_ok.ensures.value c.flush-flushed.ensures.failures;
  status_is = c.finish-status.ensures;
}

pub returns-clause-version : goal.returns-clause-version
returns-clause-version g c = λ asked. record {
  written = c.carry_out-ended.new.output;
  ended = c.carry_out-ended.result;
  flushed = c.is_ok.result;
  did = c.carry_out-ended.ensures.version asked;
  kept = c.flush-flushed.ensures.bytes;
  failures = rw c.is_ok.ensures.value c.flush-flushed.ensures.failures;
  status_is = c.finish-status.ensures;
}

pub returns-clause-help : goal.returns-clause-help
returns-clause-help g c = λ asked. record {
  written = c.carry_out-ended.new.output;
  ended = c.carry_out-ended.result;
  flushed = c.is_ok.result;
  did = c.carry_out-ended.ensures.help asked;
  kept = c.flush-flushed.ensures.bytes;
  failures = rw c.is_ok.ensures.value c.flush-flushed.ensures.failures;
  status_is = c.finish-status.ensures;
}
