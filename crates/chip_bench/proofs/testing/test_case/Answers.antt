use Rattle.chip_bench.proofs.testing.test_case.Goals as goal

pub returns-clause-ok : goal.returns-clause-ok
returns-clause-ok g c =
    let asked = c.in_ok-settings.ensures.ok in
    record {
      arguments = asked.0;
      settings = c.in_ok-settings.settings;
      source = c.in_ok-source.source.items;
      keys = c.in_ok-bytes.bytes.items;
      set_by = asked.1;
      settings_are = asked.2;
      source_is = c.in_ok-source.ensures.ok;
      keys_are = c.in_ok-bytes.ensures.ok;
      judged = rw (c.deref.ensures.value, c.deref-2.ensures.value) at c.in_ok-run_case.ensures;
    }
