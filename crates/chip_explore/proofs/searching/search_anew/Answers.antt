use Rattle.chip_explore.proofs.searching.search_anew.Goals as goal

pub loop-attempt-preserved : goal.loop-attempt-preserved
loop-attempt-preserved g c =
    record {
      same = rw c.in_ok-last-2.ensures.setting c.with_ticks-known.ensures.same;
      searched = rw c.in_ok-last-2.ensures.setting c.in_ok-last-2.ensures.searched;
    }
