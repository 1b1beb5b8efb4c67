use Rattle.std.proofs.Common.{rules}
use Rattle.chip_explore.specs.inner.Cover.{view_of}
use Rattle.chip_explore.proofs.Delays.{place_read, timed_reads}
use Rattle.chip_explore.proofs.search.Search.follow_as.Goals as goal

pub returns-clause-leads : goal.returns-clause-leads
returns-clause-leads c = λ _.
    let read = c.args.read in
    let s = (view_of c.args.self.now.members).member c.args.place in
    let reads = (timed_reads c.args.setting.now s read.register c.requires.reads.timed).1 in
    record {
      after = read.after;
      is_after = rw (place_read s read.register c.args.value reads) c.requires.reads.is_after;
      safe = rw (← c.in_ok-load_read.ensures (search rules)) c.run_on.ensures.safe;
    }
