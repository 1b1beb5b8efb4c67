use Rattle.std.proofs.Common.{◌∙◌, ap, arith, length}
use Rattle.chip_replay.proofs.replay.Replay.new.Goals as goal

pub invariant_of-result : goal.invariant_of-result
invariant_of-result g c =
    let kept = c.in_ok-kept.ensures in
    let none = ap length kept.checkpoints in
    rw (kept.counts.0, kept.counts.1, kept.current.1) (
      c.requires.rate,
      c.requires.spacing,
      record {
        checkpoints = record {
          proper_start = c.copy_of.ensures.proper;
          in_range = omega arith;
          few = omega (arith, none);
          each = λ i d l. absurd (omega (arith, none));
          ends_still = λ fewer. absurd (omega arith);
        };
        table = record {
          size = kept.table;
          first = λ at l. record {
            none_before = λ s ls h. absurd (omega arith);
            passes = λ lv. absurd (omega (arith, kept.never at l));
          };
        };
        current = record { reached = omega arith; current = kept.current.0 ∙ c.in_ok-copy_of.ensures.same; holding = kept.holding c.new-2.result };
      },
    )
