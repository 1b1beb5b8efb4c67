use Rattle.std.proofs.Common.{◌≡◌, take}
use Rattle.chip_machine.specs.State.{exchanged}
use Rattle.chip_calls.proofs.toy.ToyTraced.exchange.Given as goal

abbrev pub invariant-loop-i : goal.invariant-loop-i
invariant-loop-i l =
    record {
      bytes : l.self-inside.bytes.items ≡ exchanged l.fn.self.bytes l.at (take l.i l.old) (take l.i l.new);
      counter : l.self-inside.counter ≡ l.fn.self.counter;
      sum : l.self-inside.sum ≡ l.fn.self.sum;
    }
