use Rattle.std.proofs.Common.{◌≡◌, ◌≤◌, length, vec_capacity}
use Rattle.std.specs.Io.KnownBytes.{Keeps, append_known}
use Rattle.chip_bench.proofs.held_writer.HeldWriter.write_held.Given as goal

abbrev pub invariant-loop-self : goal.invariant-loop-self
invariant-loop-self g l = record {
  bytes : Keeps (append_known (g.W.Write.contents l.initial.self-inside.inner.inner) l.initial.self-inside.held.items)
      (append_known (g.W.Write.contents l.self-inside.inner.inner) l.self-inside.held.items);
  failures : l.self-inside.inner.failures ≡ l.initial.self-inside.inner.failures;
  given_up : l.initial.self-inside.inner.failures ≡ 1 → l.self-inside ≡ l.initial.self-inside;
  most : l.self-inside.most ≡ l.initial.self-inside.most;
  bounded : length l.self-inside.held.items ≤ l.self-inside.most;
  room : l.self-inside.most ≤ vec_capacity l.self-inside.held;
}

abbrev pub decreases-loop-self : goal.decreases-loop-self
decreases-loop-self g l = length l.self-inside.held.items
