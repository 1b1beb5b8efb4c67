use Rattle.std.proofs.Common.{◌≡◌, drop, map}
use Rattle.chip_machine.specs.QuirkList.{first_named}
use Rattle.chip_machine.proofs.quirks.first_named.Given as goal

abbrev pub invariant-loop-i : goal.invariant-loop-i
invariant-loop-i l =
    first_named l.fn.name (map (λ c. (c.0.now, c.1)) l.fn.choices) ≡ first_named l.fn.name (map (λ c. (c.0.now, c.1)) (drop l.i l.fn.choices))
