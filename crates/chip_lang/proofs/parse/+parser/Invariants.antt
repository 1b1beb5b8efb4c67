use Rattle.std.proofs.Common.{◌≡◌, ℕ, ◌+◌, ◌-◌, ◌*◌, ◌<◌, ◌≤◌, length, Some}
use Rattle.chip_lang.specs.computed.Parse.{front_level, parse}
use Rattle.chip_lang.specs.inner.Postfix.{top, popped}
use Rattle.chip_lang.proofs.Steps.{Leads}
use Rattle.chip_lang.proofs.parse.+parser.Given as goal

abbrev pub decreases-parse_level : goal.decreases-parse_level
decreases-parse_level l = 9 * length l.tokens.now + l.level + 1

abbrev pub decreases-parse_prefixed : goal.decreases-parse_prefixed
decreases-parse_prefixed l = 9 * length l.tokens.now + 1

abbrev pub decreases-parse_atom : goal.decreases-parse_atom
decreases-parse_atom l = 9 * length l.tokens.now

abbrev pub decreases-parse_further : goal.decreases-parse_further
decreases-parse_further l = 9 * length l.tokens.now + 8

abbrev pub invariant-parse_further-loop-sign : goal.invariant-parse_further-loop-sign
invariant-parse_further-loop-sign l = record {
  leads : Leads l.level (top l.initial.builder) l.tokens (top l.builder) l.rest;
  kept : popped l.builder ≡ popped l.initial.builder;
  shorter : length l.rest ≤ length l.tokens;
}

abbrev pub decreases-parse_further-loop-sign : goal.decreases-parse_further-loop-sign
decreases-parse_further-loop-sign l = length l.rest

abbrev pub invariant-parse_level-loop-done : goal.invariant-parse_level-loop-done
invariant-parse_level-loop-done l = record {
  low : 1 ≤ l.done;
  high : l.done ≤ l.level;
  next : l.next ≡ front_level l.rest;
  shorter : length l.rest < length l.tokens;
  kept : popped l.builder ≡ popped l.initial.builder;
  found : (m : ℕ) → 9 * length l.tokens + l.done < m → Some (top l.builder, l.rest) ≡ parse m l.done l.tokens;
}

abbrev pub decreases-parse_level-loop-done : goal.decreases-parse_level-loop-done
decreases-parse_level-loop-done l = l.level - l.done
