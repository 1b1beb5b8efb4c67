use Rattle.std.proofs.Common.{◌≡◌, bit_or}
use Rattle.chip_machine.proofs.Masks.{parts_is, parts_within}
use Rattle.chip_machine.proofs.forgotten.Forgotten.is_within.Goals as goal

pub returns-then-has_parts : goal.returns-then-has_parts
returns-then-has_parts c test =
    let mine = c.self.inside in
    let theirs = c.others.inside in
    let same : bit_or mine.parts theirs.parts ≡ theirs.parts = c.if-has_parts.true in
    record {
      parts = parts_within mine.parts theirs.parts c.args.self c.args.others
          (parts_is mine.parts mine.window mine.bytes c.args.self c.self.view_is c.self.invariant)
          (parts_is theirs.parts theirs.window theirs.bytes c.args.others c.others.view_is c.others.invariant) same;
      bytes = c.has_bytes_within.ensures test;
    }
