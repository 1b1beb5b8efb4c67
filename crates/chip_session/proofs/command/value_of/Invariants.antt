use Rattle.std.proofs.Common.{◌≡◌, true, take}
use Rattle.std.specs.Char.{is_digit}
use Rattle.std.specs.List.{list_all}
use Rattle.std.specs.Str.Parse.{digits_value}
use Rattle.chip_session.proofs.command.value_of.Given as goal

-- the bytes so far are digits, and `value` is their value
abbrev pub invariant-loop-byte : goal.invariant-loop-byte
invariant-loop-byte l =
    record {
      value : l.value ≡ digits_value l.base (take l.byte-index l.digits);
      digits : list_all (λ byte. is_digit byte l.base) (take l.byte-index l.digits) ≡ true;
    }
