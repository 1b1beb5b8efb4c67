-- A token of a line ends no earlier than it begins.
use Rattle.std.proofs.Common.{ℕ, ◌<◌, ◌≤◌, List, length, get_or, arith}
use Rattle.chip_lang.specs.declared.token.Token.{Token}
use Rattle.chip_lang.specs.Scan.{AreTokens}
use Rattle.chip_lang.proofs.TokenList.{each_lies_in}

pub rises_there : (line : List ℕ) (ts : List Token) (i : ℕ) (d : Token) → AreTokens line 0 ts → i < length ts → (get_or ts i d).start ≤ (get_or ts i d).end
rises_there line ts i d a h = let there = each_lies_in line 0 ts i d a h in omega (arith, there.rises)
