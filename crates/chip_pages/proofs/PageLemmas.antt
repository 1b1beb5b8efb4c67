-- Lemmas about the pages of four tables in sequence.
use Rattle.std.proofs.Common.{◌≡◌, List, ◌++◌, Option, Some, None, option_copied, refl}
use Rattle.std.proofs.lemmas.List.{map-append}
use Rattle.std.specs.Option.{option_or}
use Rattle.std.specs.Borrow.{Bor}
use Rattle.chip_pages.specs.Pages.{AreAllPages, codes_of, command_codes, end_codes, line_codes, words}
use Rattle.chip_pages.specs.declared.pages.Page.{Page}

pub or_assoc : (x y z : Option Page) → option_or (option_or x y) z ≡ option_or x (option_or y z)
or_assoc None y z = refl
or_assoc (Some p) y z = refl

pub copied_or : (x y : Option (Bor Page)) → option_copied (option_or x y) ≡ option_or (option_copied x) (option_copied y)
copied_or None y = refl
copied_or (Some p) y = refl

pub all_codes : (a b c d : List Page) → codes_of a ≡ line_codes → codes_of b ≡ command_codes → codes_of c ≡ end_codes → codes_of d ≡ words → AreAllPages (a ++ (b ++ (c ++ d)))
all_codes a b c d on_a on_b on_c on_d = simp (map-append, on_a, on_b, on_c, on_d)
