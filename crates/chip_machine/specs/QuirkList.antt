-- The quirks under the names that users write (chosen by this project).
--     choice_named     the choice with a name
--     has_choice       whether a set of quirks includes a choice
--     with_choice      the quirks with one more choice; None if that quirk was chosen before
--     parts_of         the parts of a text between its commas
--     with_choices     the quirks changed by the choices of a list
--     quirks_asked     the quirks of a profile, changed by the choices of a list; both arguments are
--                      optional
use Rattle.std.specs.Prelude.{ℕ, ◌/◌, ◌%◌, ◌^◌, ◌==◌, Bool, List, [], ◌∷◌, fold, map, bit_or, Option, Some, None, option_and_then, option_map, if◌then◌else◌}
use Rattle.std.specs.Bool.{beq}
use Rattle.std.specs.Str.{bytes_eq}
use Rattle.chip_machine.specs.Profile.{is_move, is_sixteen, profile_asked, quirks}
use Rattle.chip_machine.specs.declared.quirks.Choice.{Choice}
use Rattle.chip_machine.specs.declared.quirks.Choice.TheVariants as choice
use Rattle.chip_machine.specs.declared.quirks.Chosen.{Chosen}
use Rattle.chip_machine.specs.declared.quirks.Quirks.{Quirks}
use Rattle.chip_machine.specs.declared.quirks.TheConstants.{CHOICES}

-- the first choice in a list that has the name
abbrev pub first_named : List ℕ → List (List ℕ × Choice) → Option Choice
first_named name [] = None
first_named name (c ∷ more) = if bytes_eq c.0 name then Some c.1 else first_named name more

abbrev pub choice_named : List ℕ → Option Choice
choice_named name = first_named name (map (λ c. (c.0.now, c.1)) CHOICES)

-- the number of the quirk that a choice sets
abbrev pub number_of : Choice → ℕ
number_of (choice.ShiftsSecond value) = 0
number_of (choice.IndexMove value) = 1
number_of (choice.JumpsByFirst value) = 2
number_of (choice.ClearsFlag value) = 3
number_of (choice.Wraps value) = 4
number_of (choice.LowSixteen value) = 5
number_of (choice.ScrollsWhole value) = 6
number_of (choice.ClearsAtSize value) = 7
number_of (choice.FlagsOverflow value) = 8
number_of (choice.HasSuperInstructions value) = 9

-- the quirks after one choice
abbrev pub with_quirk : Choice → Quirks → Quirks
with_quirk (choice.ShiftsSecond value) q = record q { shifts_second = value }
with_quirk (choice.IndexMove value) q = record q { index_move = value }
with_quirk (choice.JumpsByFirst value) q = record q { jumps_by_first = value }
with_quirk (choice.ClearsFlag value) q = record q { clears_flag = value }
with_quirk (choice.Wraps value) q = record q { wraps = value }
with_quirk (choice.LowSixteen value) q = record q { low_sixteen = value }
with_quirk (choice.ScrollsWhole value) q = record q { scrolls_whole = value }
with_quirk (choice.ClearsAtSize value) q = record q { clears_at_size = value }
with_quirk (choice.FlagsOverflow value) q = record q { flags_overflow = value }
with_quirk (choice.HasSuperInstructions value) q = record q { has_super_instructions = value }

-- whether a set of quirks includes a choice
abbrev pub has_choice : Quirks → Choice → Bool
has_choice q (choice.ShiftsSecond value) = beq q.shifts_second value
has_choice q (choice.IndexMove value) = is_move q.index_move value
has_choice q (choice.JumpsByFirst value) = beq q.jumps_by_first value
has_choice q (choice.ClearsFlag value) = beq q.clears_flag value
has_choice q (choice.Wraps value) = beq q.wraps value
has_choice q (choice.LowSixteen value) = is_sixteen q.low_sixteen value
has_choice q (choice.ScrollsWhole value) = beq q.scrolls_whole value
has_choice q (choice.ClearsAtSize value) = beq q.clears_at_size value
has_choice q (choice.FlagsOverflow value) = beq q.flags_overflow value
has_choice q (choice.HasSuperInstructions value) = beq q.has_super_instructions value

-- None if a quirk would be chosen twice
abbrev pub with_choice : Option Chosen → Option Choice → Option Chosen
with_choice None c = None
with_choice (Some chosen) None = None
with_choice (Some chosen) (Some c) =
    if chosen.taken / 2 ^ number_of c % 2 == 1 then None
    else Some (record {
      quirks = with_quirk c chosen.quirks;
      taken = bit_or chosen.taken (2 ^ number_of c);
    })

abbrev pub comma : ℕ
comma = 44

-- the parts of a text between its commas
abbrev pub with_byte : ℕ → List (List ℕ) → List (List ℕ)
with_byte byte [] = []
with_byte byte (part ∷ parts) = (byte ∷ part) ∷ parts

abbrev pub parts_of : List ℕ → List (List ℕ)
parts_of [] = [] ∷ []
parts_of (byte ∷ text) =
    if byte == comma then [] ∷ parts_of text else with_byte byte (parts_of text)

-- the quirks after the choices with these names, one after the other
abbrev pub chosen_by : Option Chosen → List (List ℕ) → Option Chosen
chosen_by chosen names = fold (λ chosen name. with_choice chosen (choice_named name)) chosen names

-- None if a name isn't the name of a choice, or if a quirk is chosen twice
abbrev pub with_choices : List ℕ → Quirks → Option Quirks
with_choices list q =
    option_map (λ c. c.quirks)
    (chosen_by (Some (record { quirks = q; taken = 0 })) (parts_of list))

-- the quirks that a user asks for: those of a profile, changed by the choices of a list
abbrev pub choices_asked : Option (List ℕ) → Quirks → Option Quirks
choices_asked None q = Some q
choices_asked (Some list) q = with_choices list q

abbrev pub quirks_asked : (name list : Option (List ℕ)) → Option Quirks
quirks_asked name list = option_and_then (λ p. choices_asked list (quirks p)) (profile_asked name)
