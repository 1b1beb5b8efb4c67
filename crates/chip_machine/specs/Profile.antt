-- The profiles, which are named sets of quirks.
-- Source: COSMAC VIP manual; Gustafsson's CHIP-48; Bryntse's SUPER-CHIP 1.0 and 1.1; present-day
-- emulators for schip-modern; Octo's manual. For each quirk, Step.antt names the machines that have
-- it. This project chose what schip does with OR, AND and XOR.
use Rattle.std.specs.Prelude.{ℕ, List, [], ◌∷◌, ◌&&◌, Bool, find, map, true, false, Option, Some, None}
use Rattle.std.specs.Bool.{beq}
use Rattle.std.specs.Str.{bytes_eq}
use Rattle.chip_machine.specs.declared.profile.Profile.{Profile}
use Rattle.chip_machine.specs.declared.profile.Profile.TheVariants as profile
use Rattle.chip_machine.specs.declared.profile.TheConstants.{SCHIP, VIP, CHIP48, SCHIP10, SCHIP_MODERN, OCTO, PROFILES}
use Rattle.chip_machine.specs.declared.quirks.IndexMove.{IndexMove}
use Rattle.chip_machine.specs.declared.quirks.IndexMove.TheVariants as index
use Rattle.chip_machine.specs.declared.quirks.LowSixteen.{LowSixteen}
use Rattle.chip_machine.specs.declared.quirks.LowSixteen.TheVariants as sixteen
use Rattle.chip_machine.specs.declared.quirks.Quirks.{Quirks}

-- the quirks of SUPER-CHIP 1.1
abbrev pub schip : Quirks
schip =
    record {
      shifts_second = false;
      index_move = index.Stays;
      jumps_by_first = false;
      clears_flag = false;
      wraps = false;
      low_sixteen = sixteen.Narrow;
      scrolls_whole = false;
      clears_at_size = false;
      flags_overflow = false;
      has_super_instructions = true;
    }

-- the quirks of each profile, given as differences from SUPER-CHIP 1.1
abbrev pub quirks : Profile → Quirks
quirks profile.Schip = schip
quirks profile.Vip =
    record schip {
      shifts_second = true;
      index_move = index.PastLast;
      jumps_by_first = true;
      clears_flag = true;
      low_sixteen = sixteen.Nothing;
      has_super_instructions = false;
    }
quirks profile.Chip48 =
    record schip {
      index_move = index.AtLast;
      low_sixteen = sixteen.Nothing;
      has_super_instructions = false;
    }
quirks profile.Schip10 = record schip { index_move = index.AtLast }
quirks profile.SchipModern =
    record schip {
      low_sixteen = sixteen.Wide;
      scrolls_whole = true;
      clears_at_size = true;
    }
quirks profile.Octo =
    record schip {
      shifts_second = true;
      index_move = index.PastLast;
      jumps_by_first = true;
      wraps = true;
      low_sixteen = sixteen.Wide;
      scrolls_whole = true;
      clears_at_size = true;
    }

-- the name of a profile
abbrev pub profile_name : Profile → List ℕ
profile_name profile.Schip = SCHIP.now
profile_name profile.Vip = VIP.now
profile_name profile.Chip48 = CHIP48.now
profile_name profile.Schip10 = SCHIP10.now
profile_name profile.SchipModern = SCHIP_MODERN.now
profile_name profile.Octo = OCTO.now

-- the names of all profiles
abbrev pub profile_names : List (List ℕ)
profile_names = map (λ name. name.now) PROFILES

-- the profile with a name, if there is one
abbrev pub profiles : List Profile
profiles =
    profile.Schip ∷ profile.Vip ∷ profile.Chip48 ∷ profile.Schip10 ∷ profile.SchipModern
    ∷ profile.Octo ∷ []

abbrev pub profile_named : List ℕ → Option Profile
profile_named name = find (λ p. bytes_eq name (profile_name p)) profiles

-- the profile that a user asks for; if no name is given, SUPER-CHIP 1.1
abbrev pub profile_asked : Option (List ℕ) → Option Profile
profile_asked None = Some profile.Schip
profile_asked (Some name) = profile_named name

-- whether two sets of quirks are the same
abbrev pub is_move : IndexMove → IndexMove → Bool
is_move index.Stays index.Stays = true
is_move index.AtLast index.AtLast = true
is_move index.PastLast index.PastLast = true
is_move _ _ = false

abbrev pub is_sixteen : LowSixteen → LowSixteen → Bool
is_sixteen sixteen.Nothing sixteen.Nothing = true
is_sixteen sixteen.Narrow sixteen.Narrow = true
is_sixteen sixteen.Wide sixteen.Wide = true
is_sixteen _ _ = false

abbrev pub are_same_quirks : Quirks → Quirks → Bool
are_same_quirks q other =
    beq q.shifts_second other.shifts_second && is_move q.index_move other.index_move
    && beq q.jumps_by_first other.jumps_by_first && beq q.clears_flag other.clears_flag
    && beq q.wraps other.wraps && is_sixteen q.low_sixteen other.low_sixteen
    && beq q.scrolls_whole other.scrolls_whole && beq q.clears_at_size other.clears_at_size
    && beq q.flags_overflow other.flags_overflow
    && beq q.has_super_instructions other.has_super_instructions

-- the profile with the given quirks, if there is one
unfoldable pub profile_with : Quirks → Option Profile
profile_with q = find (λ p. are_same_quirks q (quirks p)) profiles
