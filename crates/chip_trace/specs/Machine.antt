-- The line of a trace that names the machine (chosen by this project).
use Rattle.std.specs.Prelude.{◌||◌, ℕ, Bool, true, false, nat_eq, List, [], ◌∷◌, ◌++◌, map, codes, Option, Some, None, if◌then◌else◌}
use Rattle.std.specs.List.{filter, join_with_byte, starts_with}
use Rattle.chip_machine.specs.Profile.{profile_name, profile_with}
use Rattle.chip_machine.specs.QuirkList.{has_choice}
use Rattle.chip_machine.specs.declared.profile.Profile.{Profile}
use Rattle.chip_machine.specs.declared.profile.Profile.TheVariants as profile
use Rattle.chip_machine.specs.declared.quirks.Choice.{Choice}
use Rattle.chip_machine.specs.declared.quirks.Quirks.{Quirks}
use Rattle.chip_machine.specs.declared.quirks.TheConstants.{CHOICES}

-- the names of the choices that a machine has: those in a list, and all of them
abbrev pub names_in : List (List ℕ × Choice) → Quirks → List (List ℕ)
names_in choices q = map (λ c. c.0) (filter (λ c. has_choice q c.1) choices)

abbrev pub choice_names : Quirks → List (List ℕ)
choice_names = names_in (map (λ c. (c.0.now, c.1)) CHOICES)

-- whether a trace has a line that names the profile: true except for the two profiles that existed when the
-- first traces were written
abbrev pub has_line : Profile → Bool
has_line profile.Schip = false
has_line profile.Vip = false
has_line _ = true

-- the line that names a profile, if the profile has such a line
unfoldable pub profile_lines : Profile → List (List ℕ)
profile_lines p = if has_line p then (codes "# profile " ++ profile_name p) ∷ [] else []

-- the line that names the choices of a machine that has no profile
unfoldable pub choice_lines : Quirks → List (List ℕ)
choice_lines q = (codes "# quirks " ++ join_with_byte 44 (choice_names q)) ∷ []

-- the line that names a machine, if there is one
abbrev pub named_lines : Option Profile → Quirks → List (List ℕ)
named_lines (Some p) q = profile_lines p
named_lines None q = choice_lines q

abbrev pub machine_lines : Quirks → List (List ℕ)
machine_lines q = named_lines (profile_with q) q

-- whether a line names a machine, and so doesn't name columns
abbrev pub names_machine : List ℕ → Bool
names_machine line =
    starts_with nat_eq line (codes "# profile ") || starts_with nat_eq line (codes "# quirks ")
