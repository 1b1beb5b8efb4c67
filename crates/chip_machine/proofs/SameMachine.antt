-- Equal quirks, compared field by field, and the profile of a set of quirks.
use Rattle.std.proofs.Common.{◌≡◌, ◌≢◌, Bool, true, false, Some, None, sym, refl, subst}
use Rattle.std.specs.Bool.{beq}
use Rattle.std.proofs.lemmas.Bool.{and_parts, false≢true}
use Rattle.chip_machine.specs.Profile.{are_same_quirks, is_move, is_sixteen, profile_with, quirks}
use Rattle.chip_machine.specs.declared.profile.Profile.{Profile}
use Rattle.chip_machine.specs.declared.profile.Profile.TheVariants as profile
use Rattle.chip_machine.specs.declared.quirks.IndexMove.{IndexMove}
use Rattle.chip_machine.specs.declared.quirks.IndexMove.TheVariants as index
use Rattle.chip_machine.specs.declared.quirks.LowSixteen.{LowSixteen}
use Rattle.chip_machine.specs.declared.quirks.LowSixteen.TheVariants as sixteen
use Rattle.chip_machine.specs.declared.quirks.Quirks.{Quirks}

pub same_bools : (a b : Bool) → beq a b ≡ true → a ≡ b
same_bools true true is = refl
same_bools false false is = refl
same_bools _ _ is = absurd (false≢true is)

same_moves : (a b : IndexMove) → is_move a b ≡ true → a ≡ b
same_moves index.Stays index.Stays is = refl
same_moves index.AtLast index.AtLast is = refl
same_moves index.PastLast index.PastLast is = refl
same_moves _ _ is = absurd (false≢true is)

same_sixteens : (a b : LowSixteen) → is_sixteen a b ≡ true → a ≡ b
same_sixteens sixteen.Nothing sixteen.Nothing is = refl
same_sixteens sixteen.Narrow sixteen.Narrow is = refl
same_sixteens sixteen.Wide sixteen.Wide is = refl
same_sixteens _ _ is = absurd (false≢true is)

-- sets of quirks with the same fields are equal
pub same_machine : (q other : Quirks) → are_same_quirks q other ≡ true → q ≡ other
same_machine q other is =
    let super = and_parts _ (beq q.has_super_instructions other.has_super_instructions) is in
    let flags = and_parts _ (beq q.flags_overflow other.flags_overflow) super.0 in
    let size = and_parts _ (beq q.clears_at_size other.clears_at_size) flags.0 in
    let scrolls = and_parts _ (beq q.scrolls_whole other.scrolls_whole) size.0 in
    let sixteens = and_parts _ (is_sixteen q.low_sixteen other.low_sixteen) scrolls.0 in
    let wraps = and_parts _ (beq q.wraps other.wraps) sixteens.0 in
    let clears = and_parts _ (beq q.clears_flag other.clears_flag) wraps.0 in
    let jumps = and_parts _ (beq q.jumps_by_first other.jumps_by_first) clears.0 in
    let moves = and_parts (beq q.shifts_second other.shifts_second) (is_move q.index_move other.index_move) jumps.0 in
    λ i. record {
      shifts_second = same_bools q.shifts_second other.shifts_second moves.0 i;
      index_move = same_moves q.index_move other.index_move moves.1 i;
      jumps_by_first = same_bools q.jumps_by_first other.jumps_by_first jumps.1 i;
      clears_flag = same_bools q.clears_flag other.clears_flag clears.1 i;
      wraps = same_bools q.wraps other.wraps wraps.1 i;
      low_sixteen = same_sixteens q.low_sixteen other.low_sixteen sixteens.1 i;
      scrolls_whole = same_bools q.scrolls_whole other.scrolls_whole scrolls.1 i;
      clears_at_size = same_bools q.clears_at_size other.clears_at_size size.1 i;
      flags_overflow = same_bools q.flags_overflow other.flags_overflow flags.1 i;
      has_super_instructions = same_bools q.has_super_instructions other.has_super_instructions super.1 i;
    }

-- the quirks of a profile lead back to that profile
profile_itself : (p : Profile) → profile_with (quirks p) ≡ Some p
unfolding profile_with
profile_itself profile.Schip = refl
profile_itself profile.Vip = refl
profile_itself profile.Chip48 = refl
profile_itself profile.Schip10 = refl
profile_itself profile.SchipModern = refl
profile_itself profile.Octo = refl

pub profile_some : (q : Quirks) (p : Profile) → quirks p ≡ q → Some p ≡ profile_with q
profile_some q p is = subst (λ (m : Quirks). Some p ≡ profile_with m) is (sym (profile_itself p))

denied : (b : Bool) → (b ≡ true → ⊥) → b ≡ false
denied true isn't = absurd (isn't refl)
denied false isn't = refl

-- a set of quirks that differs from those of every profile has no profile
pub profile_none : (q : Quirks) → ((p : Profile) → quirks p ≢ q) → profile_with q ≡ None
unfolding profile_with
profile_none q none =
    let isn't : (p : Profile) → are_same_quirks q (quirks p) ≡ false = λ p. denied _ (λ is. none p (sym (same_machine q (quirks p) is))) in
    rw (isn't profile.Schip, isn't profile.Vip, isn't profile.Chip48, isn't profile.Schip10, isn't profile.SchipModern, isn't profile.Octo) refl
