-- Which of a source's properties `prove` is asked for, as its code has them.
use Rattle.std.proofs.Common.{◌≡◌, ◌≢◌, ℕ, ◌<◌, ◌==◌, Bool, true, false, List, [], ◌∷◌, Option, None, Some, length, refl, sym, ◌∙◌, ap, subst, arith, eqb-true}
use Rattle.std.specs.Prelude.{MatchOption}
use Rattle.std.specs.List.{remove}
use Rattle.std.specs.Vec.{vec_len}
use Rattle.std.proofs.lemmas.List.{length-map}
use Rattle.std.proofs.lemmas.List.Edits.{length-remove}
use Rattle.chip_arguments.specs.declared.command_line.ProveArguments.{ProveArguments}
use Rattle.chip_machine.specs.State.{State}
use Rattle.chip_properties.specs.declared.properties.Properties.{Properties}
use Rattle.chip_properties.specs.declared.stated.Stated.{Stated}
use Rattle.chip_session.specs.Tally.{Tally}
use Rattle.chip_host.specs.Printing.{Fails}
use Rattle.chip_host.specs.Endings.{Outcome}
use Rattle.chip_analysis.specs.Commands.{ProvesFrom, ProvesWith}
use Rattle.chip_analysis.specs.Proving.{asked_of, has_faults, unstated_line}
use Rattle.chip_host.specs.declared.ending.Failure.TheVariants as failure
use Rattle.chip_analysis.specs.declared.proving.Left.{Left}
use Rattle.chip_analysis.specs.inner.Proofs.{IsLeft, head_of}

pub nothing_in : {X : Type 0} (xs : List X) → length xs ≡ 0 → xs ≡ []
nothing_in [] none = refl
nothing_in (x ∷ xs) none = absurd (omega arith)

pub no_heads : (left : Left) → (vec_len left.heads == 0) ≡ true → left.heads.items ≡ []
no_heads left none =
    let zero = eqb-true (vec_len left.heads) 0 none in
    nothing_in left.heads.items (omega (arith, zero, left.heads.ok.0))

heads_count : (asked : List Stated) (left : Left) → IsLeft asked left → length left.heads.items ≡ length asked
heads_count asked left is = ap length is.heads ∙ length-map asked head_of

-- as many heads as properties
pub same_count : (asked : List Stated) (left : Left) → IsLeft asked left → length left.properties.items ≡ length left.heads.items
same_count asked left is =
    ap length is.properties ∙ length-map asked (λ (one : Stated). one.property) ∙ sym (heads_count asked left is)

-- no property is asked for
pub asked_none : (asked : List Stated) (left : Left) (is_empty : Bool) → IsLeft asked left → is_empty ≡ (vec_len left.heads == 0) → is_empty ≡ true → asked ≡ []
asked_none asked left is_empty is empty none =
    nothing_in asked (sym (heads_count asked left is) ∙ ap length (no_heads left (sym empty ∙ none)))

pub left_none : (asked : List Stated) (left : Left) (is_empty : Bool) → IsLeft asked left → is_empty ≡ (vec_len left.heads == 0) → asked ≡ [] → is_empty ≡ true
left_none asked left is_empty is empty none =
    let zero : length left.heads.items ≡ 0 = heads_count asked left is ∙ ap length none in
    let count : vec_len left.heads ≡ 0 = omega (arith, zero, left.heads.ok.0) in
    empty ∙ ap (λ (n : ℕ). n == 0) count

-- some property is asked for
pub some_asked : (asked : List Stated) (left : Left) → IsLeft asked left → (vec_len left.heads == 0) ≡ false → asked ≢ []
some_asked asked left is some none =
    let empty : (vec_len left.heads == 0) ≡ true = left_none asked left (vec_len left.heads == 0) is refl none in
    let never : true ≡ false = sym empty ∙ some in
    absurd (cc)

-- two lists of one length still have one length after an element at a place is removed from each
pub even_after : {X Y : Type 0} (xs : List X) (ys : List Y) (k : ℕ) → k < length xs → length xs ≡ length ys → length (remove xs k) ≡ length (remove ys k)
even_after xs ys k within even =
    let one = length-remove xs k within in
    let other = length-remove ys k (omega (arith, even)) in
    omega (arith, one, other, even)

pub fewer : {X : Type 0} (xs : List X) (k : ℕ) → k < length xs → length (remove xs k) < length xs
fewer xs k within = let one = length-remove xs k within in omega (arith, one)

module _ {W : Type 0} (contents : W → Option (List ℕ)) (old new : Tally W) (arguments : ProveArguments) (lines : List (List ℕ)) (rate keys : ℕ)
    (start : State) (properties : Properties) (ended : Outcome) where
  abbrev asked : List Stated
  asked = asked_of arguments.only properties.stated.items

  abbrev faulty : Bool
  faulty = has_faults arguments.only properties.faults.items

  abbrev Unless : Option ℕ → Type 0
  Unless line =
      MatchOption line (ProvesFrom contents old new arguments lines rate keys start asked properties.faults.items ended)
      (λ line. Fails contents old new (λ why. why ≡ failure.NoProperty line) ended)

  pub with_none : (line : ℕ) → unstated_line arguments.only asked faulty ≡ Some line → Fails contents old new (λ why. why ≡ failure.NoProperty line) ended →
      ProvesWith contents old new arguments lines rate keys start properties ended
  with_none line e fails = subst Unless (sym e) fails

  pub with_some : unstated_line arguments.only asked faulty ≡ None →
      ProvesFrom contents old new arguments lines rate keys start asked properties.faults.items ended →
      ProvesWith contents old new arguments lines rate keys start properties ended
  with_some e did = subst Unless (sym e) did
