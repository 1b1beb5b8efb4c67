-- What an outcome allows, given its successors.
use Rattle.std.proofs.Common.{◌≡◌, ℕ, ◌+◌, Bool, true, false, if◌then◌else◌, List, [], ◌∷◌, ◌++◌, length, Any, None, Result, Ok, Err, IfOk, refl, sym, ap, ◌∙◌, arith, subst, length-append}
use Rattle.std.proofs.lemmas.List.{get_or_append_left}
use Rattle.chip_machine.specs.State.{Core, State}
use Rattle.chip_machine.specs.Step.{Effect, perform}
use Rattle.chip_facts.specs.inner.Steps.{IsNext, AreStored, Meets}
use Rattle.chip_facts.specs.inner.Transfer.{IsAt, IsCalm, IsOn}
use Rattle.chip_facts.specs.declared.known.Known.{Known}
use Rattle.chip_facts.specs.declared.outcome.Outcome.{Outcome}
use Rattle.chip_facts.specs.declared.outcome.Successor.{Successor}
use Rattle.chip_facts.specs.declared.outcome.Way.TheVariants as way
use Rattle.chip_facts.specs.declared.transfer.Before.{Before}
use Rattle.chip_facts.proofs.Following.{is_past}

-- a change of the core that keeps flag registers, tape, quirks and stop cause, and leads to a successor
pub meets_some : (frames : List ℕ) (out : Outcome) (s : State) (new : Core) → out.stored ≡ None → IsCalm s.core new
    → Any (IsNext frames new) out.next.items → Meets frames out s (Ok (record s { core = new }))
meets_some frames out s new none calm any = (
  any,
  record {
    size = refl;
    flags = ap length calm.same_flags;
    tape = calm.tape_is;
    quirks = calm.quirks_are;
    stopped = calm.stop_is;
  },
  subst (λ stored. AreStored stored s (record s { core = new })) (sym none) (ap (λ flags. s.memory ++ flags) calm.same_flags),
)

any_one : (P : Successor → Type 0) (items : List Successor) (n : Successor) → items ≡ n ∷ [] → P n → Any P items
any_one P items n is h = subst (Any P) (sym is) (0, n, omega arith, refl, h)

pub meets_one : (frames : List ℕ) (out : Outcome) (s : State) (new : Core) (n : Successor) → out.next.items ≡ n ∷ [] → out.stored ≡ None → IsCalm s.core new
    → IsNext frames new n → Meets frames out s (Ok (record s { core = new }))
meets_one frames out s new n is none calm next = meets_some frames out s new none calm (any_one _ out.next.items n is next)

-- a change of the core that leads to one of two successors
pub meets_first : (frames : List ℕ) (out : Outcome) (s : State) (new : Core) (one two : Successor) → out.next.items ≡ one ∷ two ∷ [] → out.stored ≡ None → IsCalm s.core new
    → IsNext frames new one → Meets frames out s (Ok (record s { core = new }))
meets_first frames out s new one two is none calm next =
    meets_some frames out s new none calm (subst (Any (IsNext frames new)) (sym is) (0, one, omega arith, refl, next))

pub meets_second : (frames : List ℕ) (out : Outcome) (s : State) (new : Core) (one two : Successor) → out.next.items ≡ one ∷ two ∷ [] → out.stored ≡ None → IsCalm s.core new
    → IsNext frames new two → Meets frames out s (Ok (record s { core = new }))
meets_second frames out s new one two is none calm next =
    meets_some frames out s new none calm (subst (Any (IsNext frames new)) (sym is) (1, two, omega arith, refl, next))

-- a change that moves pc to the next instruction
pub meets_on : (before : Before) (out : Outcome) (n : Successor) (k : Known) → out.next.items ≡ n ∷ [] → out.stored ≡ None
    → n.pc ≡ before.pc + 2 → n.known ≡ k → n.way ≡ way.Same → (s : State) (new : Core) → IsAt before s → IsOn k s.core new
    → Meets before.frames.now out s (Ok (record s { core = new }))
meets_on before out n k is none pc known same s new at on =
    meets_one before.frames.now out s new n is none on.calm
    (is_past before s 2 n k new at pc known same on.pc_is on.frames_stay on.then_known)

pub calm_same : (c : Core) → IsCalm c c
calm_same c = record { same_flags = refl; tape_is = refl; quirks_are = refl; stop_is = refl }

-- a value for which two facts are true
pub ok_two : {T E : Type 0} (r : Result T E) (P Q R : T → Type 0) → IfOk r P → IfOk r Q → ((x : T) → P x → Q x → R x) → IfOk r R
ok_two (Ok x) P Q R p q f = f x p q
ok_two (Err e) P Q R p q f = tt

pub ok_three : {T E : Type 0} (r : Result T E) (P Q R S : T → Type 0) → IfOk r P → IfOk r Q → IfOk r R → ((x : T) → P x → Q x → R x → S x) → IfOk r S
ok_three (Ok x) P Q R S p q r f = f x p q r
ok_three (Err e) P Q R S p q r f = tt

-- one effect if a test is true, and another effect if it is false
pub meets_either : (frames : List ℕ) (out : Outcome) (s : State) (keys : ℕ) (test : Bool) (x y : Effect)
    → (test ≡ true → Meets frames out s (perform keys s x)) → (test ≡ false → Meets frames out s (perform keys s y))
    → Meets frames out s (perform keys s (if test then x else y))
meets_either frames out s keys true x y h k = h refl
meets_either frames out s keys false x y h k = k refl

-- a property that one of some successors has is also a property that one of more successors has
pub any_more : (P : Successor → Type 0) (items : List Successor) (n : Successor) → Any P items → Any P (items ++ n ∷ [])
any_more P items n (k, m, within, is, h) =
    (k, m, omega (arith, within, length-append items (n ∷ [])), get_or_append_left items (n ∷ []) m k within ∙ is, h)
