-- The answer of a deep search after one that covered the steps up to n, and the answer about an
-- earlier step that follows from an answer up to a step.
use Rattle.std.proofs.Common.{◌≡◌, ℕ, zero, suc, ◌-◌, ◌≤◌, true, None, List, Bool, ap, refl, ◌∙◌, arith}
use Rattle.chip_machine.specs.State.{State}
use Rattle.chip_machine.specs.Step.{step_of}
use Rattle.chip_replay.specs.Run.{run}
use Rattle.chip_explore.specs.Executed.{is_at_one}
use Rattle.chip_explore.specs.Scripts.{Avoids}
use Rattle.chip_explore.specs.Target.{met_in}
use Rattle.chip_explore.specs.declared.question.Bounds.{Bounds}
use Rattle.chip_explore.specs.declared.question.Outcome.{Outcome}
use Rattle.chip_explore.specs.declared.question.Outcome.TheVariants.{Found, Later, Within}
use Rattle.chip_explore.specs.declared.setting.Setting.{Setting}
use Rattle.chip_explore.specs.declared.target.Target.{Target}
use Rattle.chip_explore.specs.inner.Cover.{AsksSame}
use Rattle.chip_explore.specs.inner.Told.{Covers, Says, later_of}

module _ (p other : Setting) (same : AsksSame p other) (b : Bounds) (addresses seen : List Bool) (start : State) (n : ℕ)
    (covers : Covers p addresses start n) (short : n ≤ b.steps - 1) (deep : b.is_deep ≡ true) where
  pub later_says : (outcome : Outcome) → Says other b seen start outcome → Says p b addresses start (later_of n outcome)
  later_says (Found events step met) says =
      record {
        answers = (rw (← same.rate, ← same.allowed, ← same.target) says.answers.script, covers.avoids);
        executed = covers.stays;
        first = λ any. absurd (cc);
        ends = (says.ends, short);
      }
  later_says (Later events step met covered) says =
      record {
        answers = (rw (← same.rate, ← same.allowed, ← same.target) says.answers.0, covers.avoids);
        executed = covers.stays;
        first = λ any. absurd (cc);
        ends = (says.ends.0, short);
      }
  later_says outcome says = record { answers = covers.avoids; executed = covers.stays; first = λ any. tt; ends = short }

-- a machine that doesn't meet the target avoids it up to step 0
none_made : (rate : ℕ) (held : ℕ → ℕ) (start : State) (t : ℕ) → t ≤ 0 → run step_of rate held start t ≡ start
none_made rate held start zero within = refl
none_made rate held start (suc t) within = absurd (omega arith)

pub avoids_none : (rate allowed : ℕ) (target : Target) (start : State) → met_in target start ≡ None → Avoids rate allowed target start 0
avoids_none rate allowed target start going held script t within = ap (met_in target) (none_made rate held start t within) ∙ going

pub says_none : (p : Setting) (b : Bounds) (addresses : List Bool) (start : State) → met_in p.target start ≡ None → is_at_one addresses start ≡ true → Says p b addresses start (Within 0)
says_none p b addresses start going noted =
    record {
      answers = avoids_none p.rate p.allowed p.target start going;
      executed = λ held script t within. ap (is_at_one addresses) (none_made p.rate held start t within) ∙ noted;
      first = λ any. tt;
      ends = omega arith;
    }

pub covers_before : (p : Setting) (addresses : List Bool) (start : State) (m n : ℕ) → m ≤ n → Covers p addresses start n → Covers p addresses start m
covers_before p addresses start m n early covers =
    record { avoids = λ held script t within. covers.avoids held script t (omega arith); stays = λ held script t within. covers.stays held script t (omega arith) }
