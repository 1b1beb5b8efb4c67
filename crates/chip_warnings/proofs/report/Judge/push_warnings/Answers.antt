use Rattle.std.proofs.Common.{◌≡◌, ◌∙◌, ◌&&◌, ◌++◌, ℕ, Bool, true, false, List, ap, get_or, map, not, sym}
use Rattle.std.specs.List.{filter}
use Rattle.std.proofs.lemmas.List.{append-nil, take_all}
use Rattle.chip_warnings.specs.declared.asked.Asked.{Asked}
use Rattle.chip_warnings.specs.declared.flow.Flow.{Flow}
use Rattle.chip_warnings.specs.declared.seen.Seen.{Seen}
use Rattle.chip_warnings.specs.declared.warning.Warning.{Warning}
use Rattle.chip_warnings.specs.declared.warning.WarningCode.{WarningCode}
use Rattle.chip_warnings.specs.declared.warning.WarningCode.TheVariants.{SplitRows}
use Rattle.chip_warnings.specs.Marked.{Marked}
use Rattle.chip_warnings.specs.Warned.{has_warning, kinds, kinds_on, kinds_told}
use Rattle.chip_warnings.specs.Warnings.{is_switched_off}
use Rattle.chip_warnings.specs.inner.Noted.{marked_in}
use Rattle.chip_warnings.proofs.Placed.{adds_one}
use Rattle.chip_warnings.proofs.Told.{and_right, kind-plain, kind-told, told-more, told-next}
use Rattle.chip_warnings.proofs.report.Judge.push_warnings.Goals as goal
use Rattle.chip_warnings.proofs.report.Judge.push_warnings.Goals.{then-has+in_ok-warning+in_ok-push, else-has}

pub loop-code-preserved : goal.loop-code-preserved
loop-code-preserved c =
    let asked : Asked = c.args.self.now.asked in
    let marked : Marked = marked_in c.args.self.now.marks.now in
    let flow : Flow = c.args.self.now.flow.now in
    let s : Seen = c.args.seen.now in
    let i : ℕ = c.loop-code.code-index in
    let kind : WarningCode = get_or kinds i SplitRows in
    let test : WarningCode → Bool = λ k. not (is_switched_off asked.allowed k) && has_warning asked marked flow s k in
    let was : List Warning = c.loop-code.warnings.items in
    let value : c.has.result ≡ test kind = c.has.ensures.value in
    elim c.if-has.branch [
      | then-has+in_ok-warning+in_ok-push w ↦
          let yes : test kind ≡ true = sym value ∙ w.if-has.true in
          let plain = kind-plain asked marked flow s kind (and_right (not (is_switched_off asked.allowed kind)) (has_warning asked marked flow s kind) yes) in
          let new : Warning = w.in_ok-warning.warning in
          record {
            adds = rw w.warnings-is (adds_one _ _ _ _ _ c.loop-code.invariant.adds w.in_ok-push.ensures.items w.in_ok-warning.ensures.stands);
            told = ap (λ v. kinds_told v.items) w.warnings-is
                ∙ told-next c.args.line.now.number test kinds i SplitRows _ (kinds_told was) _ true c.loop-code-test.true c.loop-code.invariant.told yes
                (told-more was _ new w.in_ok-push.ensures.items ∙ ap (λ t. kinds_told was ++ t) (kind-told new c.args.line.now.number kind w.in_ok-warning.ensures.stands.there w.in_ok-warning.ensures.kind plain));
          }
      | else-has w ↦
          let no : test kind ≡ false = sym value ∙ w.if-has.false in
          record {
            adds = rw w.warnings-is c.loop-code.invariant.adds;
            told = ap (λ v. kinds_told v.items) w.warnings-is
                ∙ told-next c.args.line.now.number test kinds i SplitRows _ (kinds_told was) _ false c.loop-code-test.true c.loop-code.invariant.told no (sym (append-nil (kinds_told was)));
          }
    ]

pub returns-clause-told : goal.returns-clause-told
unfolding kinds_on
returns-clause-told c =
    let asked : Asked = c.args.self.now.asked in
    let marked : Marked = marked_in c.args.self.now.marks.now in
    let test : WarningCode → Bool = λ k. not (is_switched_off asked.allowed k) && has_warning asked marked c.args.self.now.flow.now c.args.seen.now k in
    c.loop-code.invariant.told
    ∙ ap (λ ks. kinds_told c.args.warnings.now.items ++ map (λ kind. (c.args.line.now.number, kind)) (filter test ks)) (take_all c.loop-code.code-index kinds c.loop-code-test.false)
