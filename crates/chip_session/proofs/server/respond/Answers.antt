use Rattle.std.proofs.Common.{◌∙◌, refl, sym, ap, inl, inr, ◌++◌, ◌∷◌, [], Some, Ok, Err}
use Rattle.std.proofs.lemmas.Result.{IfOk-weaker, on_ok_weaker}
use Rattle.chip_session.specs.Commands.{blank, edit, ask}
use Rattle.chip_session.specs.Refusals.{refusal_code}
use Rattle.chip_session.specs.Transcript.{refused, fault_code, edit_reply, edit_after, ask_reply, refusal_of}
use Rattle.chip_session.specs.Answers.{answer_to}
use Rattle.chip_session.specs.Workbench.{Workbench}
use Rattle.chip_session.specs.Edits.{edit_of}
use Rattle.chip_session.specs.CommandView.{command_view}
use Rattle.chip_session.specs.declared.refusal.Refused.TheVariants as why
use Rattle.chip_session.proofs.ScriptLemmas.{ask_not_refused, ask_told, reply_is, after_is, refusal_is, no_memory, not_for_memory, for_memory, not_memory, on_err}
use Rattle.chip_session.proofs.server.respond.Goals as goal
use Rattle.chip_session.proofs.server.respond.Goals.{in-Edit+in-Err-apply, in-Ask+in-Err-ask}

pub returns-in-Err-clause-answer : goal.returns-in-Err-clause-answer
returns-in-Err-clause-answer c = on_ok_weaker c.refuse_for.result (λ h. h ∙ ap (λ l. l ++ refused (fault_code c.in-Err.fault)) c.clear.ensures.items
    ∙ sym (reply_is c.args.bench.now.session c.args.line.now (Err c.in-Err.fault) c.in-Err.ensures)) c.refuse_for.ensures.answer

pub returns-in-Err-clause-bench : goal.returns-in-Err-clause-bench
returns-in-Err-clause-bench c = on_ok_weaker c.refuse_for.result (λ h. sym (after_is c.args.bench.now.session c.args.line.now (Err c.in-Err.fault) c.in-Err.ensures)) c.refuse_for.ensures.answer

pub returns-in-Err-clause-refused : goal.returns-in-Err-clause-refused
returns-in-Err-clause-refused c = IfOk-weaker c.refuse_for.result _ _ (λ given h. h ∙ sym (refusal_is c.args.bench.now.session c.args.line.now (Err c.in-Err.fault) c.in-Err.ensures)) c.refuse_for.ensures.why

pub returns-in-Blank-clause-answer : goal.returns-in-Blank-clause-answer
returns-in-Blank-clause-answer c = c.clear.ensures.items ∙ sym (reply_is c.args.bench.now.session c.args.line.now (Ok blank) (c.in-Ok.ensures ∙ ap (λ x. Ok (command_view x)) c.in-Blank.is))

pub returns-in-Blank-clause-bench : goal.returns-in-Blank-clause-bench
returns-in-Blank-clause-bench c = sym (after_is c.args.bench.now.session c.args.line.now (Ok blank) (c.in-Ok.ensures ∙ ap (λ x. Ok (command_view x)) c.in-Blank.is))

pub returns-in-Blank-clause-refused : goal.returns-in-Blank-clause-refused
returns-in-Blank-clause-refused c = sym (refusal_is c.args.bench.now.session c.args.line.now (Ok blank) (c.in-Ok.ensures ∙ ap (λ x. Ok (command_view x)) c.in-Blank.is))

pub returns-in-Ok-apply-clause-answer : goal.returns-in-Ok-apply-clause-answer
returns-in-Ok-apply-clause-answer c =
    let read = c.in-Ok.ensures ∙ ap (λ x. Ok (command_view x)) c.in-Edit.is in
    c.in_ok-extend_from_slice-in-Ok-apply.ensures.items ∙ ap (λ l. l ++ 111 ∷ 107 ∷ 10 ∷ []) c.clear.ensures.items
    ∙ sym (reply_is c.args.bench.now.session c.args.line.now (Ok (edit (edit_of c.in-Edit.edit))) read ∙ ap edit_reply c.in-Ok-apply.ensures.ok)

pub returns-in-Ok-apply-clause-bench : goal.returns-in-Ok-apply-clause-bench
returns-in-Ok-apply-clause-bench c =
    let read = c.in-Ok.ensures ∙ ap (λ x. Ok (command_view x)) c.in-Edit.is in
    sym (after_is c.args.bench.now.session c.args.line.now (Ok (edit (edit_of c.in-Edit.edit))) read ∙ ap (edit_after c.args.bench.now.session) c.in-Ok-apply.ensures.ok)

pub returns-in-Ok-apply-clause-refused : goal.returns-in-Ok-apply-clause-refused
returns-in-Ok-apply-clause-refused c =
    let read = c.in-Ok.ensures ∙ ap (λ x. Ok (command_view x)) c.in-Edit.is in
    sym (refusal_is c.args.bench.now.session c.args.line.now (Ok (edit (edit_of c.in-Edit.edit))) read ∙ ap refusal_of c.in-Ok-apply.ensures.ok)

pub returns-in_err-extend_from_slice-in-Ok-apply-clause-memory : goal.returns-in_err-extend_from_slice-in-Ok-apply-clause-memory
returns-in_err-extend_from_slice-in-Ok-apply-clause-memory c =
    let read = c.in-Ok.ensures ∙ ap (λ x. Ok (command_view x)) c.in-Edit.is in
    on_err c.from_residual.result
    (inr (sym (after_is c.args.bench.now.session c.args.line.now (Ok (edit (edit_of c.in-Edit.edit))) read ∙ ap (edit_after c.args.bench.now.session) c.in-Ok-apply.ensures.ok)))

pub returns-in-Ok-ask-clause-answer : goal.returns-in-Ok-ask-clause-answer
returns-in-Ok-ask-clause-answer c =
    ask_told (answer_to c.args.bench.now.session c.in-Ask.question) c.clear.new.self.items c.ask.new.out.items c.clear.ensures.items c.in-Ok-ask.ensures.answer
    ∙ sym (reply_is c.args.bench.now.session c.args.line.now (Ok (ask c.in-Ask.question)) (c.in-Ok.ensures ∙ ap (λ x. Ok (command_view x)) c.in-Ask.is))

pub returns-in-Ok-ask-clause-bench : goal.returns-in-Ok-ask-clause-bench
returns-in-Ok-ask-clause-bench c =
    c.in-Ok-ask.ensures.session ∙ sym (after_is c.args.bench.now.session c.args.line.now (Ok (ask c.in-Ask.question)) (c.in-Ok.ensures ∙ ap (λ x. Ok (command_view x)) c.in-Ask.is))

pub returns-in-Ok-ask-clause-refused : goal.returns-in-Ok-ask-clause-refused
returns-in-Ok-ask-clause-refused c =
    sym (refusal_is c.args.bench.now.session c.args.line.now (Ok (ask c.in-Ask.question)) (c.in-Ok.ensures ∙ ap (λ x. Ok (command_view x)) c.in-Ask.is)
    ∙ ask_not_refused _ (answer_to c.args.bench.now.session c.in-Ask.question) c.in-Ok-ask.ensures.answer)

pub returns : goal.returns
returns c = elim c.match-command.branch [
  | in-Edit+in-Err-apply w ↦
      (let read = c.in-Ok.ensures ∙ ap (λ x. Ok (command_view x)) w.in-Edit.is in
      let none = not_for_memory w.in-Err-apply.ensures.err (λ e. not_memory _ _ (for_memory (edit_of w.in-Edit.edit)) (sym c.is_for_memory.ensures ∙ c.if-is_for_memory.false) (w.refusal-is ∙ e)) in
      record {
        answer = on_ok_weaker c.refuse_for-2.result (λ h. h
            ∙ ap (λ l. l ++ refused (refusal_code c.match-command.refusal)) (ap (λ v. v.items) w.answer-is ∙ c.clear.ensures.items)
            ∙ ap (λ r. refused (refusal_code r)) w.refusal-is
            ∙ sym (reply_is c.args.bench.now.session c.args.line.now (Ok (edit (edit_of w.in-Edit.edit))) read ∙ ap edit_reply none)) c.refuse_for-2.ensures.answer;
        bench = on_ok_weaker c.refuse_for-2.result (λ h. ap (λ (b : Workbench). b.session) w.bench-is ∙ w.in-Err-apply.ensures.same
            ∙ sym (after_is c.args.bench.now.session c.args.line.now (Ok (edit (edit_of w.in-Edit.edit))) read ∙ ap (edit_after c.args.bench.now.session) none)) c.refuse_for-2.ensures.answer;
        memory = on_err c.refuse_for-2.result (inl (ap (λ (b : Workbench). b.session) w.bench-is ∙ w.in-Err-apply.ensures.same));
        refused = IfOk-weaker c.refuse_for-2.result _ _ (λ given h. h
            ∙ ap (λ r. Some (why.Command r)) w.refusal-is
            ∙ sym (refusal_is c.args.bench.now.session c.args.line.now (Ok (edit (edit_of w.in-Edit.edit))) read ∙ ap refusal_of none)) c.refuse_for-2.ensures.why;
      })
  | in-Ask+in-Err-ask w ↦
      (let read = c.in-Ok.ensures ∙ ap (λ x. Ok (command_view x)) w.in-Ask.is in
      let none = no_memory w.in-Err-ask.ensures.answer.0 (λ e. not_memory _ _ refl (sym c.is_for_memory.ensures ∙ c.if-is_for_memory.false) (w.refusal-is ∙ e)) in
      record {
        answer = on_ok_weaker c.refuse_for-2.result (λ h. h
            ∙ ap (λ l. l ++ refused (refusal_code c.match-command.refusal)) (ap (λ v. v.items) w.answer-is ∙ w.in-Err-ask.ensures.answer.1 ∙ c.clear.ensures.items)
            ∙ ap (λ r. refused (refusal_code r)) w.refusal-is
            ∙ sym (reply_is c.args.bench.now.session c.args.line.now (Ok (ask w.in-Ask.question)) read ∙ ap ask_reply none)) c.refuse_for-2.ensures.answer;
        bench = on_ok_weaker c.refuse_for-2.result (λ h. ap (λ (b : Workbench). b.session) w.bench-is ∙ w.in-Err-ask.ensures.session
            ∙ sym (after_is c.args.bench.now.session c.args.line.now (Ok (ask w.in-Ask.question)) read)) c.refuse_for-2.ensures.answer;
        memory = on_err c.refuse_for-2.result (inl (ap (λ (b : Workbench). b.session) w.bench-is ∙ w.in-Err-ask.ensures.session));
        refused = IfOk-weaker c.refuse_for-2.result _ _ (λ given h. h
            ∙ ap (λ r. Some (why.Command r)) w.refusal-is
            ∙ sym (refusal_is c.args.bench.now.session c.args.line.now (Ok (ask w.in-Ask.question)) read ∙ ap refusal_of none)) c.refuse_for-2.ensures.why;
      })
]
