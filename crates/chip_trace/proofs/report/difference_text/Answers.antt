use Rattle.std.proofs.Common.{◌≡◌, ◌+◌, ◌∙◌, ◌++◌, ap}
use Rattle.std.specs.Prelude.{codes}
use Rattle.std.specs.Fmt.{decimal}
use Rattle.chip_trace.proofs.report.difference_text.Goals as goal

pub returns : goal.returns
returns c =
    let digits = c.as_bytes.result.now in
    let ended = c.ended_text.result.now in
    let details = c.deref-2.result.now in (
      details,
      c.in_ok-extend_from_slice-3.ensures.items
          ∙ ap (λ text. text ++ details) (c.in_ok-extend_from_slice-2.ensures.items
          ∙ ap (λ text. text ++ ended) (c.in_ok-extend_from_slice.ensures.items ∙ ap (λ text. text ++ digits) c.in_ok-text.ensures.items))
          ∙ ap (λ d. codes "differs at step " ++ d ++ ended ++ details) (c.as_bytes.ensures.value ∙ c.format.ensures.text
          ∙ ap (λ n. decimal (n + c.args.found.now.index)) c.from.ensures)
          ∙ ap (λ e. codes "differs at step " ++ decimal (c.args.from + c.args.found.now.index) ++ e ++ details) c.ended_text.ensures,
    )
