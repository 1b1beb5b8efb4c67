use Rattle.std.proofs.Common.{◌≡◌, ◌∙◌, ◌++◌, ◌||◌, ℕ, List, ap, take}
use Rattle.std.specs.List.{list_any}
use Rattle.std.specs.Str.{bytes_eq}
use Rattle.std.proofs.lemmas.List.{take_all}
use Rattle.chip_lang.specs.SeenLine.{seen_line}
use Rattle.chip_lang.specs.Uses.{names_used}
use Rattle.chip_properties.specs.Lines.{words_in}
use Rattle.chip_warnings.specs.Seen.{names_asked}
use Rattle.chip_warnings.proofs.Names.{has, knows-more, knows-next, knows-none}
use Rattle.chip_warnings.proofs.survey.note_line.Goals as goal

pub loop-word-init : goal.loop-word-init
loop-word-init c = knows-none c.note_asked.new.used

pub loop-word-preserved : goal.loop-word-preserved
loop-word-preserved c =
    knows-next c.deref-word-items.result.now c.loop-word.word-index c.word-item.result c.get.result.now c.note_asked.new.used c.loop-word.used c.note_name.new.used c.loop-word-test.true c.word-item.is c.get.ensures
    c.loop-word.invariant c.in_ok-note_name.ensures

pub returns : goal.returns
returns c name =
    let words : List (List ℕ) = c.deref-word-items.result.now in
    let i : ℕ = c.loop-word.word-index in
    let stated : take i words ≡ words_in c.args.line.now.text
    = take_all i words c.loop-word-test.false ∙ c.deref-word-items.ensures.value ∙ c.in_ok-words.ensures ∙ ap words_in c.text.ensures in
    let used : List (List ℕ) = names_used (seen_line c.reading.result.now) in
    let asked : List (List ℕ) = names_asked (seen_line c.reading-2.result.now) in
    knows-more used (asked ++ take i words) c.args.used.now c.note_expressions.new.used c.loop-word.used c.in_ok-note_expressions.ensures
    (knows-more asked (take i words) c.note_expressions.new.used c.note_asked.new.used c.loop-word.used c.in_ok-note_asked.ensures c.loop-word.invariant) name
    ∙ (λ j. has c.args.used.now.keys name || list_any (bytes_eq name) (names_used (c.reading.ensures j) ++ (names_asked (c.reading-2.ensures j) ++ stated j)))
