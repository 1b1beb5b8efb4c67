use Rattle.std.proofs.Common.{◌∙◌, ap}
use Rattle.std.specs.Prelude.{option_copied}
use Rattle.chip_analysis.proofs.ExcludingLemmas.{none_left, some_left}
use Rattle.chip_analysis.proofs.ExploringLemmas.{found_written, search_printed}
use Rattle.chip_analysis.specs.Exploring.{AreStopsLeft}
use Rattle.chip_analysis.proofs.exploring.Search.carry_out.Goals as goal
use Rattle.chip_analysis.proofs.exploring.Search.carry_out.Goals.{in-Some+in_ok-stops-in-Some, in-None}

pub returns-clause-searched : goal.returns-clause-searched
returns-clause-searched g c =
    let search = c.args.self.now in
    let question = search.question.now in
    let causes = question.target.causes in
    let stops = c.deref-2.result.now in
    let listed : AreStopsLeft causes (option_copied search.left) stops = elim c.match-left.branch [
      | in-Some+in_ok-stops-in-Some w ↦
          some_left causes search.left _ _ stops w.in-Some.is w.in_ok-stops-in-Some.ensures (c.deref-2.ensures.value ∙ ap (λ t. t.items) w.stops-is)
      | in-None w ↦ none_left causes search.left stops w.in-None.is (c.deref-2.ensures.value ∙ ap (λ t. t.items) w.stops-is ∙ w.new-stops.ensures.items)
    ] in
    search_printed g.O.Write.contents c.args.output.now c.print.new.output search.arguments.now search.source.now.lines question.rate question.allowed
    question.target (option_copied search.left) search.start.now c.explore-explored.result c.deref-3.result.now _ c.in_ok-text.ensures.0 stops c.search_ending.result c.print.result
    c.explore-explored.ensures.answers c.explore-explored.ensures.executed c.explore-explored.ensures.any_speed (c.deref-3.ensures.value ∙ c.in_ok-text.ensures.1) listed c.search_ending.ensures
    c.print.ensures

pub returns-clause-written : goal.returns-clause-written
returns-clause-written g c = λ asked.
    let printed = rw asked at c.print.ensures in
    found_written (g.F.FileAccess.wrote c.args.system.now.files.now) c.explore-explored.result.outcome c.explore-explored.result.is_short c.args.self.now.arguments.now.search.keys_to
    (printed.0 ∙ c.search_ending.ensures) c.in_ok-write_script.ensures.ok
