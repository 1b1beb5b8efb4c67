use Rattle.std.proofs.Common.{◌≡◌, ◌&&◌, ◌++◌, map, not, take}
use Rattle.std.specs.List.{filter}
use Rattle.chip_warnings.specs.Warned.{has_warning, kinds, kinds_told}
use Rattle.chip_warnings.specs.Warnings.{Adds, StandsAt, is_switched_off}
use Rattle.chip_warnings.specs.inner.Noted.{marked_in}
use Rattle.chip_warnings.proofs.report.Judge.push_warnings.Given as goal

abbrev pub invariant-loop-code : goal.invariant-loop-code
invariant-loop-code l = record {
  adds : Adds (StandsAt l.self.asked.allowed l.line.number l.line.text) l.initial.warnings.items l.warnings.items;
  told : kinds_told l.warnings.items ≡ kinds_told l.initial.warnings.items
      ++ map (λ kind. (l.line.number, kind))
      (filter (λ kind. not (is_switched_off l.self.asked.allowed kind) && has_warning l.self.asked (marked_in l.self.marks.now) l.self.flow.now l.seen kind)
      (take l.code-index kinds));
}
