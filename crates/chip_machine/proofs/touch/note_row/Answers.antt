use Rattle.std.proofs.Common.{◌≡◌, ◌+◌, ◌-◌, ◌<◌, ◌∙◌, ℕ, ap, length, take, drop, slice_index, min, arith}
use Rattle.std.proofs.lemmas.List.{places}
use Rattle.chip_machine.proofs.Notes.{noted_row}
use Rattle.chip_machine.proofs.touch.note_row.Goals as goal

pub returns : goal.returns
returns c =
    let same : c.args.start + c.args.len - c.args.start ≡ c.args.len = omega arith in
    let part = take (c.args.start + c.args.len - c.args.start) (drop c.args.start c.args.first_touch.now) in
    let size : length part ≡ c.args.len = grind (arith, places, c.requires.table, c.requires.in_memory) in
    let done = λ (k : ℕ) (l : k < c.args.len). let within : k < length part = omega (arith, size) in
    let read : slice_index part k ≡ slice_index c.args.first_touch.now (c.args.start + k) = grind (arith, places, c.requires.table, c.requires.in_memory) in
    c.note_all.ensures k within ∙ ap (λ v. min v c.args.number) read in
    rw same (noted_row c.args.start c.args.len c.args.number c.args.first_touch.now c.note_all.new.part c.requires.table c.requires.in_memory (c.note_all.auto.part ∙ size) done)
