use Rattle.std.proofs.Common.{◌≡◌, ◌∙◌, ◌+◌, ◌-◌, ◌≤◌, ℕ, None, ap, arith, cond, get_or, length, refl, set, sum_by, sym, List, true}
use Rattle.std.proofs.lemmas.List.{length-map, set-get_or, with_items_is}
use Rattle.chip_lang.specs.Code.{code_length}
use Rattle.chip_lang.specs.Line.{Reading}
use Rattle.chip_lang.specs.declared.limits.TheConstants.{IMAGE_START}
use Rattle.chip_asm.specs.Program.{fault_in_code}
use Rattle.chip_asm.specs.declared.kept.Kept.{Kept}
use Rattle.chip_asm.specs.declared.placement.Placement.{Placement}
use Rattle.chip_asm.specs.inner.Codes.{code_kept, covers_byte, kept_bytes}
use Rattle.chip_asm.specs.inner.Kept.{IsKept, texts_kept}
use Rattle.chip_asm.specs.inner.Placements.{count_of, found, is_accepted, status_coded}
use Rattle.chip_asm.specs.inner.Records.{reading_in, readings_in, texts_in}
use Rattle.chip_asm.proofs.KeptSteps.{texts-set, Exchange, IsNoted, encoded-kept, exchange-kept, kept-swapped, line-new}
use Rattle.chip_asm.proofs.LinesByPlace.{code-fits, high, low, none-pending, found-coded}
use Rattle.chip_asm.proofs.Resumed.{length-laid}
use Rattle.chip_asm.proofs.WholeImage.{agrees-outside}
use Rattle.chip_asm.proofs.kept.Kept.rewrite.Goals as goal
use Rattle.chip_asm.proofs.kept.Kept.rewrite.Goals.{After-replace_line, then-is_accepted, else-is_accepted}

pub index-requires : goal.index-requires
index-requires c =
    omega (arith, length-laid c.args.self.now.layout (readings_in c.args.self.now.lines.items) c.requires.kept.laid_out, length-map c.args.self.now.lines.items reading_in, c.args.self.now.layout.placements.ok.0, c.args.self.now.lines.ok.0, c.requires.inside)

pub write_line-fault-requires : goal.write_line-fault-requires
write_line-fault-requires c =
    let lines : List Reading = readings_in c.args.self.now.lines.items in
    let q = c.index.result.now in
    let e : Exchange lines c.args.at (reading_in c.args.added) q = exchange-kept c.args.self.now c.args.at c.args.added q c.requires.kept c.requires.inside c.index.ensures c.requires.alike in
    record {
      info = c.requires.info;
      low = low lines c.args.at (found q) e.was;
      high = omega (arith, high lines c.args.at (found q) e.was, c.requires.kept.image.long (omega (arith, e.inside)), c.deref_mut.ensures.len);
      room = λ accepted.
          (let fits : code_length e.now.x.line ≤ q.size = code-fits (set lines c.args.at (reading_in c.args.added)) c.args.at (found q) e.now accepted in
          omega (arith, fits, ap code_length (line-new lines c.args.at (reading_in c.args.added) q e)));
    }

pub put-requires : goal.put-requires
put-requires c =
    let old = c.args.self.now in
    let lines : List Reading = readings_in old.lines.items in
    let items = c.deref_mut-then-is_accepted.ensures.value in
    record {
      there = omega (arith, c.requires.inside, length-laid old.layout lines c.requires.kept.laid_out, length-map old.lines.items reading_in, old.lines.ok.0, ap length items);
      tally = rw items (record {
        counted = c.new-tally.ensures.faults ∙ c.requires.kept.laid_out.counted;
        low = λ j q there waits. absurd (none-pending lines old.layout c.requires.kept.laid_out j q there waits);
        high = λ j q there waits. absurd (none-pending lines old.layout c.requires.kept.laid_out j q there waits);
        within = omega (arith, c.new-tally.ensures.end);
      });
    }

-- the line at the place, before and after
swap : (c : After-replace_line) → Exchange (readings_in c.args.self.now.lines.items) c.args.at (reading_in c.args.added) c.index.result.now
swap c = exchange-kept c.args.self.now c.args.at c.args.added c.index.result.now c.requires.kept c.requires.inside c.index.ensures c.requires.alike

-- the placement of the line
noted : (c : After-replace_line) → IsNoted c.args.self.now c.if-is_accepted.self c.args.at c.args.added c.index.result.now c.if-is_accepted.placement
noted c =
    let old : Kept = c.args.self.now in
    let q : Placement = c.index.result.now in
    let long : length c.write_line-fault.new.image ≡ length old.image.items = omega (arith, c.write_line-fault.auto.image, ap length c.deref_mut.ensures.value) in
    let image = with_items_is old.image c.write_line-fault.new.image (omega (arith, long, old.image.ok.0)) in
    let written = λ (k : ℕ). ap (λ l. get_or l k 0) image ∙ c.write_line-fault.ensures.written k
    ∙ ap (λ l. cond (covers_byte q k) (get_or (kept_bytes old.names c.args.added q) (IMAGE_START + k - q.here) 0) (get_or l k 0)) c.deref_mut.ensures.value in
    elim c.if-is_accepted.branch [
      | then-is_accepted w ↦
          (let accepted : is_accepted q.status ≡ true = sym c.is_accepted.ensures ∙ w.if-is_accepted.true in
          let status = w.coded-placement.ensures ∙ ap (λ f. status_coded f) (c.write_line-fault.ensures.fault ∙ ap (λ b. cond b (fault_in_code (code_kept old.names c.args.added)) None) accepted) in
          let items = w.deref_mut-then-is_accepted.ensures.value in
          let put = with_items_is old.layout.placements w.put.new.placements (omega (arith, w.put.auto.placements, ap length items, old.layout.placements.ok.0)) in
          rw (w.self-is, w.placement-is) (record {
            rest = refl;
            written = written;
            long = ap length image ∙ long;
            items = put ∙ w.put.ensures.placements ∙ ap (λ l. set l c.args.at (record q { status = w.coded-placement.result })) items;
            same = rw status (found-coded q (fault_in_code (code_kept old.names c.args.added)) accepted);
            noted = λ a. status;
            counted = w.put.ensures.tally.counted ∙ ap (sum_by count_of) (sym put);
          }))
      | else-is_accepted w ↦
          rw (w.self-is, w.placement-is) (record {
            rest = refl;
            written = written;
            long = ap length image ∙ long;
            items = sym (set-get_or old.layout.placements.items c.args.at q) ∙ ap (set old.layout.placements.items c.args.at) (sym c.index.ensures);
            same = refl;
            noted = λ accepted. (let refused = c.is_accepted.ensures ∙ accepted in absurd (let no = w.if-is_accepted.false in cc));
            counted = c.requires.kept.laid_out.counted;
          })
    ]

texts : (c : After-replace_line) → texts_in c.replace_line.new.lines.items ≡ set (texts_kept c.args.self.now) c.args.at c.args.added.text
texts c = ap texts_in (c.replace_line.ensures ∙ ap (λ (k : Kept). set k.lines.items c.args.at c.args.added) (noted c).rest) ∙ texts-set c.args.self.now.lines.items c.args.at c.args.added

kept : (c : After-replace_line) → IsKept (record c.if-is_accepted.self { lines = c.replace_line.new.lines; settled = c.min-self.result })
kept c =
    kept-swapped c.args.self.now c.if-is_accepted.self _ c.args.at c.args.added c.index.result.now c.if-is_accepted.placement c.requires.kept (noted c) c.replace_line.ensures
    c.min-self.ensures refl refl refl c.requires.is_read c.requires.info (swap c) c.index.ensures

pub places_of-requires : goal.places_of-requires
places_of-requires c =
    let by = (goal.at.places_of-requires c).After-replace_line in
    omega (arith, low (readings_in c.args.self.now.lines.items) c.args.at (found c.index.result.now) (swap by).was, ap (λ f. f.here) (noted by).same)

pub returns-then-had_image-clause-texts : goal.returns-then-had_image-clause-texts
returns-then-had_image-clause-texts c = texts (goal.at.returns-then-had_image-clause-texts c).After-replace_line

pub returns-else-had_image-clause-texts : goal.returns-else-had_image-clause-texts
returns-else-had_image-clause-texts c = texts (goal.at.returns-else-had_image-clause-texts c).After-replace_line

pub returns-then-had_image-clause-kept : goal.returns-then-had_image-clause-kept
returns-then-had_image-clause-kept c = kept (goal.at.returns-then-had_image-clause-kept c).After-replace_line

pub returns-else-had_image-clause-kept : goal.returns-else-had_image-clause-kept
returns-else-had_image-clause-kept c = kept (goal.at.returns-else-had_image-clause-kept c).After-replace_line

pub returns-then-had_image-clause-written : goal.returns-then-had_image-clause-written
returns-then-had_image-clause-written c =
    let by = (goal.at.returns-then-had_image-clause-written c).After-replace_line in
    let n = noted by in
    rw (c.places_of.ensures.start, c.places_of.ensures.end, ap (λ f. f.here) n.same, ap (λ f. f.size) n.same)
    (agrees-outside c.args.self.now _ c.index.result.now _ c.requires.kept (kept by) (ap (λ (k : Kept). k.layout.end) n.rest) (low (readings_in c.args.self.now.lines.items) c.args.at (found c.index.result.now) (swap by).was) n.written c.if-had_image.true)

pub returns-then-had_image-clause-encoded : goal.returns-then-had_image-clause-encoded
returns-then-had_image-clause-encoded c =
    encoded-kept c.args.self.now c.args.at c.args.added c.index.result.now c.args.meter.now.encoded c.write_line-fault.new.meter.encoded (swap (goal.at.returns-then-had_image-clause-encoded c).After-replace_line) c.write_line-fault.ensures.encoded

pub returns-else-had_image-clause-encoded : goal.returns-else-had_image-clause-encoded
returns-else-had_image-clause-encoded c =
    encoded-kept c.args.self.now c.args.at c.args.added c.index.result.now c.args.meter.now.encoded c.write_line-fault.new.meter.encoded (swap (goal.at.returns-else-had_image-clause-encoded c).After-replace_line) c.write_line-fault.ensures.encoded
