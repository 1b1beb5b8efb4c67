use Rattle.std.proofs.Common.{◌≡◌, ℕ, ◌≤◌, ◌∙◌, Global, List, Vec, ap, arith, get_or, length, subst, take, vec_capacity, vec_len}
use Rattle.std.proofs.lemmas.List.{length-map}
use Rattle.chip_symbols.specs.Names.{values_of}
use Rattle.chip_asm.specs.computed.Walk.{address, placed}
use Rattle.chip_asm.specs.declared.block.Block.{Block}
use Rattle.chip_asm.specs.declared.kept.Kept.{Kept}
use Rattle.chip_asm.specs.inner.Codes.{right_byte}
use Rattle.chip_asm.specs.inner.Kept.{HasRoomFor, IsExchanged, change_of, lines_kept}
use Rattle.chip_asm.specs.inner.KeptLine.{KeptLine}
use Rattle.chip_asm.specs.inner.Passes.{Change}
use Rattle.chip_asm.specs.inner.Placements.{nothing}
use Rattle.chip_asm.specs.inner.Records.{IsPlaceWithin, count_after, items_after, lines_after, reading_in, readings_in, texts_in, first_changed}
use Rattle.chip_asm.specs.inner.Infos.{AreSteady}
use Rattle.chip_symbols.specs.Tables.{Tables}
use Rattle.chip_asm.proofs.KeptSteps.{exchanged, placed-many, begun-kept, kept-edited, needs-edited, texts-edited, within-lines}
use Rattle.chip_asm.proofs.Resumed.{Begun}
use Rattle.chip_asm.proofs.LinesAfter.{edited-items}
use Rattle.chip_asm.proofs.Views.{count-needed}
use Rattle.chip_asm.proofs.kept.Kept.remake.Goals as goal
use Rattle.chip_asm.proofs.kept.Kept.remake.Goals.{After-exchange}

pub exchange-requires-clause-placed_many : goal.exchange-requires-clause-placed_many
exchange-requires-clause-placed_many c =
    let room = c.reserve.new.self in
    omega (arith, placed-many room c.reserve.ensures.kept, room.layout.placements.ok.0, room.lines.ok.0)

pub exchange-requires-clause-counted : goal.exchange-requires-clause-counted
exchange-requires-clause-counted c = c.reserve.ensures.kept.laid_out.counted

-- the first lines stay the same and are steady
stays : (c : After-exchange) → c.steady_lines-first.result ≤ first_changed c.args.edit
stays c = omega (arith, c.steady_lines-first.ensures.within, c.first_changed-place.ensures)

begun : (c : After-exchange) → Begun c.args.self.now.lines.items c.args.edit c.steady_lines-first.result
begun c =
    begun-kept c.args.self.now c.args.edit c.steady_lines-first.result c.requires (stays c)
    (subst (λ (ls : List KeptLine). AreSteady ls c.steady_lines-first.result) c.deref.ensures.value c.steady_lines-first.ensures.steady)

-- the edit is made in the lines and in their placements
new-lines : (c : After-exchange) → c.exchange.new.self.lines.items ≡ lines_after c.args.self.now.lines.items c.args.edit
new-lines c = c.exchange.ensures.lines ∙ ap (λ ls. lines_after ls c.args.edit) c.in_ok-reserve.ensures.room.lines

-- everything is ready for both passes
ready : (c : After-exchange)
    → IsExchanged (change_of c.args.self.now c.args.edit) (record c.exchange.new.self { settled = c.steady_lines-first.result }) c.steady_lines-first.result c.address_at-here.result
ready c =
    let old : Kept = c.args.self.now in
    let first : ℕ = c.steady_lines-first.result in
    let has : HasRoomFor old c.reserve.new.self c.count_after-count.result = c.in_ok-reserve.ensures.room in
    let within : IsPlaceWithin (length old.lines.items) c.args.edit = within-lines old c.args.edit c.requires in
    let count : c.count_after-count.result ≡ count_after (length old.lines.items) c.args.edit = c.count_after-count.ensures ∙ ap (λ n. count_after n c.args.edit) (c.len.ensures ∙ old.lines.ok.0) in
    let inside : first ≤ length (lines_kept c.reserve.new.self) = (let long = (begun c).long in omega (arith, long, length-map old.lines.items reading_in, length-map c.reserve.new.self.lines.items reading_in, ap length has.lines)) in
    exchanged old _ c.args.edit first c.address_at-here.result (record {
      may = c.requires;
      begun = begun c;
      stays = stays c;
      at_address = subst (λ (ls : List KeptLine). c.address_at-here.result ≡ address (placed (take first (readings_in ls)))) has.lines
          (c.address_at-here.ensures (lines_kept c.reserve.new.self) c.reserve.ensures.kept.laid_out inside);
      lines = new-lines c;
      placements = edited-items old.layout.placements.items c.exchange.new.self.layout.placements.items c.args.edit nothing (length old.lines.items) (placed-many old c.requires.kept) within
          (c.exchange.ensures.placements ∙ ap (λ qs. items_after qs c.args.edit nothing) has.placements);
      counted = c.exchange.ensures.counted;
      image = λ k h. ap (λ (v : Vec ℕ Global). get_or v.items k 0) c.exchange.ensures.image ∙ c.reserve.ensures.kept.image.imaged k h ∙ ap (λ ls. right_byte (readings_in ls) k) has.lines;
      image_long = ap (λ (v : Vec ℕ Global). vec_len v) c.exchange.ensures.image ∙ has.image_long;
      spare_long = ap (λ (v : Vec ℕ Global). vec_len v) c.exchange.ensures.spare ∙ has.spare_long;
      keys = ap (λ (t : Tables). t.keys) c.exchange.ensures.names ∙ c.begin.ensures.keys ∙ ap (λ (t : Tables). t.keys) has.names;
      before = ap (λ (t : Tables). t.before) c.exchange.ensures.names ∙ c.in_ok-begin.ensures.before ∙ ap (λ (t : Tables). values_of t.symbols) has.names;
      symbols = λ early later split up over.
          ap (λ (t : Tables). t.symbols) c.exchange.ensures.names ∙ c.in_ok-begin.ensures.symbols early later (ap (λ (t : Tables). t.symbols) has.names ∙ split) up over;
      names_room = rw c.exchange.ensures.names (omega (arith, c.in_ok-begin.ensures.room, count));
      blocks_room = omega (arith, ap (λ (v : Vec Block Global). vec_capacity v) c.exchange.ensures.blocks, has.blocks_room, count);
    })

pub assemble-requires : goal.assemble-requires
assemble-requires c = (change_of c.args.self.now c.args.edit, ready (goal.at.assemble-requires c).After-exchange)

pub returns-clause-kept : goal.returns-clause-kept
returns-clause-kept c =
    let by = (goal.at.returns-clause-kept c).After-exchange in
    kept-edited c.args.self.now c.assemble.new.self c.args.edit c.steady_lines-first.result c.requires (begun by)
    (ap (λ (v : Vec KeptLine Global). v.items) c.assemble.ensures.lines ∙ new-lines by)
    c.assemble.ensures.settled (c.assemble.ensures.assembled (change_of c.args.self.now c.args.edit) (ready by))

pub returns-clause-ok : goal.returns-clause-ok
returns-clause-ok c =
    ap (λ (v : Vec KeptLine Global). texts_in v.items) c.assemble.ensures.lines ∙ ap texts_in (new-lines (goal.at.returns-clause-ok c).After-exchange) ∙ texts-edited c.args.self.now.lines.items c.args.edit

pub returns-clause-encoded : goal.returns-clause-encoded
returns-clause-encoded c =
    let e : Change = change_of c.args.self.now c.args.edit in
    omega (arith, c.assemble.ensures.encoded e (ready (goal.at.returns-clause-encoded c).After-exchange), count-needed e.was e.now e.origin, needs-edited c.args.self.now c.args.edit c.requires)
