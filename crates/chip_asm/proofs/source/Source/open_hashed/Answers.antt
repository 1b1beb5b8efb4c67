use Rattle.std.proofs.Common.{◌≡◌, arith, ap, length, map, subst, sym, []}
use Rattle.chip_lang.specs.Line.{reading_of}
use Rattle.chip_asm.specs.Work.{accepted_of, lines_to_encode}
use Rattle.chip_asm.specs.declared.edit.LineEdit.TheVariants.{Open}
use Rattle.chip_asm.specs.inner.Infos.{AreInfos}
use Rattle.chip_symbols.specs.Tables.{Tables}
use Rattle.chip_asm.specs.inner.Records.{place_before, texts_in}
use Rattle.chip_asm.proofs.KeptSteps.{all-read}
use Rattle.chip_asm.proofs.Views.{count-accepted}
use Rattle.chip_asm.proofs.source.Source.open_hashed.Goals as goal

pub remake-requires : goal.remake-requires
remake-requires c =
    let none : c.new-kept.result.lines.items ≡ [] = c.new-kept.ensures.none in
    record {
      kept = c.new-kept.ensures.kept;
      within = (let long : length c.new-kept.result.lines.items ≡ 0 = ap length none in omega (arith, long, c.new-kept.result.lines.ok.0));
      few = c.in_ok-lines.ensures.few;
      are_read = all-read c.in_ok-lines.lines.items c.in_ok-lines.ensures.read;
      infos = subst (λ (t : Tables). AreInfos t.keys c.in_ok-lines.lines.items) (sym c.new-kept.ensures.names) c.in_ok-lines.ensures.infos;
    }

pub returns-clause-encoded : goal.returns-clause-encoded
unfolding accepted_of lines_to_encode
returns-clause-encoded c =
    let few = count-accepted (map reading_of (texts_in c.new-kept.result.lines.items)) (map reading_of (texts_in c.in_ok-lines.lines.items)) (place_before (Open c.in_ok-lines.lines)) in
    rw c.in_ok-remake.ensures.ok (omega (arith, c.remake.ensures.encoded, c.read_lines.ensures.encoded, few))
