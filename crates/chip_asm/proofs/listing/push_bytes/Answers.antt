use Rattle.std.proofs.Common.{◌≡◌, ◌∙◌, ◌++◌, ◌∷◌, ◌-◌, ◌*◌, [], ap, append_assoc, arith, get_or, replicate, sym}
use Rattle.chip_lang.specs.Show.{two_hex_digits}
use Rattle.chip_asm.specs.Listing.{at_left, bytes_shown}
use Rattle.chip_asm.proofs.ListingSteps.{length-bytes, pair-more}
use Rattle.chip_asm.proofs.listing.push_bytes.Goals as goal

pub loop-index-preserved : goal.loop-index-preserved
loop-index-preserved c =
    let pair = c.byte_digits-in-loop-index in
    pair-more c.loop-index.index c.args.bytes.now c.loop-index.digits (get_or pair.result 0 0) (get_or pair.result 1 0) (omega arith) c.loop-index.invariant
    (ap (λ l. get_or l 0 0 ∷ get_or l 1 0 ∷ []) pair.ensures ∙ ap two_hex_digits c.byte_or_zero-in-loop-index.ensures)

pub returns : goal.returns
returns c =
    let all : c.loop-index.index ≡ c.args.count = omega arith in
    c.in_ok-extend_from_slice-2.ensures.items
    ∙ ap (λ l. l ++ c.args.more ∷ 32 ∷ [])
    (c.in_ok-extend_from_slice.ensures.items
    ∙ ap (λ d. c.args.out.now.items ++ d)
    (c.loop-index.invariant ∙ ap (λ n. bytes_shown n c.args.bytes.now ++ replicate (12 - 2 * n) 32) all
    ∙ ap (λ m. bytes_shown c.args.count c.args.bytes.now ++ replicate (12 - m) 32) (sym (length-bytes c.args.count c.args.bytes.now))))
    ∙ append_assoc c.args.out.now.items (at_left 12 (bytes_shown c.args.count c.args.bytes.now)) (c.args.more ∷ 32 ∷ [])
