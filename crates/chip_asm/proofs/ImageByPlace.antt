-- The names, the image and the faults of a source, by place.
use Rattle.std.proofs.Common.{◌≡◌, ℕ, ◌+◌, ◌-◌, ◌<◌, ◌==◌, List, [], ◌∷◌, map, reverse, length, get_or, slice_get, refl, ap, sym, ◌∙◌, arith, Bool, Option, Some, None, true, false, cond, is_some}
use Rattle.std.specs.List.{range_with_len}
use Rattle.std.proofs.lemmas.Bool.{false_from_ne_true}
use Rattle.std.proofs.lemmas.Bool.Decides.{nat_tests}
use Rattle.std.proofs.lemmas.List.{length-map}
use Rattle.std.proofs.lemmas.List.FromFn.{get_or-map-range_with_len, length-range_with_len}
use Rattle.std.proofs.lemmas.Option.{same_Some}
use Rattle.chip_lang.specs.declared.fault.Fault.{Fault}
use Rattle.chip_lang.specs.declared.fault.Fault.TheVariants.{UnclosedIf}
use Rattle.chip_lang.specs.declared.limits.TheConstants.{IMAGE_START}
use Rattle.chip_lang.specs.Line.{Reading}
use Rattle.chip_asm.specs.Layout.{Placed}
use Rattle.chip_asm.specs.Places.{ArePlaced, IsFaultOf, IsImage, IsUnclosed, bytes_in_code, code_among, fault_in_code, names_given}
use Rattle.chip_asm.specs.Program.{byte_at, bytes_of_lines, code_under, fault_of, fault_of_line, faults_of_lines, image_of_lines, is_unclosed, names_of_lines, unless_faulty}
use Rattle.chip_asm.specs.computed.Walk.{address, placed, symbols}
use Rattle.chip_asm.specs.inner.Placements.{final_placement}
use Rattle.chip_asm.proofs.Resumed.{end-low}
use Rattle.chip_asm.proofs.LinesApart.{covering, ends-by, outside}
use Rattle.chip_asm.proofs.LinesByPlace.{at-line, byte-line, byte-outside, low}
use Rattle.chip_asm.proofs.PlacesAgree.{address-of, only, unclosed}

pub names-given : (lines : List Reading) (all : List Placed) → ArePlaced lines all → names_of_lines lines ≡ names_given all
unfolding symbols
names-given lines all a = ap names_given (sym (only lines all a))

unfaulty : (faults : List (ℕ × Fault)) (made bytes : List ℕ) → unless_faulty faults made ≡ Some bytes → bytes ≡ made
unfaulty [] made bytes e = same_Some bytes made (sym e)
unfaulty (f ∷ fs) made bytes e = cc

image-made : (lines : List Reading) → IsImage (reverse (placed lines)) (bytes_of_lines (placed lines))
unfolding symbols
image-made lines =
    let size : ℕ = address (placed lines) - IMAGE_START in
    let long : length (bytes_of_lines (placed lines)) ≡ size = length-map (range_with_len IMAGE_START size) (byte_at (placed lines)) ∙ length-range_with_len IMAGE_START size in
    let end : IMAGE_START + length (bytes_of_lines (placed lines)) ≡ address (placed lines) = omega (arith, long, end-low lines) in
    record {
      up_to = rw end (address-of (placed lines));
      of_line = λ i k p at inside.
          (let a = at-line lines i p at in
          let from : IMAGE_START + (p.here + k - IMAGE_START) ≡ p.here + k = omega (arith, low lines i (final_placement (placed lines) p) a) in
          byte lines size (p.here + k - IMAGE_START) (omega (arith, ends-by lines i p at, end, from, long)) ∙ ap (byte_at (placed lines)) from
          ∙ byte-line lines i (final_placement (placed lines) p) a (p.here + k) (covering p.here p.size (p.here + k) (omega arith) (omega arith))
          ∙ ap (λ n. get_or (bytes_in_code (code_among (reverse (placed lines)) p)) n 0) (omega arith));
      between = λ k inside none. byte lines size k (omega (arith, long)) ∙ byte-outside lines (IMAGE_START + k) (λ i p at. outside p.here p.size (IMAGE_START + k) (none i p at));
    }
  where
    byte : (lines : List Reading) (size k : ℕ) → k < size → get_or (map (byte_at (placed lines)) (range_with_len IMAGE_START size)) k 0 ≡ byte_at (placed lines) (IMAGE_START + k)
    byte lines size k h = get_or-map-range_with_len (byte_at (placed lines)) IMAGE_START size k (IMAGE_START + k) 0 h refl

pub image-given : (lines : List Reading) (bytes : List ℕ) (all : List Placed) → image_of_lines lines ≡ Some bytes → ArePlaced lines all → IsImage all bytes
image-given lines bytes all is a = rw (unfaulty (faults_of_lines lines) (bytes_of_lines (placed lines)) bytes is, only lines all a) (image-made lines)

abbrev fault_from : (active unclosed : Bool) → (first second : Option Fault) → Option Fault
fault_from active unclosed first second = cond active (cond (is_some (cond unclosed (Some UnclosedIf) first)) (cond unclosed (Some UnclosedIf) first) second) None

fault-made : (lines : List Reading) (i : ℕ) (p : Placed) → slice_get (reverse (placed lines)) i ≡ Some p → IsFaultOf (reverse (placed lines)) i p (fault_of (placed lines) p)
unfolding symbols
fault-made lines i p at =
    let decided = unclosed lines i p at in
    let u : Bool = is_unclosed (placed lines) p in
    let s : Option Fault = fault_in_code (code_under (placed lines) p) in
    let active_as = λ (e : p.active ≡ true). ap (λ l. fault_from l u p.fault s) e in
    let closed_as = λ (closed : IsUnclosed (reverse (placed lines)) i p → ⊥). ap (λ b. fault_from true b p.fault s) (false_from_ne_true u (λ e. closed (decided.0 e))) in
    record {
      not_active = λ dead. ap (λ l. fault_from l u p.fault s) dead;
      unclosed = λ x. active_as x.active ∙ ap (λ b. fault_from true b p.fault s) (decided.1 x);
      first = λ active closed some. active_as active ∙ closed_as closed ∙ ap (λ b. cond b p.fault s) some;
      second = λ active closed none. active_as active ∙ closed_as closed ∙ ap (λ o. cond (is_some o) o s) none;
    }

pub fault-given : (lines : List Reading) (all : List Placed) (i : ℕ) (p : Placed) → ArePlaced lines all → slice_get all i ≡ Some p → IsFaultOf all i p (fault_of_line lines (i + 1))
fault-given lines all i p a at =
    let is : all ≡ reverse (placed lines) = only lines all a in
    let there : slice_get (reverse (placed lines)) i ≡ Some p = ap (λ ps. slice_get ps i) (sym is) ∙ at in
    let later : (i + 1 == 0) ≡ false = grind (arith, nat_tests) in
    let back : i + 1 - 1 ≡ i = omega arith in
    let one : fault_of_line lines (i + 1) ≡ fault_of (placed lines) p = rw (later, back, there) refl in
    rw (is, one) (fault-made lines i p there)
