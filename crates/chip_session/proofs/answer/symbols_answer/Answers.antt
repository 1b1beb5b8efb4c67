use Rattle.std.proofs.Common.{◌≡◌, ◌∙◌, ◌++◌, ◌∷◌, [], ◌+◌, ◌<◌, ℕ, List, Some, ap, length, slice_get, sym, take}
use Rattle.std.specs.List.{flat_map}
use Rattle.std.proofs.lemmas.Grind.{flat_map-append}
use Rattle.std.proofs.lemmas.List.{append-nil, take_more}
use Rattle.std.proofs.lemmas.List.Concat.{flat_map-cons}
use Rattle.std.proofs.lemmas.Option.{get_or_from_slice_get, slice_get_within}
use Rattle.chip_symbols.specs.declared.table.Symbol.{Symbol}
use Rattle.chip_asm.specs.Program.{symbols_of}
use Rattle.chip_session.specs.Answers.{symbol_line}
use Rattle.chip_session.proofs.answer.symbols_answer.Goals as goal

one-line : (before : List (List ℕ × Symbol)) (one : List ℕ × Symbol) → flat_map symbol_line (before ++ one ∷ []) ≡ flat_map symbol_line before ++ symbol_line one
one-line before one =
    flat_map-append symbol_line before (one ∷ []) ∙ ap (λ t. flat_map symbol_line before ++ t) (flat_map-cons symbol_line one [] ∙ append-nil (symbol_line one))

pub loop-place-preserved : goal.loop-place-preserved
loop-place-preserved c =
    let all : List (List ℕ × Symbol) = symbols_of c.args.source.now.lines in
    let k : ℕ = c.loop-place.place in
    let one : List ℕ × Symbol = (c.in-Some.name.now, c.in-Some.symbol) in
    let at : slice_get all k ≡ Some one = sym c.in-Some.ensures in
    let inside : k < length all = slice_get_within all k one at in
    let more : take (k + 1) all ≡ take k all ++ one ∷ [] = take_more all k one inside ∙ ap (λ (x : List ℕ × Symbol). take k all ++ x ∷ []) (get_or_from_slice_get all k one one at) in
    c.in_ok-push_symbol.ensures ∙ ap (λ t. t ++ symbol_line one) c.loop-place.invariant ∙ sym (ap (flat_map symbol_line) more ∙ one-line (take k all) one)
