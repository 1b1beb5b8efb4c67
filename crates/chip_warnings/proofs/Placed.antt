-- The warnings of one more line, and their places.
use Rattle.std.proofs.Common.{◌≡◌, ℕ, ◌≤◌, ◌-◌, ◌∙◌, List, [], ◌∷◌, ◌++◌, All, Some, length, get_or, slice_get, ap, sym, subst, append_assoc, arith}
use Rattle.std.proofs.lemmas.List.{append-nil}
use Rattle.std.proofs.lemmas.Option.{get_or_from_slice_get, slice_get_within}
use Rattle.std.proofs.lemmas.List.Elements.{All-append, All-nil, All-push, All-weaker}
use Rattle.chip_warnings.specs.declared.warning.Warning.{Warning}
use Rattle.chip_warnings.specs.Warnings.{Adds, StandsAt, StandsIn}

module _ (P : Warning → Type 0) where
  pub adds_none : (old : List Warning) → Adds P old old
  adds_none old = record { more = []; are = sym (append-nil old); each = All-nil P }

  pub adds_one : (old mid new : List Warning) (w : Warning) → Adds P old mid → new ≡ mid ++ w ∷ [] → P w → Adds P old new
  adds_one old mid new w so_far pushed there = record {
    more = so_far.more ++ w ∷ [];
    are = pushed ∙ ap (λ ws. ws ++ w ∷ []) so_far.are ∙ append_assoc old so_far.more (w ∷ []);
    each = All-push P so_far.more w so_far.each there;
  }

module _ (allowed : ℕ) (lines : List (List ℕ)) (number : ℕ) (line : List ℕ) (low : 1 ≤ number) (at : slice_get lines (number - 1) ≡ Some line) where
  stands : (w : Warning) → StandsAt allowed number line w → StandsIn allowed lines w
  stands w there = record {
    from_one = omega (arith, there.there, low);
    to_last = omega (arith, there.there, low, slice_get_within lines (number - 1) line at);
    rises = there.rises;
    inside = subst (λ l. w.span.end ≤ length l) (sym (ap (λ n. get_or lines (n - 1) []) there.there ∙ get_or_from_slice_get lines (number - 1) line [] at)) there.inside;
    told = there.told;
  }

  pub next_placed : (old new : List Warning) → All (StandsIn allowed lines) old → Adds (StandsAt allowed number line) old new → All (StandsIn allowed lines) new
  next_placed old new before added =
      subst (All (StandsIn allowed lines)) (sym added.are)
      (All-append (StandsIn allowed lines) old added.more before (All-weaker (StandsAt allowed number line) (StandsIn allowed lines) stands added.more added.each))
