use Rattle.std.proofs.Common.{◌≡◌, ℕ, ◌+◌, ◌-◌, ◌<◌, ◌≤◌, List, length, take, drop, get_or, sym, ap, ◌∙◌, arith, inl, inr}
use Rattle.std.proofs.lemmas.List.{places, get_or_past}
use Rattle.std.proofs.lemmas.Bool.{cases_lt}
use borrow.Rule.Slice.PartMut.{put_mid}
use Rattle.chip_machine.specs.State.{exchanged}
use Rattle.chip_machine.specs.inner.Exchanged.{chosen, chosen-same, is_exchanged, length-exchanged, get_or-exchanged_at}
use Rattle.chip_machine.proofs.memory.exchange_at.Goals as goal

-- bytes in a part of the memory are exchanged
module _ (m part : List ℕ) (from k : ℕ) (old new : List ℕ) (size : k ≡ length new) (alike : length old ≡ length new) (fits : from + length new ≤ length m) (is : part ≡ exchanged (take k (drop from m)) 0 old new) where
  length-mid : length (take k (drop from m)) ≡ k
  length-mid = grind (arith, places)

  length-part : length part ≡ k
  length-part = ap length is ∙ length-exchanged (take k (drop from m)) 0 old new ∙ length-mid

  get_or-mid : (at i : ℕ) → i < length new → at ≡ from + i → get_or (take k (drop from m)) i 0 ≡ get_or m at 0
  get_or-mid at i l e = grind (arith, places)

  whole_length : length (put_mid from k m part) ≡ length m
  whole_length = let known : length part ≡ k = length-part in grind (arith, places)

  stays_before : (at : ℕ) → at < length m → at < from → get_or (put_mid from k m part) at 0 ≡ get_or m at 0
  stays_before at l low = let known : length part ≡ k = length-part in grind (arith, places)

  stays_past : (at : ℕ) → at < length m → from + length new ≤ at → get_or (put_mid from k m part) at 0 ≡ get_or m at 0
  stays_past at l high = let known : length part ≡ k = length-part in grind (arith, places)

  within : (at i : ℕ) → i < length new → at ≡ from + i → get_or (put_mid from k m part) at 0 ≡ get_or part i 0
  within at i l e = let known : length part ≡ k = length-part in grind (arith, places)

  bytes : (at i : ℕ) → at < length m → at ≡ from + i → get_or (put_mid from k m part) at 0 ≡ chosen (get_or m at 0) (get_or old i 0) (get_or new i 0)
  bytes at i l e = elim (cases_lt i (length new)) [
    | inl a ↦
        within at i a e
        ∙ ap (λ xs. get_or xs i 0) is
        ∙ get_or-exchanged_at (take k (drop from m)) 0 old new i i (omega (arith, length-mid)) (omega arith)
        ∙ ap (λ x. chosen x (get_or old i 0) (get_or new i 0)) (get_or-mid at i a e)
    | inr a ↦
        stays_past at l (omega arith)
        ∙ sym (chosen-same (get_or m at 0) (get_or old i 0) (get_or new i 0) (get_or_past old i 0 (omega arith) ∙ sym (get_or_past new i 0 a)))
  ]

  whole : put_mid from k m part ≡ exchanged m from old new
  whole = is_exchanged m (put_mid from k m part) from old new whole_length stays_before bytes

pub returns : goal.returns
returns c =
    whole c.args.memory.now c.exchange_all.new.bytes c.args.at (c.args.at + length c.args.new.now - c.args.at) c.args.old.now c.args.new.now
    (omega arith) c.requires.alike c.requires.in_memory c.exchange_all.ensures
