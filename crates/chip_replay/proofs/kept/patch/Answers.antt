use Rattle.std.proofs.Common.{◌≡◌, ◌≢◌, ℕ, ◌+◌, ◌-◌, ◌<◌, ◌≤◌, List, length, take, drop, min, max, get_or, set, refl, sym, ap, ◌∙◌, arith, ◌⊎◌, inl, inr, get_or-take}
use Rattle.std.proofs.lemmas.Bool.{cases_lt}
use Rattle.chip_machine.specs.State.{exchanged}
use Rattle.chip_machine.specs.inner.Exchanged.{chosen, chosen-new, chosen-same, get_or-take_past, length-exchanged, get_or-exchanged_before, get_or-exchanged_at, is_exchanged, exchanged_skip, exchanged_more, exchanged_rest}
use Rattle.chip_replay.specs.Limits.{image_start}
use Rattle.chip_replay.specs.Image.{AgreeOutside, patched}
use Rattle.chip_replay.proofs.TracedLaws.{IsMemory}
use Rattle.chip_replay.proofs.Places.{alike_past, get_or-part}
use Rattle.chip_replay.proofs.kept.patch.Goals as goal
use Rattle.chip_replay.proofs.kept.patch.Goals.{then-byte_at-byte, else-byte_at-byte}

taken_alike : (old new : List ℕ) (n i : ℕ) → (i < n → get_or old i 0 ≡ get_or new i 0) → get_or (take n old) i 0 ≡ get_or (take n new) i 0
taken_alike old new n i same = elim (cases_lt i n) [
  | inl a ↦ get_or-take n old i 0 a ∙ same a ∙ sym (get_or-take n new i 0 a)
  | inr a ↦ get_or-take_past n old i a ∙ sym (get_or-take_past n new i a)
]

-- exchanging the changed bytes at indexes that both images have exchanges all changed bytes up to the
-- first index that only one image has
module _ (m old new : List ℕ) (first end from to shorter n : ℕ) (agree : AgreeOutside first end old new) (is_from : from ≡ min first to) (is_to : to ≡ min end shorter) (size : n ≡ to - from) where
  outside : (i : ℕ) → i < max first shorter → (i < from) ⊎ (to ≤ i) → get_or old i 0 ≡ get_or new i 0
  outside i l (inl a) = agree.before i (omega arith)
  outside i l (inr a) = elim (cases_lt i end) [
    | inl below ↦ agree.before i (omega arith)
    | inr past ↦ agree.after i past
  ]

  bytes : (at i : ℕ) → at < length m → at ≡ image_start + i → get_or (exchanged m (image_start + from) (take n (drop from old)) (take n (drop from new))) at 0 ≡ chosen (get_or m at 0) (get_or (take (max first shorter) old) i 0) (get_or (take (max first shorter) new) i 0)
  bytes at i l e =
      let t = max first shorter in
      let there = get_or m at 0 in
      elim (cases_lt i from) [
        | inl a ↦
            get_or-exchanged_before m (image_start + from) (take n (drop from old)) (take n (drop from new)) at l (omega arith)
            ∙ sym (chosen-same there (get_or (take t old) i 0) (get_or (take t new) i 0) (taken_alike old new t i (λ b. outside i b (inl a))))
        | inr a ↦
            get_or-exchanged_at m (image_start + from) (take n (drop from old)) (take n (drop from new)) at (i - from) l (omega arith)
            ∙ elim (cases_lt i to) [
              | inl b ↦
                  ap (λ x. chosen there x (get_or (take n (drop from new)) (i - from) 0)) (get_or-part old from n i (i - from) (omega arith) (omega arith) ∙ sym (get_or-take t old i 0 (omega arith)))
                  ∙ ap (λ y. chosen there (get_or (take t old) i 0) y) (get_or-part new from n i (i - from) (omega arith) (omega arith) ∙ sym (get_or-take t new i 0 (omega arith)))
              | inr b ↦
                  chosen-same there (get_or (take n (drop from old)) (i - from) 0) (get_or (take n (drop from new)) (i - from) 0)
                  (get_or-take_past n (drop from old) (i - from) (omega arith) ∙ sym (get_or-take_past n (drop from new) (i - from) (omega arith)))
                  ∙ sym (chosen-same there (get_or (take t old) i 0) (get_or (take t new) i 0) (taken_alike old new t i (λ inside. outside i inside (inr b))))
            ]
      ]

  both_have : exchanged m (image_start + from) (take n (drop from old)) (take n (drop from new)) ≡ exchanged m image_start (take (max first shorter) old) (take (max first shorter) new)
  both_have =
      is_exchanged m (exchanged m (image_start + from) (take n (drop from old)) (take n (drop from new))) image_start (take (max first shorter) old) (take (max first shorter) new)
      (length-exchanged m (image_start + from) (take n (drop from old)) (take n (drop from new)))
      (λ at l low. get_or-exchanged_before m (image_start + from) (take n (drop from old)) (take n (drop from new)) at l (omega arith))
      bytes

pub loop-i-init : goal.loop-i-init
loop-i-init g c =
    let m = g.M.Traced in
    let s = c.args.state.now in
    let from = c.min-from.result in
    let to = c.min-to.result in
    let n = to - from in
    c.exchange.ensures.others
    ∙ ap (m.with_memory s)
    (c.exchange.ensures.bytes
    ∙ both_have (m.memory s) c.args.old.now c.args.new.now c.args.first c.args.end from to c.min-shorter.result n c.requires.alike c.min-from.ensures c.min-to.ensures refl
    ∙ ap (λ t. exchanged (m.memory s) image_start (take t c.args.old.now) (take t c.args.new.now)) (sym c.max-i.ensures))

-- the state after one more byte
poked_more : {S : Type 0} (memory : S → List ℕ) (with_memory : S → List ℕ → S) (part : IsMemory memory with_memory) (s before : S) (old new : List ℕ) (i v : ℕ) → before ≡ with_memory s (exchanged (memory s) image_start (take i old) (take i new)) → v ≡ chosen (get_or (memory s) (image_start + i) 0) (get_or old i 0) (get_or new i 0) → with_memory before (set (memory before) (image_start + i) v) ≡ with_memory s (exchanged (memory s) image_start (take (i + 1) old) (take (i + 1) new))
poked_more memory with_memory part s before old new i v is here =
    let bytes = exchanged (memory s) image_start (take i old) (take i new) in
    ap (λ x. with_memory x (set (memory x) (image_start + i) v)) is
    ∙ ap (λ m. with_memory (with_memory s bytes) (set m (image_start + i) v)) (part.read_back s bytes)
    ∙ part.replaced s bytes (set bytes (image_start + i) v)
    ∙ ap (with_memory s) (exchanged_more (memory s) image_start old new (image_start + i) i v refl here)

new_byte : (there x y old new : ℕ) → x ≡ old → y ≡ new → x ≢ y → y ≡ chosen there old new
new_byte there x y old new ex ey apart = ey ∙ sym (chosen-new there old new (λ same. apart (ex ∙ same ∙ sym ey)))

pub loop-i-preserved : goal.loop-i-preserved
loop-i-preserved g c =
    let m = g.M.Traced in
    let met = g.met.M.Traced in
    let s = c.args.state.now in
    let old = c.args.old.now in
    let new = c.args.new.now in
    let i = c.loop-i.i in
    elim c.if-byte_at-byte.branch [
      | then-byte_at-byte w ↦
          w.state-is ∙ w.poke.ensures.byte
          ∙ poked_more m.memory m.with_memory (record { read_back = met.memory_of_changed; same = met.changed_to_same; replaced = met.changed_twice }) s c.loop-i.state old new i c.byte_at-byte.result c.loop-i.invariant
          (new_byte (get_or (m.memory s) (image_start + i) 0) c.byte_at.result c.byte_at-byte.result (get_or old i 0) (get_or new i 0) c.byte_at.ensures c.byte_at-byte.ensures w.if-byte_at-byte.true)
      | else-byte_at-byte w ↦
          w.state-is ∙ c.loop-i.invariant
          ∙ ap (m.with_memory s) (exchanged_skip (m.memory s) image_start old new i (sym c.byte_at.ensures ∙ w.if-byte_at-byte.false ∙ c.byte_at-byte.ensures))
    ]

pub returns : goal.returns
unfolding patched
returns g c =
    let old = c.args.old.now in
    let new = c.args.new.now in
    c.loop-i.invariant
    ∙ ap (g.M.Traced.with_memory c.args.state.now)
    (exchanged_rest (g.M.Traced.memory c.args.state.now) image_start old new c.loop-i.i
    (λ i l. elim (cases_lt i c.args.end) [
      | inl a ↦ alike_past old new i (omega (arith, l, c.loop-i-test.false, c.min-i-end.ensures, c.max.ensures)) (omega (arith, l, c.loop-i-test.false, c.min-i-end.ensures, c.max.ensures))
      | inr a ↦ c.requires.alike.after i a
    ]))
