use Rattle.std.proofs.Common.{◌≡◌, ◌∙◌, ℕ, ◌-◌, ◌<◌, ◌≤◌, ◌⊎◌, inl, inr, List, ◌++◌, ap, arith, refl, drop, get_or, length, length-append, replicate, take}
use Rattle.std.proofs.lemmas.Bool.{cases_lt}
use Rattle.std.proofs.lemmas.List.{get_or-append_right, get_or_append_left, get_or-replicate, get_or_past, length-drop, length-replicate, length-take-le}
use borrow.Rule.Slice.PartMut.{put_mid}
use Rattle.chip_asm.proofs.codes.copy_front.Goals as goal

-- zeros after the first bytes
behind : (old part : List ℕ) (end n m k : ℕ) → end ≤ length old → n ≡ length old - end → part ≡ replicate m 0 → end ≤ k → get_or (put_mid end n old part) k 0 ≡ 0
behind old part end n m k h all zeros past =
    get_or-append_right (take end old) (part ++ drop n (drop end old)) end k 0 (length-take-le end old h) past
    ∙ ap (λ l. get_or (l ++ drop n (drop end old)) (k - end) 0) zeros ∙ by (cases_lt (k - end) m)
  where
    by : (k - end < m) ⊎ (m ≤ k - end) → get_or (replicate m 0 ++ drop n (drop end old)) (k - end) 0 ≡ 0
    by (inl less) = get_or_append_left (replicate m 0) (drop n (drop end old)) 0 (k - end) (omega (arith, less, length-replicate {A = ℕ} m 0)) ∙ get_or-replicate m (k - end) 0 0 less
    by (inr more) =
        get_or-append_right (replicate m 0) (drop n (drop end old)) m (k - end) 0 (length-replicate {A = ℕ} m 0) more
        ∙ get_or_past (drop n (drop end old)) (k - end - m) 0 (omega (arith, length-drop n (drop end old), length-drop end old, all))

pub returns-clause-zeros : goal.returns-clause-zeros
returns-clause-zeros c = λ k past.
    behind (c.copy_from_slice.new.self ++ drop c.args.end c.args.image.now) c.fill.new.self c.args.end _ _ k
    (omega (arith, c.copy_from_slice.ensures.len, length-append c.copy_from_slice.new.self (drop c.args.end c.args.image.now), length-drop c.args.end c.args.image.now, length-take-le c.args.end c.args.image.now (omega (arith, c.requires.end, c.requires.long)))) refl (c.fill.ensures.after (λ y e. e)) past
