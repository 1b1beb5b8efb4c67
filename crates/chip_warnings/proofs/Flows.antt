-- How the flow at the next line follows from the flow at a line.
use Rattle.std.proofs.Common.{◌≡◌, ◌∙◌, ◌&&◌, ◌||◌, ℕ, Bool, true, false, not, if◌then◌else◌, List, ◌∷◌, Some, ap, refl, sym}
use Rattle.chip_warnings.specs.declared.flow.Flow.{Flow}
use Rattle.chip_warnings.specs.declared.flow.Reach.{Reach}
use Rattle.chip_warnings.specs.declared.flow.Reach.TheVariants.{Unsure}
use Rattle.chip_warnings.specs.declared.seen.Says.{Says}
use Rattle.chip_warnings.specs.declared.seen.Says.TheVariants.{Nothing, Code, Rows, PerhapsCode, Data}
use Rattle.chip_warnings.specs.declared.seen.Seen.{Seen}
use Rattle.chip_warnings.specs.Reach.{base_before, begins_since, draws_among, flow_after, has_bytes, last_with_bytes, reach_after, reach_at, reach_by, reach_past}
use Rattle.chip_warnings.specs.Instructions.{may_skip}
use Rattle.chip_warnings.specs.Seen.{holds_of, is_draw}

module _ (jumped : ℕ → Bool) (above : List Seen) (s : Seen) (flow : Flow) (before : flow ≡ flow_after jumped above) where
  -- after a line without bytes
  pub after-nothing : (begins : Bool) → s.says ≡ Nothing → begins ≡ (s.begins || flow.begins) → record { last = flow.last; begins = begins; reach = flow.reach; has_drawn = flow.has_drawn } ≡ flow_after jumped (s ∷ above)
  unfolding flow_after
  after-nothing begins says begun =
      let last : flow.last ≡ last_with_bytes (s ∷ above) = ap (λ f. f.last) before ∙ ap (λ x. if has_bytes x then Some s else last_with_bytes above) (sym says) in
      let begin : begins ≡ begins_since (s ∷ above)
      = begun ∙ ap (λ f. s.begins || f.begins) before ∙ ap (λ x. not (has_bytes x) && (s.begins || begins_since above)) (sym says) in
      let reach : flow.reach ≡ reach_after jumped (s ∷ above) = ap (λ f. f.reach) before ∙ ap (reach_by jumped (flow_after jumped above) s) (sym says) in
      let drawn : flow.has_drawn ≡ draws_among (s ∷ above) = ap (λ f. f.has_drawn) before ∙ ap (λ x. is_draw x || draws_among above) (sym says) in
      λ j. record { last = last j; begins = begin j; reach = reach j; has_drawn = drawn j }

  -- after a line with bytes
  past-bytes : (reach : Reach) → has_bytes s.says ≡ true → reach ≡ reach_by jumped (flow_after jumped above) s s.says → record { last = Some s; begins = false; reach = reach; has_drawn = is_draw s.says || flow.has_drawn } ≡ flow_after jumped (s ∷ above)
  unfolding flow_after
  past-bytes reach bytes reached =
      let last : Some s ≡ last_with_bytes (s ∷ above) = ap (λ b. if b then Some s else last_with_bytes above) (sym bytes) in
      let begin : false ≡ begins_since (s ∷ above) = ap (λ b. not b && (s.begins || begins_since above)) (sym bytes) in
      let drawn : (is_draw s.says || flow.has_drawn) ≡ draws_among (s ∷ above) = ap (λ f. is_draw s.says || f.has_drawn) before in
      λ j. record { last = last j; begins = begin j; reach = reached j; has_drawn = drawn j }

  -- after an instruction
  pub after-code : (base word : ℕ) (reach : Reach) → s.says ≡ Code base word → reach ≡ reach_past (holds_of may_skip (base_before flow.last s.address)) base (reach_at jumped flow s)
      → record { last = Some s; begins = false; reach = reach; has_drawn = is_draw s.says || flow.has_drawn } ≡ flow_after jumped (s ∷ above)
  after-code base word reach says reached =
      past-bytes reach (ap has_bytes says)
      (reached ∙ ap (λ (f : Flow). reach_past (holds_of may_skip (base_before f.last s.address)) base (reach_at jumped f s)) before ∙ ap (reach_by jumped (flow_after jumped above) s) (sym says))

  -- after a line with bytes that aren't an instruction
  pub after-others : (says : Says) → s.says ≡ says → (says ≡ Nothing → ⊥) → ((base word : ℕ) → says ≡ Code base word → ⊥) → record { last = Some s; begins = false; reach = Unsure; has_drawn = is_draw s.says || flow.has_drawn } ≡ flow_after jumped (s ∷ above)
  after-others Nothing is no_nothing no_code = absurd (no_nothing refl)
  after-others (Code base word) is no_nothing no_code = absurd (no_code base word refl)
  after-others (Rows count) is no_nothing no_code = past-bytes Unsure (ap has_bytes is) (ap (reach_by jumped (flow_after jumped above) s) (sym is))
  after-others PerhapsCode is no_nothing no_code = past-bytes Unsure (ap has_bytes is) (ap (reach_by jumped (flow_after jumped above) s) (sym is))
  after-others Data is no_nothing no_code = past-bytes Unsure (ap has_bytes is) (ap (reach_by jumped (flow_after jumped above) s) (sym is))
