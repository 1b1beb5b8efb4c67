-- What `prove` did, from what its steps did.
use Rattle.std.proofs.Common.{◌≡◌, ◌≢◌, ◌⊎◌, inl, inr, ℕ, zero, suc, ◌<◌, ◌||◌, Bool, true, false, List, [], ◌∷◌, ◌++◌, append_assoc, append-nil, Option, Some, None, Result, Ok, Err, IfErr, IfOk, length, map, option_map, slice_get, refl, sym, ◌∙◌, ap, subst}
use Rattle.std.specs.Prelude.{slice_index_or}
use Rattle.std.specs.List.{All, flat_map, list_any, remove}
use Rattle.std.specs.List.Sorted.{IsPermutation}
use Rattle.std.proofs.KnownBytes.{Appends-nil, Appends-trans}
use Rattle.std.proofs.Math.Bool.{or-false, or_assoc}
use Rattle.std.proofs.lemmas.List.{length-map}
use Rattle.std.proofs.lemmas.List.Elements.{All-cons, All-map, All-nil}
use Rattle.std.proofs.lemmas.List.Sorted.{IsPermutation-cons, IsPermutation-refl, IsPermutation-remove, IsPermutation-trans}
use Rattle.std.proofs.lemmas.Option.{get_or_from_slice_get, slice_get-get_or, slice_get-map}
use Rattle.chip_arguments.specs.declared.command_line.ProveArguments.{ProveArguments}
use Rattle.chip_explore.specs.declared.property.Property.{Property}
use Rattle.chip_explore.specs.declared.question.Outcome.{Outcome as SearchOutcome}
use Rattle.chip_lang.specs.Meter.{one_more}
use Rattle.chip_machine.specs.State.{State}
use Rattle.chip_properties.specs.declared.stated.Stated.{Stated}
use Rattle.chip_session.specs.Tally.{Tally}
use Rattle.chip_session.specs.Writing.{Breaks, Writes}
use Rattle.chip_analysis.specs.Commands.{IsScriptUnwritten, ProvesFrom}
use Rattle.chip_host.specs.Endings.{Outcome}
use Rattle.chip_host.specs.Printing.{Printed, Prints, Streams, WritesFront, printed}
use Rattle.chip_check.specs.Check.{AreTexts}
use Rattle.chip_properties.specs.declared.fault.PropertyFault.{PropertyFault}
use Rattle.chip_analysis.specs.Proving.{Answered, AreAnswered, IsCounts, IsProofPrinted, IsReport, IsRight, counts_text, has_bad, has_faults, has_short, printed_answer, proof_ending, unstated_line}
use Rattle.chip_check.specs.Answer.{is_bad}
use Rattle.chip_host.specs.declared.ending.Ending.{Ending}
use Rattle.chip_host.specs.declared.ending.Ending.TheVariants.{Done}
use Rattle.chip_host.specs.declared.ending.Failure.{Failure}
use Rattle.chip_host.specs.declared.ending.Failure.TheVariants as failure
use Rattle.chip_analysis.specs.declared.proving.Head.{Head}
use Rattle.chip_analysis.specs.declared.proving.Left.{Left}
use Rattle.chip_analysis.specs.declared.proving.Told.{Told}
use Rattle.chip_analysis.specs.declared.proving.Verdict.{Verdict}
use Rattle.chip_analysis.specs.inner.Proofs.{IsAnswered, IsAnswering, IsLeft, IsSameAnswer, WritesAll, WritesUpTo, answered, head_of, missing_line, printed_head}

-- ---- what was written, one part after another

module _ {W : Type 0} (contents : W → Option (List ℕ)) where
  pub nothing_yet : (old : Tally W) → Writes contents old old []
  nothing_yet old = record { appended = Appends-nil (contents old.inner); no_failure = refl }

  pub no_front : (old new : Tally W) (text : List ℕ) → new ≡ old → WritesFront contents old new text
  no_front old new text same =
      rw same (record { front = []; begins = (text, refl); appended = Appends-nil (contents old.inner); no_failure = refl })

  pub whole_front : (old new : Tally W) (text : List ℕ) → Writes contents old new text → WritesFront contents old new text
  whole_front old new text w =
      record { front = text; begins = ([], sym (append-nil text)); appended = w.appended; no_failure = w.no_failure }

  module _ (old mid new : Tally W) (a b : List ℕ) (first : Writes contents old mid a) where
    pub writes_after : Writes contents mid new b → Writes contents old new (a ++ b)
    writes_after w = record {
      appended = Appends-trans (contents old.inner) (contents mid.inner) (contents new.inner) a b first.appended w.appended;
      no_failure = w.no_failure ∙ first.no_failure;
    }

    pub front_after : WritesFront contents mid new b → WritesFront contents old new (a ++ b)
    front_after f = record {
      front = a ++ f.front;
      begins = (f.begins.0, ap (λ l. a ++ l) f.begins.1 ∙ sym (append_assoc a f.front f.begins.0));
      appended = Appends-trans (contents old.inner) (contents mid.inner) (contents new.inner) a f.front first.appended f.appended;
      no_failure = f.no_failure ∙ first.no_failure;
    }

    pub breaks_after : Breaks contents mid new b → Breaks contents old new (a ++ b)
    breaks_after f = record {
      front = a ++ f.front;
      begins = (f.begins.0, ap (λ l. a ++ l) f.begins.1 ∙ sym (append_assoc a f.front f.begins.0));
      appended = Appends-trans (contents old.inner) (contents mid.inner) (contents new.inner) a f.front first.appended f.appended;
      counted = f.counted ∙ ap one_more first.no_failure;
    }

    module _ {T : Type 0} where
      pub all_after : (result : Result T Failure) → WritesAll contents mid new b result → WritesAll contents old new (a ++ b) result
      all_after (Ok value) w = writes_after w
      all_after (Err failure.Output) w = breaks_after w
      all_after (Err failure.OutOfMemory) w = front_after w
      all_after (Err _) w = absurd w

      pub up_to_after : (Why : Failure → Type 0) (result : Result T Failure) → WritesUpTo contents mid new Why b result
          → WritesUpTo contents old new Why (a ++ b) result
      up_to_after Why result (inl w) = inl (all_after result w)
      up_to_after Why result (inr w) = inr (w.0, front_after w.1)

  -- a text that is printed, as a part
  pub all_printed : {T : Type 0} (old new : Tally W) (text : List ℕ) (why : Failure) (result : Result T Failure) → result ≡ Err why
      → Prints contents old new (printed text Done) (Err why) → WritesAll contents old new text result
  all_printed old new text failure.Output result e p = rw e p
  all_printed old new text failure.OutOfMemory result e p = rw e (no_front old new text p)
  all_printed old new text _ result e p = absurd p

  pub all_short : {T : Type 0} (old new : Tally W) (text : List ℕ) (result : Result T Failure) → result ≡ Err failure.OutOfMemory → new ≡ old
      → WritesAll contents old new text result
  all_short old new text result e same = rw e (no_front old new text same)

  -- what hinders writing doesn't depend on the type of the answer
  pub as_told : (S T : Type 0) (old new : Tally W) (why : Failure) (text : List ℕ) → WritesAll contents old new {T = S} text (Err why)
      → WritesAll contents old new {T = T} text (Err why)
  as_told S T old new failure.Output text w = w
  as_told S T old new failure.OutOfMemory text w = w
  as_told S T old new _ text w = absurd w

  -- a front of a text is one of a longer text
  module _ (old new : Tally W) (a b : List ℕ) where
    pub front_more : WritesFront contents old new a → WritesFront contents old new (a ++ b)
    front_more f = record {
      front = f.front;
      begins = (f.begins.0 ++ b, ap (λ l. l ++ b) f.begins.1 ∙ append_assoc f.front f.begins.0 b);
      appended = f.appended;
      no_failure = f.no_failure;
    }

    pub breaks_more : Breaks contents old new a → Breaks contents old new (a ++ b)
    breaks_more f = record {
      front = f.front;
      begins = (f.begins.0 ++ b, ap (λ l. l ++ b) f.begins.1 ∙ append_assoc f.front f.begins.0 b);
      appended = f.appended;
      counted = f.counted;
    }

or_same : (b : Bool) → (b || b) ≡ b
or_same true = refl
or_same false = refl

-- ---- properties by their places

map_remove : {A B : Type 0} (f : A → B) (xs : List A) (i : ℕ) → remove (map f xs) i ≡ map f (remove xs i)
map_remove f [] zero = refl
map_remove f [] (suc i) = refl
map_remove f (x ∷ xs) zero = refl
map_remove f (x ∷ xs) (suc i) = ap (λ ys. f x ∷ ys) (map_remove f xs i)

-- an element of a list that is mapped
mapped_at : {A B : Type 0} (f : A → B) (xs : List A) (i : ℕ) (y : B) → slice_get (map f xs) i ≡ Some y → (x : A) × (slice_get xs i ≡ Some x) × (y ≡ f x)
mapped_at f xs i y e = by (slice_get xs i) refl
  where
    some_same : {C : Type 0} {a b : C} → Some a ≡ Some b → b ≡ a
    some_same h = cc

    none_some : {C : Type 0} {a : C} → ◌≡◌ {A = Option C} None (Some a) → ⊥
    none_some h = cc

    by : (o : Option _) → slice_get xs i ≡ o → (x : _) × (slice_get xs i ≡ Some x) × (y ≡ f x)
    by (Some x) is = (x, is, let h : Some (f x) ≡ Some y = sym (slice_get-map f xs i ∙ ap (option_map f) is) ∙ e in some_same h)
    by None is = absurd (none_some (sym (slice_get-map f xs i ∙ ap (option_map f) is) ∙ e))

module _ (arguments : ProveArguments) (lines : List (List ℕ)) (rate keys : ℕ) (start : State) where
  pub same_line : (verdict : Verdict) (one : Stated) (told : SearchOutcome) → IsSameAnswer told verdict.outcome →
      printed_answer arguments lines (answered verdict one told) ≡ printed_head arguments lines verdict (head_of one)
  same_line verdict one told same = same.text _ _ _ _ _ _

  module _ {W : Type 0} (contents : W → Option (List ℕ)) (old new : Tally W) where
    abbrev pub Comes : List Stated → (was_bad was_short : Bool) → Result Told Failure → Type 0
    Comes asked was_bad was_short result = IsAnswering contents old new arguments lines rate keys start asked was_bad was_short result

    abbrev pub Why : Failure → Type 0
    Why = IsScriptUnwritten arguments.search.keys_to

    nothing_left : (asked : List Stated) (heads : List Head) → heads ≡ map head_of asked → heads ≡ [] → asked ≡ []
    nothing_left [] heads same none = refl
    nothing_left (one ∷ asked) heads same none = cc

    -- no property is left
    pub comes_none : (asked : List Stated) (left : Left) (told : Told) → IsLeft asked left → left.heads.items ≡ [] → new ≡ old →
        Comes asked told.is_bad told.is_short (Ok told)
    comes_none asked left told is none same = record {
      given = [];
      left = asked;
      answered = record { all = IsPermutation-refl asked; right = All-nil (IsRight rate keys start) };
      written = inl (rw same (nothing_yet contents old));
      whole = nothing_left asked left.heads.items is.heads none;
      bad = sym (or-false told.is_bad);
      short = sym (or-false told.is_short);
    }

    -- the search met nothing, and its answer is that of all properties that are left
    module _ (asked : List Stated) (heads : List Head) (verdict : Verdict) (told later : Told) (heads_are : heads ≡ map head_of asked)
        (each : (k : ℕ) (one : Stated) → slice_get asked k ≡ Some one → IsRight rate keys start (answered verdict one verdict.outcome)) where
      abbrev all_given : List Answered
      all_given = map (λ one. answered verdict one verdict.outcome) asked

      stated_again : (xs : List Stated) → map (λ (one : Answered). one.stated) (map (λ one. answered verdict one verdict.outcome) xs) ≡ xs
      stated_again [] = refl
      stated_again (x ∷ xs) = ap (λ ys. x ∷ ys) (stated_again xs)

      text_again : (xs : List Stated) → flat_map (printed_answer arguments lines) (map (λ one. answered verdict one verdict.outcome) xs)
          ≡ flat_map (printed_head arguments lines verdict) (map head_of xs)
      text_again [] = refl
      text_again (x ∷ xs) = ap (λ (l : List ℕ). printed_head arguments lines verdict (head_of x) ++ l) (text_again xs)

      bad_again : (xs : List Stated) → has_bad (map (λ one. answered verdict one verdict.outcome) xs)
          ≡ list_any (λ (head : Head). is_bad head.kind verdict.outcome) (map head_of xs)
      bad_again [] = refl
      bad_again (x ∷ xs) = ap (λ (b : Bool). is_bad x.kind verdict.outcome || b) (bad_again xs)

      short_again : (xs : List Stated) → xs ≢ [] → has_short (map (λ one. answered verdict one verdict.outcome) xs) ≡ verdict.is_short
      short_again [] some = absurd (some refl)
      short_again (x ∷ []) some = or-false verdict.is_short
      short_again (x ∷ y ∷ ys) some =
          ap (λ (b : Bool). verdict.is_short || b) (short_again (y ∷ ys) (λ none. absurd (cc))) ∙ or_same verdict.is_short

      all_right : All (IsRight rate keys start) all_given
      all_right =
          All-map (IsRight rate keys start) (λ one. answered verdict one verdict.outcome) asked
          (λ k d within. each k (slice_index_or asked k d) (slice_get-get_or asked k d within))

      all_answered : AreAnswered rate keys start asked all_given []
      all_answered = record { all = rw (stated_again asked, append-nil asked) (IsPermutation-refl asked); right = all_right }

      text_is : flat_map (printed_head arguments lines verdict) heads ≡ flat_map (printed_answer arguments lines) all_given
      text_is = ap (flat_map (printed_head arguments lines verdict)) heads_are ∙ sym (text_again asked)

      pub comes_all : (found : Bool) → found ≡ list_any (λ (head : Head). is_bad head.kind verdict.outcome) heads →
          Writes contents old new (flat_map (printed_head arguments lines verdict) heads) → later.is_bad ≡ (told.is_bad || found) →
          later.is_short ≡ (told.is_short || verdict.is_short) → asked ≢ [] → Comes asked told.is_bad told.is_short (Ok later)
      comes_all found is w bad short some = record {
        given = all_given;
        left = [];
        answered = all_answered;
        written = inl (subst (λ (l : List ℕ). Writes contents old new l) text_is w);
        whole = refl;
        bad = bad ∙ ap (λ (b : Bool). told.is_bad || b)
            (is ∙ ap (list_any (λ (head : Head). is_bad head.kind verdict.outcome)) heads_are ∙ sym (bad_again asked));
        short = short ∙ ap (λ (b : Bool). told.is_short || b) (sym (short_again asked some));
      }

      pub comes_all_stopped : (result : Result Told Failure) (why : Failure) → result ≡ Err why →
          WritesAll contents old new {T = Bool} (flat_map (printed_head arguments lines verdict) heads) (Err why) → Comes asked told.is_bad told.is_short result
      comes_all_stopped result why e w =
          rw e (record {
            given = all_given;
            left = [];
            answered = all_answered;
            written = inl (as_told contents Bool Told old new why _ (subst (λ (l : List ℕ). WritesAll contents old new {T = Bool} l (Err why)) text_is w));
            whole = tt;
            bad = tt;
            short = tt;
          })

  -- the search met one, and the others are left
  module _ {W : Type 0} (contents : W → Option (List ℕ)) (asked : List Stated) (left after : Left) (verdict : Verdict) (k : ℕ) (head : Head)
      (is : IsLeft asked left) (says : (one : Stated) → slice_get asked k ≡ Some one → IsAnswered rate keys start verdict one)
      (taken : slice_get left.heads.items k ≡ Some head) (within : k < length left.heads.items)
      (heads : after.heads.items ≡ remove left.heads.items k) (properties : after.properties.items ≡ remove left.properties.items k) where
    found : (one : Stated) × (slice_get asked k ≡ Some one) × (head ≡ head_of one)
    found = mapped_at head_of asked k head (ap (λ (hs : List Head). slice_get hs k) (sym is.heads) ∙ taken)

    abbrev one : Stated
    one = found.0

    told_here : IsAnswered rate keys start verdict one
    told_here = says one found.1

    abbrev first : Answered
    first = answered verdict one told_here.outcome

    first_right : IsRight rate keys start first
    first_right = told_here.right

    line_is : flat_map (printed_head arguments lines verdict) (head ∷ []) ≡ printed_answer arguments lines first
    line_is = append-nil (printed_head arguments lines verdict head) ∙ ap (printed_head arguments lines verdict) found.2
        ∙ sym (same_line verdict one told_here.outcome told_here.same)

    bad_is : list_any (λ (h : Head). is_bad h.kind verdict.outcome) (head ∷ []) ≡ is_bad first.stated.kind first.outcome
    bad_is = or-false (is_bad head.kind verdict.outcome) ∙ ap (λ (h : Head). is_bad h.kind verdict.outcome) found.2 ∙ sym (told_here.same.bad one.kind)

    within_asked : k < length asked
    within_asked = rw (sym (length-map asked head_of), sym is.heads) within

    pub others_left : IsLeft (remove asked k) after
    others_left = record {
      heads = heads ∙ ap (λ (hs : List Head). remove hs k) is.heads ∙ map_remove head_of asked k;
      properties = properties ∙ ap (λ (ps : List Property). remove ps k) is.properties ∙ map_remove (λ (s : Stated). s.property) asked k;
    }

    moved : IsPermutation asked (one ∷ remove asked k)
    moved = IsPermutation-remove asked k one within_asked (sym (get_or_from_slice_get asked k one one found.1))

    -- no other property is answered
    first_answered : AreAnswered rate keys start asked (first ∷ []) (remove asked k)
    first_answered = record { all = moved; right = All-cons (IsRight rate keys start) first [] first_right (All-nil (IsRight rate keys start)) }

    module _ (old mid : Tally W) where
      -- telling it failed
      pub comes_stopped : (was_bad was_short : Bool) (result : Result Told Failure) (why : Failure) → result ≡ Err why →
          WritesAll contents old mid {T = Bool} (flat_map (printed_head arguments lines verdict) (head ∷ [])) (Err why) → Comes contents old mid asked was_bad was_short result
      comes_stopped was_bad was_short result why e w =
          let at : WritesAll contents old mid {T = Bool} (printed_answer arguments lines first ++ []) (Err why) =
          subst (λ (l : List ℕ). WritesAll contents old mid {T = Bool} l (Err why)) (sym (append-nil (printed_answer arguments lines first)))
          (subst (λ (l : List ℕ). WritesAll contents old mid {T = Bool} l (Err why)) line_is w) in
          rw e (record {
            given = first ∷ [];
            left = remove asked k;
            answered = first_answered;
            written = inl (as_told contents Bool Told old mid why _ at);
            whole = tt;
            bad = tt;
            short = tt;
          })

      module _ (w : Writes contents old mid (flat_map (printed_head arguments lines verdict) (head ∷ []))) where
        written_first : Writes contents old mid (printed_answer arguments lines first)
        written_first = subst (λ (l : List ℕ). Writes contents old mid l) line_is w

        -- its key events couldn't be written
        pub comes_unwritten : (was_bad was_short : Bool) (result : Result Told Failure) (why : Failure) → result ≡ Err why → Why contents old mid why →
            Comes contents old mid asked was_bad was_short result
        comes_unwritten was_bad was_short result why e unwritten =
            rw e (record {
              given = first ∷ [];
              left = remove asked k;
              answered = first_answered;
              written = inr (unwritten, front_more contents old mid (printed_answer arguments lines first) [] (whole_front contents old mid _ written_first));
              whole = tt;
              bad = tt;
              short = tt;
            })

        -- the others were answered
        pub comes_on : (new : Tally W) (was_bad was_short now_bad now_short bad_here : Bool) (result : Result Told Failure) →
            bad_here ≡ list_any (λ (h : Head). is_bad h.kind verdict.outcome) (head ∷ []) →
            now_bad ≡ (was_bad || bad_here) → now_short ≡ (was_short || verdict.is_short) → Comes contents mid new (remove asked k) now_bad now_short result →
            Comes contents old new asked was_bad was_short result
        comes_on new was_bad was_short now_bad now_short bad_here result here now short rest = record {
          given = first ∷ rest.given;
          left = rest.left;
          answered = record {
            all = IsPermutation-trans asked (one ∷ remove asked k) (one ∷ (map (λ (a : Answered). a.stated) rest.given ++ rest.left)) moved
                (IsPermutation-cons one _ _ rest.answered.all);
            right = All-cons (IsRight rate keys start) first rest.given first_right rest.answered.right;
          };
          written = up_to_after contents old mid new (printed_answer arguments lines first) (flat_map (printed_answer arguments lines) rest.given) written_first
              (IsScriptUnwritten arguments.search.keys_to) result rest.written;
          whole = rest.whole;
          bad = bad_after result (λ told. told.is_bad) rest.bad;
          short = short_after result rest.short;
        }
          where
            bad_after : (result : Result Told Failure) (f : Told → Bool) → IfOk result (λ told. f told ≡ (now_bad || has_bad rest.given)) →
                IfOk result (λ told. f told ≡ (was_bad || (is_bad first.stated.kind first.outcome || has_bad rest.given)))
            bad_after (Ok told) f e =
                e ∙ ap (λ (b : Bool). b || has_bad rest.given) (now ∙ ap (λ (b : Bool). was_bad || b) (here ∙ bad_is))
                ∙ or_assoc was_bad (is_bad first.stated.kind first.outcome) (has_bad rest.given)
            bad_after (Err why) f e = tt

            short_after : (result : Result Told Failure) → IfOk result (λ told. told.is_short ≡ (now_short || has_short rest.given)) →
                IfOk result (λ told. told.is_short ≡ (was_short || (verdict.is_short || has_short rest.given)))
            short_after (Ok told) e = e ∙ ap (λ (b : Bool). b || has_short rest.given) short ∙ or_assoc was_short verdict.is_short (has_short rest.given)
            short_after (Err why) e = tt

  -- ---- the reports before the answers, and what stands below them

  module _ {W : Type 0} (contents : W → Option (List ℕ)) (asked : List Stated) (faults : List PropertyFault) (reports : List ℕ)
      (reported : AreTexts (IsReport arguments lines) faults reports) where
    abbrev pub From : (old new : Tally W) → Outcome → Type 0
    From old new ended = ProvesFrom contents old new arguments lines rate keys start asked faults ended

    abbrev is_faulty : Bool
    is_faulty = has_faults arguments.only faults

    abbrev Counted : List Answered → List ℕ → Type 0
    Counted given counts = IsCounts arguments.is_json arguments.search.source.now (has_short given) counts

    -- last lines, where none or not all are printed
    abbrev some_counts : List Answered → List ℕ
    some_counts given = counts_text arguments.is_json arguments.search.source.now None 0 (has_short given) None

    some_counted : (given : List Answered) → Counted given (some_counts given)
    some_counted given = record { facts = None; states = 0; bound = None; named = tt; is = refl }

    abbrev text_of : List Answered → List ℕ → List ℕ
    text_of given others = reports ++ (flat_map (printed_answer arguments lines) given ++ others)

    abbrev shown : List Answered → List ℕ → Printed
    shown given others = printed (text_of given others) (proof_ending (has_short given) (is_faulty || has_bad given))

    shown_is : (given : List Answered) (counts : List ℕ) → Counted given counts → IsProofPrinted arguments lines faults given (shown given counts)
    shown_is given counts counted = record { reports = reports; counts = counts; reported = reported; counted = counted; text = refl; ending = refl }

    none_answered : AreAnswered rate keys start asked [] asked
    none_answered = record { all = IsPermutation-refl asked; right = All-nil (IsRight rate keys start) }

    -- the folder for scripts isn't there
    pub from_unfound : (old new : Tally W) (ended : Outcome) (why : Failure) → ended ≡ Err why → new ≡ old →
        IsScriptUnwritten arguments.search.keys_to why → From old new ended
    from_unfound old new ended why e same unwritten =
        rw e ([], asked, shown [] (some_counts []), none_answered, tt, shown_is [] (some_counts []) (some_counted []), inr (unwritten, no_front contents old new _ same))

    -- the reports couldn't be printed
    pub from_unreported : (old new : Tally W) (ended : Outcome) (why : Failure) → ended ≡ Err why → Prints contents old new (printed reports Done) (Err why) →
        From old new ended
    from_unreported old new ended why e p =
        rw e ([], asked, shown [] (some_counts []), none_answered, tt, shown_is [] (some_counts []) (some_counted []), inl (by why p))
      where
        by : (why : Failure) → Prints contents old new (printed reports Done) (Err why) → Streams contents old new (shown [] (some_counts [])) (Err why)
        by failure.Output p = breaks_more contents old new reports (some_counts []) p
        by failure.OutOfMemory p = no_front contents old new _ p
        by _ p = absurd p

    -- the answers were stopped
    pub from_stopped : (old mid new : Tally W) (was_bad was_short : Bool) (result : Result Told Failure) (ended : Outcome) (why : Failure) →
        Writes contents old mid reports → result ≡ Err why → ended ≡ Err why → Comes contents mid new asked was_bad was_short result → From old new ended
    from_stopped old mid new was_bad was_short result ended why first r e rest =
        let up = rw r at (up_to_after contents old mid new reports (flat_map (printed_answer arguments lines) rest.given) first (IsScriptUnwritten arguments.search.keys_to) result rest.written) in
        rw e (rest.given, rest.left, shown rest.given counts, rest.answered, tt, shown_is rest.given counts (some_counted rest.given), by why up)
      where
        counts : List ℕ
        counts = some_counts rest.given

        answers : List ℕ
        answers = flat_map (printed_answer arguments lines) rest.given

        front : WritesFront contents old new (reports ++ answers) → WritesFront contents old new (text_of rest.given counts)
        front w = subst (λ l. WritesFront contents old new l) (append_assoc reports answers counts) (front_more contents old new (reports ++ answers) counts w)

        by : (why : Failure) → WritesUpTo contents old new {T = Told} (IsScriptUnwritten arguments.search.keys_to)
            (reports ++ answers) (Err why) →
            Streams contents old new (shown rest.given counts) (Err why)
            ⊎ (IsScriptUnwritten arguments.search.keys_to why × WritesFront contents old new (shown rest.given counts).text)
        by why (inr h) = inr (h.0, front h.1)
        by failure.Output (inl w) =
            inl (subst (λ l. Breaks contents old new l) (append_assoc reports answers counts) (breaks_more contents old new (reports ++ answers) counts w))
        by failure.OutOfMemory (inl w) = inl (front w)
        by _ (inl w) = absurd w

    module _ (old mid late : Tally W) (told : Told) (first : Writes contents old mid reports) (rest : Comes contents mid late asked false false (Ok told)) where
      given_written : {T : Type 0} (Why : Failure → Type 0) (t : T) (text : List ℕ) → WritesUpTo contents mid late {T = T} Why text (Ok t) → Writes contents mid late text
      given_written Why t text (inl w) = w
      given_written Why t text (inr h) = absurd h.0

      both_written : Writes contents old late (reports ++ flat_map (printed_answer arguments lines) rest.given)
      both_written = writes_after contents old mid late reports (flat_map (printed_answer arguments lines) rest.given) first (given_written (IsScriptUnwritten arguments.search.keys_to) told _ rest.written)

      abbrev CountedBy : List ℕ → Type 0
      CountedBy counts = IsCounts arguments.is_json arguments.search.source.now told.is_short counts

      counted_by : (counts : List ℕ) → CountedBy counts → Counted rest.given counts
      counted_by counts counted = subst (λ (b : Bool). IsCounts arguments.is_json arguments.search.source.now b counts) rest.short counted

      one_text : (others : List ℕ) → (reports ++ flat_map (printed_answer arguments lines) rest.given) ++ others ≡ text_of rest.given others
      one_text others = append_assoc reports (flat_map (printed_answer arguments lines) rest.given) others

      -- memory ran out for the last line
      pub from_short : (ended : Outcome) → ended ≡ Err failure.OutOfMemory → From old late ended
      from_short ended e =
          rw e (
            rest.given,
            rest.left,
            shown rest.given (some_counts rest.given),
            rest.answered,
            tt,
            shown_is rest.given (some_counts rest.given) (some_counted rest.given),
            inl (subst (λ l. WritesFront contents old late l) (one_text (some_counts rest.given)) (front_more contents old late _ (some_counts rest.given) (whole_front contents old late _ both_written))),
          )

      -- all was printed, but a script of the folder couldn't be written
      pub from_unwritten : (new : Tally W) (others : List ℕ) → CountedBy others → (ended : Outcome) (why : Failure) → ended ≡ Err why → Writes contents late new others →
          IsScriptUnwritten arguments.search.keys_to why → From old new ended
      from_unwritten new others counted ended why e w unwritten =
          rw e (
            rest.given,
            rest.left,
            shown rest.given others,
            rest.answered,
            tt,
            shown_is rest.given others (counted_by others counted),
            inr (
              unwritten,
              whole_front contents old new _
                  (subst (λ l. Writes contents old new l) (one_text others) (writes_after contents old late new _ others both_written w)),
            ),
          )

      -- the last line was printed, or it couldn't be
      pub from_ended : (new : Tally W) (others : List ℕ) → CountedBy others → (ending : Ending) (ended : Outcome) → ending ≡ proof_ending told.is_short (is_faulty || told.is_bad) →
          Prints contents late new (printed others ending) ended → From old new ended
      from_ended new others counted ending ended is p =
          (rest.given, rest.left, shown rest.given others, rest.answered, left_none ended, shown_is rest.given others (counted_by others counted), inl (by ended p))
        where
          left_none : (ended : Outcome) → IfOk ended (λ ending. rest.left ≡ [])
          left_none (Ok e) = rest.whole
          left_none (Err why) = tt

          same_ending : ending ≡ (shown rest.given others).ending
          same_ending = is ∙ ap (λ (b : Bool). proof_ending told.is_short (is_faulty || b)) rest.bad
              ∙ ap (λ (b : Bool). proof_ending b (is_faulty || has_bad rest.given)) rest.short

          by : (ended : Outcome) → Prints contents late new (printed others ending) ended → Streams contents old new (shown rest.given others) ended
          by (Ok e) p = (p.0 ∙ same_ending, subst (λ l. Writes contents old new l) (one_text others) (writes_after contents old late new _ others both_written p.1))
          by (Err failure.Output) p = subst (λ l. Breaks contents old new l) (one_text others) (breaks_after contents old late new _ others both_written p)
          by (Err failure.OutOfMemory) p =
              rw p (subst (λ l. WritesFront contents old late l) (one_text others) (front_more contents old late _ others (whole_front contents old late _ both_written)))
          by (Err _) p = absurd p

      -- all was printed, and maybe a script of the folder couldn't be written
      pub from_all : (new : Tally W) (others : List ℕ) → CountedBy others → (ending wanted : Ending) (ended : Outcome) → wanted ≡ proof_ending told.is_short (is_faulty || told.is_bad) →
          ending ≡ wanted → Writes contents late new others → IfOk ended (λ e. e ≡ ending) → IfErr ended (IsScriptUnwritten arguments.search.keys_to) →
          From old new ended
      from_all new others counted ending wanted (Ok e) is shown w same unwritten = from_ended new others counted wanted (Ok e) is (same ∙ shown, w)
      from_all new others counted ending wanted (Err why) is shown w same unwritten = from_unwritten new others counted (Err why) why refl w unwritten

-- no property is asked for in the line that is named
pub missing : (only : Option ℕ) (line : ℕ) (is_empty is_faulty : Bool) (asked : List Stated) → Some line ≡ missing_line only is_empty is_faulty →
    (is_empty ≡ true → asked ≡ []) → unstated_line only asked is_faulty ≡ Some line
missing only line true false asked e none = rw (none refl) (sym e)
missing only line true true asked e none = cc
missing only line false true asked e none = cc
missing only line false false asked e none = cc

pub not_missing : (only : Option ℕ) (is_empty is_faulty : Bool) (asked : List Stated) → None ≡ missing_line only is_empty is_faulty →
    (asked ≡ [] → is_empty ≡ true) → unstated_line only asked is_faulty ≡ None
not_missing only is_empty true [] e none = refl
not_missing only is_empty true (one ∷ asked) e none = refl
not_missing only is_empty false (one ∷ asked) e none = refl
not_missing only is_empty false [] e none = let there : None ≡ missing_line only true false = rw (none refl) at e in sym there
