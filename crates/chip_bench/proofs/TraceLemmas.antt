-- The output that a command prints part by part, and the output of `trace`.
use Rattle.std.proofs.Common.{◌≡◌, inl, inr, ℕ, ◌<◌, Bool, true, false, List, [], ◌∷◌, ◌++◌, append_assoc, append-nil, Option, Some, None, Result, Ok, Err, refl, sym, ◌∙◌, ap, take, drop, length, arith}
use Rattle.chip_bench.specs.Doing.{ShowsTrace}
use Rattle.chip_host.specs.Printing.{Printed, Prints, Streams, WritesFront, printed, printed_faults}
use Rattle.chip_bench.specs.Printing.{unanswered}
use Rattle.chip_session.specs.Session.{Session}
use Rattle.chip_session.specs.Tally.{Tally}
use Rattle.chip_session.specs.Writing.{Breaks, Writes}
use Rattle.chip_trace.specs.Machine.{names_machine}
use Rattle.chip_bench.specs.Tracing.{below_machine, header_of, lines_after, trace_refusal}
use Rattle.chip_host.specs.declared.ending.Ending.{Ending}
use Rattle.chip_host.specs.declared.ending.Ending.TheVariants.{Done}
use Rattle.chip_host.specs.declared.ending.Failure.{Failure}
use Rattle.chip_host.specs.declared.ending.Failure.TheVariants as failure
use Rattle.chip_session.specs.declared.refusal.Refusal.{Refusal}
use Rattle.chip_bench.specs.declared.tracing.Shown.{Shown}
use Rattle.chip_lang.specs.Meter.{one_more}
use Rattle.chip_trace.specs.Lines.{newline_ended}
use Rattle.std.specs.Io.KnownBytes.{Appends}
use Rattle.std.specs.Prelude.{IsTrue, ◌↔◌}
use Rattle.std.proofs.lemmas.Bool.{cases_lt}
use Rattle.std.proofs.lemmas.Grind.{flat_map-append}
use Rattle.std.proofs.lemmas.List.{drop_all, length-drop, take-append-drop}
use Rattle.std.proofs.KnownBytes.{Appends-nil, Appends-trans}

module _ {W : Type 0} (contents : W → Option (List ℕ)) (old new : Tally W) where
  nothing_written : (text : List ℕ) → new ≡ old → WritesFront contents old new text
  nothing_written text same = rw same (record { front = []; begins = (text, refl); appended = Appends-nil (contents old.inner); no_failure = refl })

  -- output that is printed at once
  pub streams_prints : (wanted : Printed) (result : Result Ending Failure) → Prints contents old new wanted result → Streams contents old new wanted result
  streams_prints wanted (Ok ending) p = p
  streams_prints wanted (Err failure.Output) p = p
  streams_prints wanted (Err failure.OutOfMemory) p = nothing_written wanted.text p
  streams_prints wanted (Err _) p = absurd p

  -- memory ran out before anything was printed
  pub short : (wanted : Printed) (result : Result Ending Failure) → result ≡ Err failure.OutOfMemory → new ≡ old → Streams contents old new wanted result
  short wanted result e same = rw e (nothing_written wanted.text same)

  -- the reason why there is no trace, alone or in a comparison
  pub refused_trace : (shown : Shown) (theirs : Option (List (List ℕ))) (session : Session) (why : Refusal) (result : Result Ending Failure) →
      trace_refusal session shown ≡ Some why → Prints contents old new (unanswered why (printed_faults session.lines)) result →
      ShowsTrace contents old new shown theirs session result
  refused_trace shown None session why result refused prints =
      rw refused (streams_prints (unanswered why (printed_faults session.lines)) result prints)
  refused_trace shown (Some theirs) session why result refused prints =
      rw refused (inl (unanswered why (printed_faults session.lines), refl, prints))

-- no line remains after the last ones
pub none_left : (all : List (List ℕ)) (most : ℕ) (more : Bool) → more ≡ false → IsTrue more ↔ (most < length all) → drop most all ≡ []
none_left all most more ended answer =
    elim (cases_lt most (length all)) [
      | inl lt ↦ absurd (let going : more ≡ true = answer.1 lt in let e : true ≡ false = sym going ∙ ended in cc)
      | inr le ↦ drop_all most all le
    ]

-- some lines remain, fewer than before
pub fewer_left : (all after : List (List ℕ)) (most : ℕ) (more : Bool) → more ≡ true → 0 < most → IsTrue more ↔ (most < length all) → after ≡ drop most all → length after < length all
fewer_left all after most more going some answer left =
    let lt : most < length all = answer.0 going in
    omega (arith, lt, some, ap length left, length-drop most all)

module _ {W : Type 0} (contents : W → Option (List ℕ)) (old now : Tally W) (whole text : List ℕ) (rest : List (List ℕ)) where
  -- the written bytes and the remaining ones make up the whole
  pub record Streamed : Type 0 where
    pub written : List ℕ
    pub appended : Appends (contents old.inner) (contents now.inner) written
    pub failures : now.failures ≡ old.failures
    pub whole_is : whole ≡ written ++ (text ++ newline_ended rest)

module _ {W : Type 0} (contents : W → Option (List ℕ)) where
  pub stream_starts : (old : Tally W) (headers rest : List (List ℕ)) → Streamed contents old old (newline_ended (headers ++ rest)) (newline_ended headers) rest
  stream_starts old headers rest = record {
    written = [];
    appended = Appends-nil (contents old.inner);
    failures = refl;
    whole_is = flat_map-append (λ (line : List ℕ). line ++ 10 ∷ []) headers rest;
  }

  -- some lines were appended to the text
  pub stream_adds : (old now : Tally W) (whole text text_after : List ℕ) (rest after : List (List ℕ)) (most : ℕ) → Streamed contents old now whole text rest
      → text_after ≡ text ++ newline_ended (take most rest) → after ≡ drop most rest → Streamed contents old now whole text_after after
  stream_adds old now whole text text_after rest after most s added left = record {
    written = s.written;
    appended = s.appended;
    failures = s.failures;
    whole_is = s.whole_is ∙ ap (λ l. s.written ++ l) (
        ap (λ ls. text ++ newline_ended ls) (sym (take-append-drop most rest))
        ∙ ap (λ l. text ++ l) (flat_map-append (λ (line : List ℕ). line ++ 10 ∷ []) (take most rest) (drop most rest))
        ∙ sym (append_assoc text (newline_ended (take most rest)) (newline_ended (drop most rest)))
        ∙ ap (λ l. l ++ newline_ended (drop most rest)) (sym added)
        ∙ ap (λ ls. text_after ++ newline_ended ls) (sym left));
  }

  -- the text was written
  pub stream_writes : (old now next : Tally W) (whole text : List ℕ) (rest : List (List ℕ)) → Streamed contents old now whole text rest
      → Writes contents now next text → Streamed contents old next whole [] rest
  stream_writes old now next whole text rest s w = record {
    written = s.written ++ text;
    appended = Appends-trans (contents old.inner) (contents now.inner) (contents next.inner) s.written text s.appended w.appended;
    failures = w.no_failure ∙ s.failures;
    whole_is = s.whole_is ∙ sym (append_assoc s.written text (newline_ended rest));
  }

  -- nothing remains
  pub stream_ends : (old now : Tally W) (whole : List ℕ) (rest : List (List ℕ)) → Streamed contents old now whole [] rest → rest ≡ [] → Writes contents old now whole
  stream_ends old now whole rest s none =
      let all : whole ≡ s.written = s.whole_is ∙ ap (λ ls. s.written ++ newline_ended ls) none ∙ append-nil s.written in
      rw all (record { appended = s.appended; no_failure = s.failures })

  -- memory ran out
  pub stream_stops : (old now : Tally W) (whole text : List ℕ) (rest : List (List ℕ)) → Streamed contents old now whole text rest → WritesFront contents old now whole
  stream_stops old now whole text rest s = record { front = s.written; begins = (text ++ newline_ended rest, s.whole_is); appended = s.appended; no_failure = s.failures }

  -- a write failed
  pub stream_breaks : (old now next : Tally W) (whole text : List ℕ) (rest : List (List ℕ)) → Streamed contents old now whole text rest
      → Breaks contents now next text → Breaks contents old next whole
  stream_breaks old now next whole text rest s b = record {
    front = s.written ++ b.front;
    begins = (
      b.begins.0 ++ newline_ended rest,
      s.whole_is ∙ ap (λ l. s.written ++ (l ++ newline_ended rest)) b.begins.1
          ∙ ap (λ l. s.written ++ l) (append_assoc b.front b.begins.0 (newline_ended rest))
          ∙ sym (append_assoc s.written b.front (b.begins.0 ++ newline_ended rest)),
    );
    appended = Appends-trans (contents old.inner) (contents now.inner) (contents next.inner) s.written b.front s.appended b.appended;
    counted = b.counted ∙ ap one_more s.failures;
  }

  -- a print failed
  pub stream_fails : (old now next : Tally W) (whole text : List ℕ) (rest : List (List ℕ)) (why : Failure) → Streamed contents old now whole text rest
      → Prints contents now next (printed text Done) (Err why) → Streams contents old next (printed whole Done) (Err why)
  stream_fails old now next whole text rest failure.Output s p = stream_breaks old now next whole text rest s p
  stream_fails old now next whole text rest failure.OutOfMemory s p = rw p (stream_stops old now whole text rest s)
  stream_fails old now next whole text rest _ s p = absurd p

-- the lines after the machine's name, if there is one
pub below_named : (all : List (List ℕ)) → names_machine (header_of all) ≡ true → below_machine all ≡ lines_after all
below_named [] named = refl
below_named (line ∷ more) named = rw (named) refl

pub below_unnamed : (all : List (List ℕ)) → names_machine (header_of all) ≡ false → below_machine all ≡ all
below_unnamed [] unnamed = refl
below_unnamed (line ∷ more) unnamed = rw (unnamed) refl
