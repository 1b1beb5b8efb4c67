-- How much `serve` has read and written, derived from how far the script has been carried out.
use Rattle.std.proofs.Common.{◌≡◌, ◌⊎◌, inl, inr, ℕ, ◌+◌, ◌-◌, ◌<◌, ◌≤◌, List, [], ◌∷◌, ◌++◌, length, take, Option, Some, None, Ok, Err, refl, sym, ◌∙◌, ap, subst, append_assoc, arith}
use Rattle.std.specs.Io.KnownBytes.{Keeps, Consumes, IsAtEnd}
use Rattle.std.proofs.lemmas.List.{append-nil, length-append, take_all, take_at}
use Rattle.std.proofs.Math.Seq.{take-append-add}
use Rattle.chip_session.specs.declared.limits.TheConstants.{SCRIPT_BYTES, SCRIPT_LINES}
use Rattle.chip_asm.specs.Lines.{lines_of}
use Rattle.chip_session.specs.Lines.{complete_lines}
use Rattle.chip_session.specs.Session.{Session}
use Rattle.chip_session.specs.Transcript.{transcript_of, session_after}
use Rattle.chip_session.specs.Serving.{WithinBounds, PassesBound, lines_in_bounds, BeginsWith, Served, Exchanged, Exchanges, Opens, UnlessOpened, reader_failures, writer_failures}
use Rattle.chip_session.specs.inner.Progress.{fault_of, failures_after, Reached, Stopped, Carries, Ended}
use Rattle.chip_asm.specs.declared.refusal.OpenError.{OpenError}
use Rattle.chip_session.specs.declared.server.Conversation.{Conversation}
use Rattle.chip_session.specs.declared.server.ServeError.TheVariants as fault
use Rattle.chip_session.specs.declared.server.Stop.{Stop}
use Rattle.chip_session.specs.declared.server.Stop.TheVariants as stop
use Rattle.chip_session.proofs.ProgressLemmas.{complete_within}
use Rattle.chip_session.proofs.LineLemmas.{complete_goes_on, lines_go_on, longer}
use Rattle.chip_session.proofs.ScriptLemmas.{transcript-append}
use Rattle.chip_session.proofs.WriteLemmas.{keeps_known}
use Rattle.chip_lang.specs.Meter.{one_more}

-- the case in which the contents of the reader and the writer are known
pub exchanges : (had left held holds : Option (List ℕ)) {P : List ℕ → List ℕ → List ℕ → Type 0} →
    ((all before : List ℕ) → had ≡ Some all → held ≡ Some before → Exchanged all left before holds P) → Exchanges had left held holds P
exchanges None left held holds f = tt
exchanges (Some all) left None holds f = tt
exchanges (Some all) left (Some before) holds f = f all before refl refl

-- the bytes left in a reader whose contents are known
pub record Read (rest : List ℕ) (bytes : List ℕ) (left : Option (List ℕ)) : Type 0 where
  pub next : List ℕ
  pub left_is : left ≡ Some next
  pub split : rest ≡ bytes ++ next

pub read_known : (old new : Option (List ℕ)) (rest bytes : List ℕ) → old ≡ Some rest → Consumes old new bytes → Read rest bytes new
read_known None new rest bytes e h = cc
read_known (Some xs) None rest bytes e h = absurd h
read_known (Some xs) (Some ys) rest bytes e h = record { next = ys; left_is = refl; split = sym (some_same e) ∙ h }
  where
    some_same : {a b : List ℕ} → Some a ≡ Some b → a ≡ b
    some_same h = cc

pub ended_known : (new : Option (List ℕ)) (rest : List ℕ) → new ≡ Some rest → IsAtEnd new → rest ≡ []
ended_known None rest e h = cc
ended_known (Some xs) rest e h = cc

-- the script so far, and the bytes left in the reader
pub record Underway (all : List ℕ) (left : Option (List ℕ)) (start : Session) (before : List ℕ) (c : Conversation) (holds : Option (List ℕ)) : Type 0 where
  pub given : List ℕ
  pub rest : List ℕ
  pub read : all ≡ given ++ rest
  pub left_is : left ≡ Some rest
  pub reached : Reached start before given c holds

-- the reader failed
pub reader_failed : {all : List ℕ} {left : Option (List ℕ)} {start : Session} {before : List ℕ} {c : Conversation} {holds : Option (List ℕ)} (new : Option (List ℕ)) →
    Underway all left start before c holds → Keeps left new → Exchanged all new before holds (Served (Err fault.ReaderFailed) start)
reader_failed {left = left} {start = start} new u k = record {
  given = u.given;
  rest = u.rest;
  written = transcript_of start (complete_lines u.given);
  read = u.read;
  left_is = keeps_known left new u.rest u.left_is k;
  wrote = u.reached.told;
  outcome = (u.reached.within, refl);
}

-- the reader ended
pub served_ok : (all given : List ℕ) (left : Option (List ℕ)) (start : Session) (before : List ℕ) (holds : Option (List ℕ)) →
    all ≡ given → left ≡ Some [] → WithinBounds given → Ended (Ok tt) start before given holds → Exchanged all left before holds (Served (Ok tt) start)
served_ok all given left start before holds e l w h =
    record { given = given; rest = []; written = transcript_of start (lines_of given); read = e ∙ sym (append-nil given); left_is = l; wrote = h; outcome = (refl, w, refl) }

-- the reader ended, and the last line was abandoned
pub served_end : (e : Stop) (all given : List ℕ) (left : Option (List ℕ)) (start : Session) (before : List ℕ) (holds : Option (List ℕ)) →
    all ≡ given → left ≡ Some [] → Ended (Err e) start before given holds → Exchanged all left before holds (Served (Err (fault_of e)) start)
served_end stop.WriterFailed all given left start before holds e l (front, begins, h) =
    record { given = given; rest = []; written = front; read = e ∙ sym (append-nil given); left_is = l; wrote = h; outcome = subst (λ x. BeginsWith (transcript_of start (lines_of x)) front) (sym (append-nil given)) begins }
served_end stop.OutOfMemory all given left start before holds e l h =
    record {
      given = given;
      rest = [];
      written = transcript_of start (complete_lines given);
      read = e ∙ sym (append-nil given);
      left_is = l;
      wrote = h;
      outcome = (length (complete_lines given), sym (ap (transcript_of start) (take_all (length (complete_lines given)) (complete_lines given) (omega arith))));
    }
served_end stop.TooMuchInput all given left start before holds e l h = absurd h

-- the lines within the limits, if either limit is reached
in_bounds : (done more : List ℕ) → WithinBounds done → length (complete_lines done) ≤ SCRIPT_LINES → (length done ≡ SCRIPT_BYTES) ⊎ (length (complete_lines done) ≡ SCRIPT_LINES) →
    lines_in_bounds (done ++ more) ≡ complete_lines done
in_bounds done more w few (inl e) =
    ap (λ l. take SCRIPT_LINES (complete_lines l)) (take_at done more SCRIPT_BYTES e) ∙ take_all SCRIPT_LINES (complete_lines done) few
in_bounds done more w few (inr e) =
    let goes = complete_goes_on (take (SCRIPT_BYTES - length done) more) done in
    ap (λ l. take SCRIPT_LINES (complete_lines l)) (take_into done more SCRIPT_BYTES w.bytes)
    ∙ ap (take SCRIPT_LINES) goes.is ∙ take_at (complete_lines done) goes.back SCRIPT_LINES e
  where
    take_into : (xs ys : List ℕ) (n : ℕ) → length xs ≤ n → take n (xs ++ ys) ≡ xs ++ take (n - length xs) ys
    take_into xs ys n h = let e : n ≡ length xs + (n - length xs) = omega arith in ap (λ k. take k (xs ++ ys)) e ∙ take-append-add xs ys (n - length xs)

passes : (done more : List ℕ) → (length done ≡ SCRIPT_BYTES) ⊎ (length (complete_lines done) ≡ SCRIPT_LINES) → 0 < length more → PassesBound (done ++ more)
passes done [] at h = absurd (omega arith)
passes done (x ∷ more) (inl e) h = inl (omega (arith, length-append done (x ∷ more)))
passes done (x ∷ more) (inr e) h = inr (omega (arith, longer more done x))

-- the bytes read and written if the script was abandoned
pub served_stop : (e : Stop) (all given rest : List ℕ) (left : Option (List ℕ)) (start : Session) (before : List ℕ) (holds : Option (List ℕ)) →
    all ≡ given ++ rest → left ≡ Some rest → Stopped e start before given holds → Exchanged all left before holds (Served (Err (fault_of e)) start)
served_stop stop.WriterFailed all given rest left start before holds a l s =
    let front = s.stopped.0 in
    let begins = s.stopped.1 in
    let goes = lines_go_on s.done (s.more ++ rest) in
    record {
      given = given;
      rest = rest;
      written = front;
      read = a;
      left_is = l;
      wrote = s.stopped.2;
      outcome = (
        begins.0 ++ transcript_of (session_after start (complete_lines s.done)) goes.back,
        ap (transcript_of start) (ap lines_of (ap (λ x. x ++ rest) s.split ∙ append_assoc s.done s.more rest) ∙ goes.is)
            ∙ transcript-append start (complete_lines s.done) goes.back
            ∙ ap (λ t. t ++ transcript_of (session_after start (complete_lines s.done)) goes.back) begins.1
            ∙ append_assoc front begins.0 (transcript_of (session_after start (complete_lines s.done)) goes.back),
      );
    }
served_stop stop.OutOfMemory all given rest left start before holds a l s =
    let goes = complete_goes_on s.more s.done in
    record {
      given = given;
      rest = rest;
      written = transcript_of start (complete_lines s.done);
      read = a;
      left_is = l;
      wrote = s.stopped;
      outcome = (
        length (complete_lines s.done),
        ap (transcript_of start) (sym (ap (λ x. take (length (complete_lines s.done)) x) (ap complete_lines s.split ∙ goes.is) ∙ take_at (complete_lines s.done) goes.back (length (complete_lines s.done)) refl)),
      );
    }
served_stop stop.TooMuchInput all given rest left start before holds a l s =
    record {
      given = given;
      rest = rest;
      written = transcript_of start (complete_lines s.done);
      read = a;
      left_is = l;
      wrote = s.stopped.3;
      outcome = (
        subst PassesBound (sym s.split) (passes s.done s.more s.stopped.1 s.stopped.2),
        ap (transcript_of start) (sym (ap lines_in_bounds s.split ∙ in_bounds s.done s.more s.stopped.0 (omega (arith, complete_within s.done, s.stopped.0.line_count)) s.stopped.1)),
      );
    }

-- if a script was abandoned, its source opens and the reader didn't fail
pub opens_stop : (found : Option OpenError) (e : Stop) → found ≡ None → Opens found (Err (fault_of e))
opens_stop found stop.WriterFailed h = h
opens_stop found stop.OutOfMemory h = h
opens_stop found stop.TooMuchInput h = h

pub reader_kept : (e : Stop) (old held new : ℕ) → new ≡ held → held ≡ old → new ≡ reader_failures (Err (fault_of e)) old
reader_kept stop.WriterFailed old held new same kept = same ∙ kept
reader_kept stop.OutOfMemory old held new same kept = same ∙ kept
reader_kept stop.TooMuchInput old held new same kept = same ∙ kept

pub writer_counted : (e : Stop) (old held new : ℕ) → new ≡ failures_after (Err e) held → held ≡ old → new ≡ writer_failures (Err (fault_of e)) old
writer_counted stop.WriterFailed old held new counted kept = counted ∙ ap one_more kept
writer_counted stop.OutOfMemory old held new counted kept = counted ∙ kept
writer_counted stop.TooMuchInput old held new counted kept = counted ∙ kept

pub opened_stop : (e : Stop) (P : Type 0) → UnlessOpened (Err (fault_of e)) P
opened_stop stop.WriterFailed P = tt
opened_stop stop.OutOfMemory P = tt
opened_stop stop.TooMuchInput P = tt

-- the reader ended, and the last line was answered
pub exchanged_end : {all : List ℕ} {left : Option (List ℕ)} {start : Session} {before : List ℕ} {c : Conversation} {held : Option (List ℕ)} (new holds : Option (List ℕ)) →
    Underway all left start before c held → Consumes left new [] → IsAtEnd new →
    ((start : Session) (before given : List ℕ) → Reached start before given c held → Ended (Ok tt) start before given holds) → Exchanged all new before holds (Served (Ok tt) start)
exchanged_end {all} {left} {start} {before} {c} {held} new holds u k at_end ends =
    let r = read_known left new u.rest [] u.left_is k in
    let e : r.next ≡ [] = ended_known new r.next r.left_is at_end in
    served_ok all u.given new start before holds (u.read ∙ ap (λ l. u.given ++ l) (r.split ∙ e) ∙ append-nil u.given) (r.left_is ∙ ap Some e) u.reached.within (ends start before u.given u.reached)

-- the reader ended, and the last line was abandoned
pub exchanged_given_up : {all : List ℕ} {left : Option (List ℕ)} {start : Session} {before : List ℕ} {c : Conversation} {held : Option (List ℕ)} (new holds : Option (List ℕ)) (e : Stop) →
    Underway all left start before c held → Consumes left new [] → IsAtEnd new →
    ((start : Session) (before given : List ℕ) → Reached start before given c held → Ended (Err e) start before given holds) → Exchanged all new before holds (Served (Err (fault_of e)) start)
exchanged_given_up {all} {left} {start} {before} {c} {held} new holds stop u k at_end ends =
    let r = read_known left new u.rest [] u.left_is k in
    let e : r.next ≡ [] = ended_known new r.next r.left_is at_end in
    served_end stop all u.given new start before holds (u.read ∙ ap (λ l. u.given ++ l) (r.split ∙ e) ∙ append-nil u.given) (r.left_is ∙ ap Some e) (ends start before u.given u.reached)

-- one more piece of the script
pub underway_piece : {all : List ℕ} {left : Option (List ℕ)} {start : Session} {before : List ℕ} {c : Conversation} {held : Option (List ℕ)} (next : Option (List ℕ)) (new : Conversation) (holds : Option (List ℕ)) (piece : List ℕ) →
    Underway all left start before c held → Consumes left next piece → Carries c held piece (Ok tt) new holds → Underway all next start before new holds
underway_piece {all} {left} {start} {before} next new holds piece u k carries =
    let r = read_known left next u.rest piece u.left_is k in
    record {
      given = u.given ++ piece;
      rest = r.next;
      read = u.read ∙ ap (λ l. u.given ++ l) r.split ∙ sym (append_assoc u.given piece r.next);
      left_is = r.left_is;
      reached = carries start before u.given u.reached;
    }

pub exchanged_stop : {all : List ℕ} {left : Option (List ℕ)} {start : Session} {before : List ℕ} {c : Conversation} {held : Option (List ℕ)} (next : Option (List ℕ)) (new : Conversation) (holds : Option (List ℕ)) (piece : List ℕ) (e : Stop) →
    Underway all left start before c held → Consumes left next piece → Carries c held piece (Err e) new holds → Exchanged all next before holds (Served (Err (fault_of e)) start)
exchanged_stop {all} {left} {start} {before} next new holds piece e u k carries =
    let r = read_known left next u.rest piece u.left_is k in
    served_stop e all (u.given ++ piece) r.next next start before holds (u.read ∙ ap (λ l. u.given ++ l) r.split ∙ sym (append_assoc u.given piece r.next)) r.left_is (carries start before u.given u.reached)
