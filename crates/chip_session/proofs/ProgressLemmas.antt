-- How far a script has been carried out, after one more byte, after more bytes, and at the end.
use Rattle.std.proofs.Common.{◌≡◌, ◌⊎◌, inl, inr, ⊎_elim, ℕ, ◌+◌, ◌-◌, ◌<◌, ◌≤◌, ◌==◌, min, Bool, true, false, cond, List, [], ◌∷◌, ◌++◌, length, take, drop, Option, Some, None, Result, Ok, Err, OnOk, refl, sym, ◌∙◌, ap, subst, append_assoc, arith}
use Rattle.std.specs.Io.KnownBytes.{Appends}
use Rattle.std.specs.List.{list_any}
use Rattle.std.specs.Str.Lines.{strip_carriage_return}
use Rattle.std.proofs.Common.{get_or}
use Rattle.std.proofs.lemmas.List.{take_more, take-append-drop, append-nil, length-append, length-drop, length-take, take_all, take-append-le}
use Rattle.std.proofs.Math.Seq.{take-add, take-append-add}
use Rattle.std.proofs.lemmas.Bool.{cases_lt, eqb-true, false_from_ne_true}
use Rattle.memchr.specs.Find.{IsFirstByte, is_byte}
use Rattle.chip_session.specs.declared.limits.TheConstants.{SCRIPT_BYTES, SCRIPT_LINES}
use Rattle.chip_session.specs.declared.server.TheConstants.{KEPT_LEN}
use Rattle.chip_session.specs.Lines.{complete_lines, unfinished_line}
use Rattle.chip_session.specs.Session.{Session}
use Rattle.chip_session.specs.Transcript.{reply, after, transcript_of, session_after}
use Rattle.chip_session.specs.Serving.{WithinBounds, BeginsWith}
use Rattle.chip_session.specs.inner.Progress.{Says, Reached, StoppedAt, Stopped, Went, Carries, Ended}
use Rattle.chip_session.specs.declared.server.Conversation.{Conversation}
use Rattle.chip_session.specs.declared.server.Stop.{Stop}
use Rattle.chip_session.specs.declared.server.Stop.TheVariants as stop
use Rattle.chip_session.proofs.LineLemmas.{complete_part, unfinished_part, none_before, complete_newline, unfinished_newline, last_line, last_filled, lines_is, complete_none, unfinished_none}
use Rattle.chip_session.proofs.ScriptLemmas.{transcript_push, session_after_push, reply_stripped, after_stripped, reply_kept}
use Rattle.chip_session.proofs.WriteLemmas.{appends_known, keeps_known}
use Rattle.chip_asm.specs.Lines.{is_newline, lines_of}

length_chosen : (t : Bool) (x : List ℕ) → length (cond t [] (x ∷ [])) ≤ 1
length_chosen true x = omega arith
length_chosen false x = omega arith

lines_length : (xs : List ℕ) → length (lines_of xs) ≤ length (complete_lines xs) + 1
lines_length xs = rw (lines_is xs, length-append) (omega (arith, length_chosen (length (unfinished_line xs) == 0) (unfinished_line xs)))

lines_newline : (xs : List ℕ) → length (lines_of (xs ++ 10 ∷ [])) ≡ length (complete_lines xs) + 1
lines_newline xs =
    ap length (lines_is (xs ++ 10 ∷ []) ∙ ap (λ u. complete_lines (xs ++ 10 ∷ []) ++ last_line u) (unfinished_newline xs) ∙ append-nil (complete_lines (xs ++ 10 ∷ [])) ∙ complete_newline xs)
    ∙ length-append (complete_lines xs) (strip_carriage_return (unfinished_line xs) ∷ [])

within_newline : (xs : List ℕ) (b : ℕ) → b ≡ 10 → WithinBounds xs → length xs < SCRIPT_BYTES → length (complete_lines xs) < SCRIPT_LINES → WithinBounds (xs ++ b ∷ [])
within_newline xs b e w few h = record {
  bytes = omega (arith, length-append xs (b ∷ []));
  line_count = rw e (omega (arith, lines_newline xs));
}

within_part : (xs part : List ℕ) → list_any is_newline part ≡ false → length xs + length part ≤ SCRIPT_BYTES → length (complete_lines xs) < SCRIPT_LINES → WithinBounds (xs ++ part)
within_part xs part none few h = record {
  bytes = omega (arith, length-append xs part);
  line_count = omega (arith, lines_length (xs ++ part), ap length (complete_part part xs none));
}

take_part_more : (u part : List ℕ) → take KEPT_LEN (take KEPT_LEN u ++ part) ≡ take KEPT_LEN (u ++ part)
take_part_more u part = ⊎_elim
    (λ (long : KEPT_LEN < length u). take-append-le KEPT_LEN (take KEPT_LEN u) part (omega (arith, length-take KEPT_LEN u)) ∙ take_all KEPT_LEN (take KEPT_LEN u) (omega (arith, length-take KEPT_LEN u)) ∙ sym (take-append-le KEPT_LEN u part (omega arith)))
    (λ (short : length u ≤ KEPT_LEN). ap (λ l. take KEPT_LEN (l ++ part)) (take_all KEPT_LEN u short)) (cases_lt KEPT_LEN (length u))

kept_length : {start : Session} {before given : List ℕ} {old : Conversation} {held : Option (List ℕ)} → Reached start before given old held → length old.line.items ≤ KEPT_LEN
kept_length {given = given} r = omega (arith, ap length r.line, length-take KEPT_LEN (unfinished_line given))

-- taking at least as many items as a list has returns the whole list
pub take_min : (k : ℕ) (xs : List ℕ) → take (min k (length xs)) xs ≡ take k xs
take_min k xs = ⊎_elim
    (λ (less : k < length xs). let same : min k (length xs) ≡ k = omega arith in ap (λ n. take n xs) same)
    (λ (all : length xs ≤ k). let same : min k (length xs) ≡ length xs = omega arith in ap (λ n. take n xs) same ∙ take_all (length xs) xs (omega arith) ∙ sym (take_all k xs all))
    (cases_lt k (length xs))

-- the bytes kept of a line, after the bytes that follow were appended
pub kept_more : (line part : List ℕ) (n : ℕ) → length line ≤ KEPT_LEN → n ≡ min (KEPT_LEN - length line) (length part) → line ++ take n part ≡ take KEPT_LEN (line ++ part)
kept_more line part n short is =
    let room : KEPT_LEN ≡ length line + (KEPT_LEN - length line) = omega arith in
    ap (λ l. line ++ l) (ap (λ k. take k part) is ∙ take_min (KEPT_LEN - length line) part)
    ∙ sym (take-append-add line part (KEPT_LEN - length line)) ∙ ap (λ k. take k (line ++ part)) (sym room)

-- the state after the bytes of a script, with the bytes of an unfinished line
record Partway (start : Session) (before given : List ℕ) (session : Session) (line : List ℕ) (complete taken : ℕ) (holds : Option (List ℕ)) : Type 0 where
  session_is : session ≡ session_after start (complete_lines given)
  line_is : line ≡ take KEPT_LEN (unfinished_line given)
  complete_is : complete ≡ length (complete_lines given)
  taken_is : taken ≡ length given
  within : WithinBounds given
  told : holds ≡ Some (before ++ transcript_of start (complete_lines given))

-- takes more bytes of a line
part_taken : {start : Session} {before given : List ℕ} {old : Conversation} {held : Option (List ℕ)} (part : List ℕ) → list_any is_newline part ≡ false →
    old.taken + length part ≤ SCRIPT_BYTES → old.complete < SCRIPT_LINES → Reached start before given old held →
    Partway start before (given ++ part) old.bench.session (take KEPT_LEN (old.line.items ++ part)) old.complete (old.taken + length part) held
part_taken {start} {before} {given} {old} {held} part none few h r = record {
  session_is = r.session ∙ ap (session_after start) (sym (complete_part part given none));
  line_is = ap (λ l. take KEPT_LEN (l ++ part)) r.line ∙ take_part_more (unfinished_line given) part ∙ ap (take KEPT_LEN) (sym (unfinished_part part given none));
  complete_is = r.complete ∙ ap length (sym (complete_part part given none));
  taken_is = ap (λ n. n + length part) r.taken ∙ sym (length-append given part);
  within = within_part given part none (subst (λ n. n + length part ≤ SCRIPT_BYTES) r.taken few) (subst (λ n. n < SCRIPT_LINES) r.complete h);
  told = r.told ∙ ap (λ l. Some (before ++ transcript_of start l)) (sym (complete_part part given none));
}

-- takes more bytes of a line and keeps them
pub carries_part : {old : Conversation} {held : Option (List ℕ)} (new : Conversation) (part : List ℕ) → list_any is_newline part ≡ false →
    old.taken + length part ≤ SCRIPT_BYTES → old.complete < SCRIPT_LINES →
    new.bench.session ≡ old.bench.session → (length old.line.items ≤ KEPT_LEN → new.line.items ≡ take KEPT_LEN (old.line.items ++ part)) →
    new.complete ≡ old.complete → new.taken ≡ old.taken + length part → Carries old held part (Ok tt) new held
carries_part {old} {held} new part none few h bench kept complete taken start before given r =
    let p = part_taken part none few h r in
    record {
      session = bench ∙ p.session_is;
      line = kept (kept_length r) ∙ p.line_is;
      complete = complete ∙ p.complete_is;
      taken = taken ∙ p.taken_is;
      within = p.within;
      told = p.told;
    }

-- the transcript of one more complete line
transcript_newline : (start : Session) (before given : List ℕ) (bench : Session) → bench ≡ session_after start (complete_lines given) → (kept : List ℕ) → kept ≡ take KEPT_LEN (unfinished_line given) →
    transcript_of start (complete_lines given) ++ reply bench (strip_carriage_return kept) ≡ transcript_of start (complete_lines (given ++ 10 ∷ []))
transcript_newline start before given bench e kept k =
    ap (λ s. transcript_of start (complete_lines given) ++ reply s (strip_carriage_return kept)) e
    ∙ ap (λ l. transcript_of start (complete_lines given) ++ reply (session_after start (complete_lines given)) (strip_carriage_return l)) k
    ∙ ap (λ t. transcript_of start (complete_lines given) ++ t) (reply_stripped (session_after start (complete_lines given)) (unfinished_line given))
    ∙ sym (transcript_push start (complete_lines given) (strip_carriage_return (unfinished_line given)))
    ∙ ap (transcript_of start) (sym (complete_newline given))

-- after a newline and its answer
reached_newline : {start : Session} {before given : List ℕ} {session : Session} {line : List ℕ} {complete taken : ℕ} {new : Conversation} {held holds : Option (List ℕ)} →
    Partway start before given session line complete taken held → taken < SCRIPT_BYTES → complete < SCRIPT_LINES →
    Appends held holds (reply session (strip_carriage_return line)) →
    new.bench.session ≡ after session (strip_carriage_return line) → new.line.items ≡ [] → new.complete ≡ complete + 1 → new.taken ≡ taken + 1 →
    Reached start before (given ++ 10 ∷ []) new holds
reached_newline {start} {before} {given} {session} {line} {complete} {taken} {new} {held} {holds} p few h said next_session next_line next_complete next_taken = record {
  session = next_session ∙ ap (λ s. after s (strip_carriage_return line)) p.session_is
      ∙ ap (λ l. after (session_after start (complete_lines given)) (strip_carriage_return l)) p.line_is
      ∙ after_stripped (session_after start (complete_lines given)) (unfinished_line given)
      ∙ sym (session_after_push start (complete_lines given) (strip_carriage_return (unfinished_line given)))
      ∙ ap (session_after start) (sym (complete_newline given));
  line = next_line ∙ ap (take KEPT_LEN) (sym (unfinished_newline given));
  complete = next_complete ∙ ap (λ n. n + 1) p.complete_is ∙ sym (ap length (complete_newline given) ∙ length-append (complete_lines given) (strip_carriage_return (unfinished_line given) ∷ []));
  taken = next_taken ∙ ap (λ n. n + 1) p.taken_is ∙ sym (length-append given (10 ∷ []));
  within = within_newline given 10 refl p.within (subst (λ n. n < SCRIPT_BYTES) p.taken_is few) (subst (λ n. n < SCRIPT_LINES) p.complete_is h);
  told = appends_known held holds _ _ p.told said ∙ ap Some (append_assoc before (transcript_of start (complete_lines given)) _ ∙ ap (λ t. before ++ t) (transcript_newline start before given session p.session_is line p.line_is));
}

-- the writer failed after a prefix of the answer
front_newline : {start : Session} {before given : List ℕ} {session : Session} {line : List ℕ} {complete taken : ℕ} {held holds : Option (List ℕ)} →
    Partway start before given session line complete taken held →
    ((front : List ℕ) × BeginsWith (reply session (strip_carriage_return line)) front × Appends held holds front) →
    StoppedAt stop.WriterFailed start before (given ++ 10 ∷ []) [] holds
front_newline {start} {before} {given} {session} {line} {held = held} {holds} p (front, (back, e), said) = (
  transcript_of start (complete_lines given) ++ front,
  (back, sym (transcript_newline start before given session p.session_is line p.line_is) ∙ ap (λ t. transcript_of start (complete_lines given) ++ t) e ∙ sym (append_assoc (transcript_of start (complete_lines given)) front back)),
  appends_known held holds _ _ p.told said ∙ ap Some (append_assoc before (transcript_of start (complete_lines given)) front),
)

went_newline : {start : Session} {before given : List ℕ} {session : Session} {line : List ℕ} {complete taken : ℕ} {held : Option (List ℕ)} (new : Conversation) (holds : Option (List ℕ)) (result : Result Unit Stop) →
    Partway start before given session line complete taken held → taken < SCRIPT_BYTES → complete < SCRIPT_LINES →
    Says result held holds (reply session (strip_carriage_return line)) →
    OnOk result (new.bench.session ≡ after session (strip_carriage_return line)) → OnOk result (new.line.items ≡ []) → OnOk result (new.complete ≡ complete + 1) → OnOk result (new.taken ≡ taken + 1) →
    Went result start before (given ++ 10 ∷ []) new holds
went_newline new holds (Ok _) p few h said next_session next_line next_complete next_taken = reached_newline p few h said next_session next_line next_complete next_taken
went_newline {given = given} new holds (Err stop.WriterFailed) p few h said next_session next_line next_complete next_taken =
    record { done = given ++ 10 ∷ []; more = []; split = sym (append-nil (given ++ 10 ∷ [])); stopped = front_newline p said }
went_newline {given = given} {held = held} new holds (Err stop.OutOfMemory) p few h said next_session next_line next_complete next_taken =
    record { done = given; more = 10 ∷ []; split = refl; stopped = keeps_known held holds _ p.told said }
went_newline new holds (Err stop.TooMuchInput) p few h said next_session next_line next_complete next_taken = absurd said

pub complete_within : (xs : List ℕ) → length (complete_lines xs) ≤ length (lines_of xs)
complete_within xs = omega (arith, ap length (lines_is xs), length-append (complete_lines xs) (last_line (unfinished_line xs)))

at_bound : {start : Session} {before given : List ℕ} {old : Conversation} {held : Option (List ℕ)} → Reached start before given old held →
    ((SCRIPT_BYTES ≤ old.taken) ⊎ (SCRIPT_LINES ≤ old.complete)) → (length given ≡ SCRIPT_BYTES) ⊎ (length (complete_lines given) ≡ SCRIPT_LINES)
at_bound r (inl p) = inl (omega (arith, r.within.bytes, r.taken))
at_bound {given = given} r (inr p) = inr (omega (arith, r.within.line_count, r.complete, complete_within given))

-- bytes beyond a limit
pub stopped_bound : {start : Session} {before given : List ℕ} {old : Conversation} {held : Option (List ℕ)} (more : List ℕ) → 0 < length more → Reached start before given old held →
    ((SCRIPT_BYTES ≤ old.taken) ⊎ (SCRIPT_LINES ≤ old.complete)) → Stopped stop.TooMuchInput start before (given ++ more) held
stopped_bound {given = given} more some r past = record {
  done = given;
  more = more;
  split = refl;
  stopped = (r.within, at_bound r past, some, r.told);
}

-- takes more lines
pub carries_more : {old : Conversation} {held : Option (List ℕ)} (mid : Conversation) (kept : Option (List ℕ)) (new : Conversation) (holds : Option (List ℕ)) (xs ys : List ℕ) (result : Result Unit Stop) →
    Carries old held xs (Ok tt) mid kept → Carries mid kept ys result new holds → Carries old held (xs ++ ys) result new holds
carries_more mid kept new holds xs ys result one two start before given r =
    subst (λ l. Went result start before l new holds) (append_assoc given xs ys) (two start before (given ++ xs) (one start before given r))

-- a stop remains the result if more bytes follow
pub carries_stop : {old : Conversation} {held : Option (List ℕ)} (new : Conversation) (holds : Option (List ℕ)) (xs ys : List ℕ) (e : Stop) →
    Carries old held xs (Err e) new holds → Carries old held (xs ++ ys) (Err e) new holds
carries_stop new holds xs ys e one start before given r =
    let s = one start before given r in
    record {
      done = s.done;
      more = s.more ++ ys;
      split = sym (append_assoc given xs ys) ∙ ap (λ l. l ++ ys) s.split ∙ append_assoc s.done s.more ys;
      stopped = stopped_longer e start before s.done s.more ys holds s.stopped;
    }
  where
    stopped_longer : (e : Stop) (start : Session) (before done more ys : List ℕ) (holds : Option (List ℕ)) → StoppedAt e start before done more holds → StoppedAt e start before done (more ++ ys) holds
    stopped_longer stop.WriterFailed start before done more ys holds h = h
    stopped_longer stop.OutOfMemory start before done more ys holds h = h
    stopped_longer stop.TooMuchInput start before done more ys holds h = (h.0, h.1, omega (arith, h.2, length-append more ys), h.3)

last_kept : (u : List ℕ) → 0 < length (take KEPT_LEN u) → last_line u ≡ u ∷ []
last_kept u h = last_filled u (omega (arith, h, length-take KEPT_LEN u))

none_kept : (u : List ℕ) → length (take KEPT_LEN u) ≡ 0 → last_line u ≡ []
none_kept [] h = refl
none_kept (x ∷ xs) h = absurd (omega (arith, h, length-take KEPT_LEN (x ∷ xs)))

-- at the end, if no line is unfinished
pub ended_empty : {start : Session} {before given : List ℕ} {old : Conversation} {held : Option (List ℕ)} → Reached start before given old held → length old.line.items ≡ 0 →
    held ≡ Some (before ++ transcript_of start (lines_of given))
ended_empty {start} {before} {given} {old} {held} r h = r.told ∙ ap (λ l. Some (before ++ transcript_of start l))
    (sym (lines_is given ∙ ap (λ l. complete_lines given ++ l) (none_kept (unfinished_line given) (sym (ap length r.line) ∙ h)) ∙ append-nil (complete_lines given)))

transcript_end : {start : Session} {before given : List ℕ} {old : Conversation} {held : Option (List ℕ)} → Reached start before given old held → 0 < length old.line.items →
    transcript_of start (lines_of given) ≡ transcript_of start (complete_lines given) ++ reply old.bench.session old.line.items
transcript_end {start} {before} {given} {old} {held} r h =
    ap (transcript_of start) (lines_is given ∙ ap (λ l. complete_lines given ++ l) (last_kept (unfinished_line given) (subst (λ l. 0 < length l) r.line h)))
    ∙ transcript_push start (complete_lines given) (unfinished_line given)
    ∙ ap (λ t. transcript_of start (complete_lines given) ++ t)
    (sym (reply_kept (session_after start (complete_lines given)) (unfinished_line given)) ∙ sym (ap (λ s. reply s (take KEPT_LEN (unfinished_line given))) r.session) ∙ sym (ap (reply old.bench.session) r.line))

-- at the end, after the answer to the last line
pub ended_said : {start : Session} {before given : List ℕ} {old : Conversation} {held : Option (List ℕ)} (holds : Option (List ℕ)) (result : Result Unit Stop) → Reached start before given old held →
    0 < length old.line.items → Says result held holds (reply old.bench.session old.line.items) → Ended result start before given holds
ended_said {start} {before} {given} {old} {held} holds (Ok _) r h said =
    appends_known held holds _ _ r.told said ∙ ap Some (append_assoc before (transcript_of start (complete_lines given)) (reply old.bench.session old.line.items) ∙ ap (λ t. before ++ t) (sym (transcript_end r h)))
ended_said {start} {before} {given} {old} {held} holds (Err stop.WriterFailed) r h (front, (back, e), said) = (
  transcript_of start (complete_lines given) ++ front,
  (back, transcript_end r h ∙ ap (λ t. transcript_of start (complete_lines given) ++ t) e ∙ sym (append_assoc (transcript_of start (complete_lines given)) front back)),
  appends_known held holds _ _ r.told said ∙ ap Some (append_assoc before (transcript_of start (complete_lines given)) front),
)
ended_said {held = held} holds (Err stop.OutOfMemory) r h said = keeps_known held holds _ r.told said
ended_said holds (Err stop.TooMuchInput) r h said = absurd said

-- before the first byte
pub reached_none : (start : Session) (before : List ℕ) (c : Conversation) (held : Option (List ℕ)) → c.bench.session ≡ start → c.line.items ≡ [] → c.complete ≡ 0 → c.taken ≡ 0 → held ≡ Some before → Reached start before [] c held
reached_none start before c held bench line complete taken h = record {
  session = bench ∙ sym (ap (session_after start) complete_none);
  line = line ∙ sym (ap (take KEPT_LEN) unfinished_none);
  complete = complete ∙ sym (ap length complete_none);
  taken = taken;
  within = record { bytes = omega arith; line_count = omega arith };
  told = h ∙ ap Some (sym (append-nil before)) ∙ sym (ap (λ l. Some (before ++ transcript_of start l)) complete_none);
}

-- the bytes before a newline, and the newline
line_split : (bytes : List ℕ) (n : ℕ) → n < length bytes → get_or bytes n 0 ≡ 10 → take (n + 1) bytes ≡ take n bytes ++ 10 ∷ []
line_split bytes n lt newline = take_more bytes n 0 lt ∙ ap (λ b. take n bytes ++ b ∷ []) newline

-- takes a part of a piece, and then its next part
pub carries_on : {old : Conversation} {held : Option (List ℕ)} (mid : Conversation) (kept : Option (List ℕ)) (new : Conversation) (holds : Option (List ℕ)) (piece : List ℕ) (n count : ℕ) →
    Carries old held (take n piece) (Ok tt) mid kept → Carries mid kept (take count (drop n piece)) (Ok tt) new holds →
    Carries old held (take (n + count) piece) (Ok tt) new holds
carries_on mid kept new holds piece n count one two start before given r =
    subst (λ l. Reached start before (given ++ l) new holds) (sym (take-add n count piece))
    (carries_more mid kept new holds (take n piece) (take count (drop n piece)) (Ok tt) one two start before given r)

-- a piece that exceeds the limit on bytes
pub carries_past : {old : Conversation} {held : Option (List ℕ)} (new : Conversation) (holds : Option (List ℕ)) (piece : List ℕ) (n : ℕ) → n < length piece →
    SCRIPT_BYTES ≤ new.taken → Carries old held (take n piece) (Ok tt) new holds → Carries old held piece (Err stop.TooMuchInput) new holds
carries_past new holds piece n less full one start before given r =
    subst (λ l. Stopped stop.TooMuchInput start before l holds)
    (append_assoc given (take n piece) (drop n piece) ∙ ap (λ l. given ++ l) (take-append-drop n piece))
    (stopped_bound (drop n piece) (omega (arith, length-drop n piece)) (one start before given r) (inl full))

-- a stop within a prefix of a piece
pub carries_front : {old : Conversation} {held : Option (List ℕ)} (new : Conversation) (holds : Option (List ℕ)) (piece : List ℕ) (n : ℕ) (e : Stop) →
    Carries old held (take n piece) (Err e) new holds → Carries old held piece (Err e) new holds
carries_front new holds piece n e one start before given r =
    subst (λ l. Stopped e start before (given ++ l) holds) (take-append-drop n piece)
    (carries_stop new holds (take n piece) (drop n piece) e one start before given r)

-- the index of the first newline
record FirstNewline (bytes : List ℕ) (n : ℕ) : Type 0 where
  within : n < length bytes
  newline : get_or bytes n 0 ≡ 10
  none : list_any is_newline (take n bytes) ≡ false

first_newline : (bytes : List ℕ) (n : ℕ) → IsFirstByte (is_byte 10) bytes (Some n) → FirstNewline bytes n
first_newline bytes n found = record {
  within = found.0.high;
  newline = eqb-true _ _ found.1;
  none = none_before bytes n (λ k lt. false_from_ne_true _ (found.0.before k (omega arith) lt));
}

pub no_newline : (bytes : List ℕ) → IsFirstByte (is_byte 10) bytes None → list_any is_newline bytes ≡ false
no_newline bytes found =
    ap (list_any is_newline) (sym (take_all (length bytes) bytes (omega arith)))
    ∙ none_before bytes (length bytes) (λ k lt. false_from_ne_true _ (found k (omega arith) lt))

-- taking all bytes of a piece is taking the piece
pub carries_all : {old : Conversation} {held : Option (List ℕ)} (new : Conversation) (holds : Option (List ℕ)) (bytes : List ℕ) →
    Carries old held bytes (Ok tt) new holds → Carries old held (take (length bytes) bytes) (Ok tt) new holds
carries_all new holds bytes all start before given r =
    subst (λ l. Reached start before (given ++ l) new holds) (sym (take_all (length bytes) bytes (omega arith))) (all start before given r)

-- takes the bytes of a line and its newline, and answers the line
pub carries_answer : {old : Conversation} {held : Option (List ℕ)} (new : Conversation) (holds : Option (List ℕ)) (bytes : List ℕ) (n : ℕ) (result : Result Unit Stop) →
    IsFirstByte (is_byte 10) bytes (Some n) → old.taken + length bytes ≤ SCRIPT_BYTES → old.complete < SCRIPT_LINES →
    (length old.line.items ≤ KEPT_LEN → Says result held holds (reply old.bench.session (strip_carriage_return (take KEPT_LEN (old.line.items ++ take n bytes))))) →
    (length old.line.items ≤ KEPT_LEN → OnOk result (new.bench.session ≡ after old.bench.session (strip_carriage_return (take KEPT_LEN (old.line.items ++ take n bytes))))) →
    OnOk result (new.line.items ≡ []) → OnOk result (new.complete ≡ old.complete + 1) → OnOk result (new.taken ≡ old.taken + length (take n bytes) + 1) →
    Carries old held (take (n + 1) bytes) result new holds
carries_answer {old} {held} new holds bytes n result found few h said next_session next_line next_complete next_taken start before given r =
    let first = first_newline bytes n found in
    let within : n < length bytes = first.within in
    let part : length (take n bytes) ≡ n = length-take n bytes ∙ min_left n (length bytes) (omega arith) in
    let p = part_taken (take n bytes) first.none (omega arith) h r in
    subst (λ l. Went result start before l new holds) (append_assoc given (take n bytes) (10 ∷ []) ∙ ap (λ l. given ++ l) (sym (line_split bytes n within first.newline)))
    (went_newline new holds result p (omega arith) h (said (kept_length r)) (next_session (kept_length r)) next_line next_complete next_taken)
  where
    min_left : (a b : ℕ) → a ≤ b → min a b ≡ a
    min_left a b le = omega arith
